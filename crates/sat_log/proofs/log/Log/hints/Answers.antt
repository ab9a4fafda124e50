use Rattle.std.proofs.Common.{arith, ap, length, sym, subst, ◌∙◌, ◌<◌, ℕ, List}
use Rattle.std.specs.List.{All}
use Rattle.sat_log.specs.Derivations.{Line, line_at}
use Rattle.sat_log.specs.Lines.{AreLines}
use Rattle.sat_log.proofs.Rows.{length_lines, hints_at, line_is}
use Rattle.sat_log.proofs.log.Log.hints.Goals as goal

pub get-requires : goal.get-requires
get-requires c =
    let s = c.self.inside in
    omega (arith, length_lines s.clauses s.hints c.self.invariant.same, ap length c.self.view_is, c.requires, c.self.invariant.same)

pub returns-clause-value : goal.returns-clause-value
returns-clause-value c =
    let s = c.self.inside in
    c.get.ensures ∙ sym (hints_at s.clauses s.hints c.args.i c.self.invariant.same) ∙ ap (λ (ls : List Line). (line_at ls c.args.i).hints) c.self.view_is

pub returns-clause-given : goal.returns-clause-given
returns-clause-given c =
    let s = c.self.inside in
    let e = c.get.ensures ∙ sym (hints_at s.clauses s.hints c.args.i c.self.invariant.same) ∙ ap (λ (ls : List Line). (line_at ls c.args.i).hints) c.self.view_is in
    subst (λ (hs : List ℕ). All (λ h. 0 < h) hs) (sym e) (line_is c.args.self.now c.args.i (subst AreLines c.self.view_is c.self.invariant.lines) c.requires).hints
