use Rattle.std.proofs.Common.{arith, ap, length, sym, subst, ◌∙◌, List}
use Rattle.cnf_store.specs.Clauses.{AreLiterals}
use Rattle.sat_log.specs.Derivations.{Line, line_at}
use Rattle.sat_log.specs.Lines.{AreLines}
use Rattle.sat_log.proofs.Rows.{length_lines, literals_at, line_is}
use Rattle.sat_log.proofs.log.Log.clause.Goals as goal

pub get-requires : goal.get-requires
get-requires c =
    let s = c.self.inside in
    omega (arith, length_lines s.clauses s.hints c.self.invariant.same, ap length c.self.view_is, c.requires)

pub returns-clause-value : goal.returns-clause-value
returns-clause-value c =
    let s = c.self.inside in
    c.get.ensures ∙ sym (literals_at s.clauses s.hints c.args.i c.self.invariant.same) ∙ ap (λ (ls : List Line). (line_at ls c.args.i).literals) c.self.view_is

pub returns-clause-literals : goal.returns-clause-literals
returns-clause-literals c =
    let s = c.self.inside in
    let e = c.get.ensures ∙ sym (literals_at s.clauses s.hints c.args.i c.self.invariant.same) ∙ ap (λ (ls : List Line). (line_at ls c.args.i).literals) c.self.view_is in
    subst (AreLiterals 2147483647) (sym e) (line_is c.args.self.now c.args.i (subst AreLines c.self.view_is c.self.invariant.lines) c.requires).literals
