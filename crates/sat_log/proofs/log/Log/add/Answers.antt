use Rattle.std.proofs.Common.{◌∙◌, ◌∷◌, [], ◌++◌, List, ap}
use Rattle.sat_log.specs.Derivations.{Line}
use Rattle.sat_log.proofs.Rows.{rows_push, lines_added}
use Rattle.sat_log.proofs.log.Log.add.Goals as goal

pub invariant_of-self-2 : goal.invariant_of-self-2
invariant_of-self-2 c =
    let s = c.self.inside in
    let e = c.in_ok-add_both.ensures in
    rows_push s.clauses c.add_both.new.clauses s.hints c.add_both.new.rows c.args.clause.now c.args.hints.now c.self.invariant e.clauses e.rows c.requires.literals c.requires.hints

pub returns-clause-added : goal.returns-clause-added
returns-clause-added c =
    let s = c.self.inside in
    let e = c.in_ok-add_both.ensures in
    lines_added s.clauses c.add_both.new.clauses s.hints c.add_both.new.rows c.args.clause.now c.args.hints.now c.self.invariant e.clauses e.rows
    ∙ ap (λ (ls : List Line). ls ++ record { literals = c.args.clause.now; hints = c.args.hints.now } ∷ []) c.self.view_is
