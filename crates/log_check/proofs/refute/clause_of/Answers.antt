use Rattle.std.proofs.Common.{arith, sym, subst, ◌∙◌, ◌-◌, []}
use Rattle.cnf_store.specs.Clauses.{AreLiterals}
use Rattle.log_check.proofs.Following.{line_clause, length_before}
use Rattle.log_check.proofs.refute.clause_of.Goals as goal

pub returns-else-number-given-clause-value : goal.returns-else-number-given-clause-value
returns-else-number-given-clause-value c =
    c.clause-else-number-given.ensures.value ∙ sym (line_clause c.args.formula.now c.args.log.now c.args.i c.args.number (c.args.number - c.len-given.result - 1) c.requires.line (omega arith) c.requires.last (omega arith))

pub returns-else-number-given-clause-literals : goal.returns-else-number-given-clause-literals
returns-else-number-given-clause-literals c =
    let e = c.clause-else-number-given.ensures.value ∙ sym (line_clause c.args.formula.now c.args.log.now c.args.i c.args.number (c.args.number - c.len-given.result - 1) c.requires.line (omega arith) c.requires.last (omega arith)) in
    subst (AreLiterals c.args.formula.now.vars) (sym e) (c.requires.within (c.args.number - 1) [] (omega (arith, length_before c.args.formula.now c.args.log.now c.args.i c.requires.line)))
