use Rattle.std.proofs.Common.{◌∙◌, subst, sym}
use Rattle.cnf_store.specs.Clauses.{AreLiterals}
use Rattle.frame_unroll.proofs.Within.{some_within}
use Rattle.frame_unroll.proofs.question.add_some.Goals as goal

pub add_clause-requires : goal.add_clause-requires
add_clause-requires c = record { literals = subst (AreLiterals c.args.cnf.now.vars) (sym (c.as_slice.ensures.value ∙ c.in_ok-clause.ensures)) (some_within c.args.cnf.now.vars c.args.d c.args.count c.requires.variable) }
