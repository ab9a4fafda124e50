use Rattle.std.proofs.Common.{◌<◌, ℕ, pos, get_or}
use Rattle.cnf_store.specs.Clauses.{IsLiteral}
use Rattle.solver_tests.proofs.formulas.are_literals.Given as goal

abbrev pub invariant-loop-lit : goal.invariant-loop-lit
invariant-loop-lit l = (k : ℕ) → k < l.lit-index → IsLiteral l.vars (get_or l.clause k (pos 0))
