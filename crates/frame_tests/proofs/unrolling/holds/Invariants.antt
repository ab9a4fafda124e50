use Rattle.std.proofs.Common.{◌≡◌, take, true}
use Rattle.cnf_store.specs.Clauses.{satisfies}
use Rattle.frame_tests.proofs.unrolling.holds.Given as goal

abbrev pub invariant-loop-i : goal.invariant-loop-i
invariant-loop-i l = satisfies l.row (take l.i l.cnf.clauses) ≡ true
