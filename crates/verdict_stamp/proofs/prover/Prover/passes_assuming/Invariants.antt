use Rattle.std.proofs.Common.{◌≡◌}
use Rattle.verdict_stamp.proofs.prover.Prover.passes_assuming.Given as goal

abbrev pub invariant-loop : goal.invariant-loop
invariant-loop l = l.self ≡ l.initial.self
