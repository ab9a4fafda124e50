use Rattle.std.proofs.Common.{◌≡◌}
use Rattle.verdict_stamp.proofs.Rounds.{IsRound}
use Rattle.verdict_stamp.proofs.refine.prove_all.Given as goal

abbrev pub invariant-loop-member : goal.invariant-loop-member
invariant-loop-member l = (l.prover ≡ l.initial.prover) × IsRound l.fn.prover l.next l.added l.member
