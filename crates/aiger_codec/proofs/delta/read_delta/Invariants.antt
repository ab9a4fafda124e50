use Rattle.aiger_codec.proofs.DeltaSteps.{Spelling}
use Rattle.aiger_codec.proofs.delta.read_delta.Given as goal

abbrev pub invariant-loop-i : goal.invariant-loop-i
invariant-loop-i l = Spelling l.bytes l.at l.i l.value l.weight
