use Rattle.step_lanes.proofs.Packed.{IsPacked}
use Rattle.step_lanes.proofs.rows.packed_word.Given as goal

abbrev pub invariant-loop-k : goal.invariant-loop-k
invariant-loop-k l = IsPacked l.index l.words l.k l.packed
