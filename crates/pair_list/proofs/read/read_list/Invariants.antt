use Rattle.std.proofs.Common.{length}
use Rattle.pair_list.specs.Readings.{Begins}
use Rattle.pair_list.proofs.read.read_list.Given as goal

abbrev pub invariant-loop-rest : goal.invariant-loop-rest
invariant-loop-rest l = Begins l.bytes l.pairs.items l.rest

abbrev pub decreases-loop-rest : goal.decreases-loop-rest
decreases-loop-rest l = length l.rest
