use Rattle.aiger_binary.specs.Binary.{latch_at, each_from}
use Rattle.aiger_binary.proofs.Loops.{Rest}
use Rattle.aiger_binary.proofs.latch.read_latches.Given as goal

abbrev pub invariant-loop-i : goal.invariant-loop-i
invariant-loop-i l = Rest (latch_at l.bytes) l.count l.first l.i (l.builder, l.at) (each_from (latch_at l.bytes) l.count l.first (l.fn.builder, l.start))
