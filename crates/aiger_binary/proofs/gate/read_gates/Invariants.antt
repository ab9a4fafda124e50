use Rattle.aiger_binary.specs.Binary.{gate_at, each_from}
use Rattle.aiger_binary.proofs.Loops.{Rest}
use Rattle.aiger_binary.proofs.gate.read_gates.Given as goal

abbrev pub invariant-loop-i : goal.invariant-loop-i
invariant-loop-i l = Rest (gate_at l.bytes) l.count l.first l.i (l.builder, l.at) (each_from (gate_at l.bytes) l.count l.first (l.fn.builder, l.start))
