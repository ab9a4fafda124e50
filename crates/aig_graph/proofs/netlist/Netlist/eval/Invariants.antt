use Rattle.aig_graph.proofs.Evaluating.{IsUnderWay}
use Rattle.aig_graph.proofs.netlist.Netlist.eval.Given as goal

abbrev pub invariant-loop-gate : goal.invariant-loop-gate
invariant-loop-gate l = IsUnderWay l.self l.fn.row l.gate-index l.row
