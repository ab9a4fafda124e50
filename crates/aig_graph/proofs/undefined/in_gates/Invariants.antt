use Rattle.std.proofs.Common.{◌≡◌, drop}
use Rattle.aig_graph.specs.Finish.{lowest, right_literals}
use Rattle.aig_graph.proofs.undefined.in_gates.Given as goal

abbrev pub invariant-loop-gate : goal.invariant-loop-gate
invariant-loop-gate l = lowest l.defs l.low (right_literals (drop l.gate-index l.gates)) ≡ lowest l.defs l.least (right_literals l.gates)
