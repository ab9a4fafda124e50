use Rattle.std.proofs.Common.{◌≡◌, drop, map}
use Rattle.circ_model.specs.declared.netlist.Latch.{Latch}
use Rattle.aig_graph.specs.Finish.{lowest}
use Rattle.aig_graph.proofs.undefined.in_latches.Given as goal

abbrev pub invariant-loop-latch : goal.invariant-loop-latch
invariant-loop-latch l = lowest l.defs l.low (map (λ (q : Latch). q.next) (drop l.latch-index l.latches)) ≡ lowest l.defs l.least (map (λ (q : Latch). q.next) l.latches)
