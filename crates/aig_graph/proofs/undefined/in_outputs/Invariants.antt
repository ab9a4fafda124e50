use Rattle.std.proofs.Common.{◌≡◌, drop}
use Rattle.aig_graph.specs.Finish.{lowest}
use Rattle.aig_graph.proofs.undefined.in_outputs.Given as goal

abbrev pub invariant-loop-lit : goal.invariant-loop-lit
invariant-loop-lit l = lowest l.defs l.low (drop l.lit-index l.outputs) ≡ lowest l.defs l.least l.outputs
