use Rattle.std.proofs.Common.{◌≡◌, map, take}
use Rattle.aig_graph.specs.Walk.{first_level}
use Rattle.aig_graph.proofs.levels.first_levels.Given as goal

abbrev pub invariant-loop-def : goal.invariant-loop-def
invariant-loop-def l = l.level.items ≡ map first_level (take l.def-index l.defs)
