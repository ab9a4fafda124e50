use Rattle.std.proofs.Common.{◌<◌, get_or}
use Rattle.aig_graph.specs.Walk.{Walk, Keeps, all_steps, var_in}
use Rattle.aig_graph.proofs.levels.settle.Given as goal

abbrev pub invariant-turns : goal.invariant-turns
invariant-turns l = record {
  walk : Walk l.defs l.gates l.level l.stack.items;
  keeps : Keeps l.fn.level l.level;
  met : get_or l.level (var_in l.gates l.number) 0 < 4294967295;
}

abbrev pub decreases-turns : goal.decreases-turns
decreases-turns l = all_steps l.level
