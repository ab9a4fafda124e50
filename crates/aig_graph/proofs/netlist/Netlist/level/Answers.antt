use Rattle.aig_graph.proofs.OneLevel.{level_read}
use Rattle.aig_graph.proofs.netlist.Netlist.level.Goals as goal

pub returns : goal.returns
returns c = level_read _ c.args.self.now c.self.inside.levels.items c.args.var c.index.result.now c.self.view_is c.self.invariant c.requires c.index.ensures
