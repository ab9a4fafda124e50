use Rattle.std.proofs.Common.{◌<◌, length}
use Rattle.and_graph.proofs.hashing.Table.slot_of.Given as goal

abbrev pub invariant-loop : goal.invariant-loop
invariant-loop l = l.at < length l.self.slots.items
