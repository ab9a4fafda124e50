use Rattle.std.proofs.Common.{◌≡◌, length}
use Rattle.split_rows.specs.Rows.{AreOf}
use Rattle.split_rows.proofs.rows.SplitRows.turn_to.Given as goal

abbrev pub invariant-loop-block : goal.invariant-loop-block
invariant-loop-block l = (l.self ≡ l.initial.self) × AreOf l.self.pair l.self.k l.blocks.items

abbrev pub decreases-loop-block : goal.decreases-loop-block
decreases-loop-block l = length l.blocks.items
