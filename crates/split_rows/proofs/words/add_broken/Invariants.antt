use Rattle.std.proofs.Common.{◌+◌, length}
use Rattle.split_rows.specs.Rows.{AllBroken}
use Rattle.split_rows.proofs.words.add_broken.Given as goal

abbrev pub invariant-loop-p : goal.invariant-loop-p
invariant-loop-p l = AllBroken (l.frame + 1) (length l.classes.least) l.broken.items
