use Rattle.std.proofs.Common.{◌≡◌}
use Rattle.log_trim.proofs.Ranks.{ranks, kept_to}
use Rattle.log_trim.proofs.trimming.add_marked.Given as goal

abbrev pub invariant-loop-i : goal.invariant-loop-i
invariant-loop-i l = record {
  kept : l.kept ≡ kept_to l.given l.log l.marks l.i;
  before : l.before.items ≡ ranks l.marks l.i;
}
