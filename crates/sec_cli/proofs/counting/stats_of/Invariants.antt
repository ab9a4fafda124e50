use Rattle.std.proofs.Common.{◌≡◌, take}
use Rattle.sec_cli.specs.Stats.{stats_of}
use Rattle.sec_cli.proofs.counting.stats_of.Given as goal

abbrev pub invariant-loop-i : goal.invariant-loop-i
invariant-loop-i l = l.stats ≡ stats_of (take l.i l.journal.entries)
