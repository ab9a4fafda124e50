-- Verdicts that rest on the pairs that a log uses.
use Rattle.std.specs.Prelude.{◌≡◌, ℕ, leb, List, length, if◌then◌else◌}
use Rattle.sat_log.specs.Derivations.{Line}
use Rattle.class_partition.specs.declared.classes.Needed.{Needed}
use Rattle.used_pairs.specs.Logs.{AreUsed, step_asked}
use Rattle.verdict_stamp.specs.declared.used.Used.{Used}
use Rattle.verdict_stamp.specs.declared.used.Used.TheVariants.{Pairs, Version}
use Rattle.verdict_stamp.specs.Versions.{Standing, Passed}

-- a verdict names up to 64 pairs, and else all needed pairs of its version
abbrev pub used_by : List Needed → Used
used_by pairs = if leb (length pairs) 64 then Pairs pairs else Version

-- it is of the needed pair, and rests on those of which the log reaches a clause
abbrev pub RestsOnLog : Standing → ℕ → List Line → Passed → Type 0
RestsOnLog v m log w = (w.version ≡ v) × (w.member ≡ m) × (pairs : List Needed) × AreUsed v.classes (step_asked v.pair v.k v.classes m) log pairs × (w.used ≡ used_by pairs)
