-- Classes whose literals are known to correspond, and what they say of a version's needed pairs.
use Rattle.std.specs.Prelude.{◌≡◌, ℕ, ◌/◌, ◌<◌, ◌≤◌}
use Rattle.circ_model.specs.Meaning.{Pair, places_of}
use Rattle.circ_model.specs.Correspondence.{Corresponds}
use Rattle.class_partition.specs.Classes.{Classes, ArePartition, Pairs, needed}
use Rattle.verdict_stamp.specs.declared.used.Used.TheVariants.{Known}
use Rattle.verdict_stamp.specs.Versions.{Standing, Passed}

-- classes of a pair's places, for induction over k frames
pub record KnownClasses : Type 0 where
  pub pair : Pair
  pub k : ℕ
  pub classes : Classes

-- two literals that they pair are a pair of the greatest correspondence
pub record AreKnown (known : KnownClasses) : Type 0 where
  pub some : 0 < known.k
  pub partition : ArePartition (places_of known.pair) known.classes
  pub correspond : (a b : ℕ) → a / 2 < places_of known.pair → b / 2 < places_of known.pair → Pairs known.classes a b → Corresponds known.pair known.k a b

-- known classes pair the two literals of a version's needed pair
abbrev pub ArePaired : KnownClasses → Standing → ℕ → Type 0
ArePaired known v m = Pairs known.classes (needed v.classes m).0 (needed v.classes m).1

-- they are of a version's pair of netlists, and for no more frames than it
abbrev pub IsBelow : KnownClasses → Standing → Type 0
IsBelow known v = (known.pair ≡ v.pair) × (known.k ≤ v.k)

-- they tell that the needed pair passes
abbrev pub Tells : KnownClasses → Standing → ℕ → Type 0
Tells known v m = IsBelow known v × ArePaired known v m

-- and the verdict that says so
abbrev pub known_of : KnownClasses → Standing → ℕ → Passed
known_of known v m = record { version = v; member = m; used = Known known.k }
