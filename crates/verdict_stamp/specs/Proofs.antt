-- What a proof of a version's needed pair answers.
use Rattle.std.specs.Prelude.{◌≡◌, ℕ, List, length, Bool}
use Rattle.circ_model.specs.Meaning.{places_of}
use Rattle.circ_model.specs.Correspondence.{MaySplit, Separates}
use Rattle.class_partition.specs.Classes.{Passes, needed}
use Rattle.split_rows.specs.Rows.{SeparatesSome}
use Rattle.verdict_stamp.specs.declared.prover.Proof.{Proof}
use Rattle.verdict_stamp.specs.declared.used.Used.TheVariants.{Version}
use Rattle.verdict_stamp.specs.declared.prover.Proof.TheVariants.{Holds, Splits}
use Rattle.verdict_stamp.specs.Known.{KnownClasses, ArePaired, known_of}
use Rattle.verdict_stamp.specs.Versions.{Passed, Split, Standing}

-- it holds exactly where the pair passes, by the version's needed pairs; else a vector of the same product and k separates it
abbrev pub IsProof : Standing → ℕ → Proof → Type 0
IsProof v m (Holds w) = (w.version ≡ v) × (w.member ≡ m) × (w.used ≡ Version) × Passes v.pair v.k v.classes m
IsProof v m (Splits x) = (x.pair ≡ v.pair) × (x.k ≡ v.k) × Separates x.bits (needed v.classes m) × MaySplit v.pair v.k x.bits × (Passes v.pair v.k v.classes m → ⊥)

-- a row that separates a version's needed pair, which then doesn't pass
pub record IsSplitOf (v : Standing) (m : ℕ) (bits : List Bool) : Type 0 where
  pub size : length bits ≡ places_of v.pair
  pub may : MaySplit v.pair v.k bits
  pub apart : Separates bits (needed v.classes m)
  pub fails : Passes v.pair v.k v.classes m → ⊥

-- a vector of the same product and k that separates a needed pair
abbrev pub IsApart : Standing → ℕ → Split → Type 0
IsApart v m x = (x.pair ≡ v.pair) × (x.k ≡ v.k) × Separates x.bits (needed v.classes m) × MaySplit v.pair v.k x.bits

-- a vector of the same product and k that separates some needed pair
pub record SplitsSome (v : Standing) (x : Split) : Type 0 where
  pub pair_is : x.pair ≡ v.pair
  pub k_is : x.k ≡ v.k
  pub separates : SeparatesSome v.pair v.k v.classes x.bits

-- a pair is settled where it passes, or some vector separates it
abbrev pub IsSettled : Standing → ℕ → Proof → Type 0
IsSettled v m (Holds w) = (w.version ≡ v) × (w.member ≡ m) × Passes v.pair v.k v.classes m
IsSettled v m (Splits x) = IsApart v m x

-- a needed pair passes, by less than all needed pairs of its version
abbrev pub IsListed : Standing → ℕ → Passed → Type 0
IsListed v m w = (w.version ≡ v) × (w.member ≡ m) × Passes v.pair v.k v.classes m × (w.used ≡ Version → ⊥)

-- the answer that a pair passes rests on less than that
abbrev pub RestsOnLess : Proof → Type 0
RestsOnLess (Holds w) = w.used ≡ Version → ⊥
RestsOnLess (Splits x) = Unit {0}

-- what is known isn't proved again: where known classes pair the two literals, that is the answer
abbrev pub IsToldBy : KnownClasses → Standing → ℕ → Proof → Type 0
IsToldBy known v m p = ArePaired known v m → p ≡ Holds (known_of known v m)
