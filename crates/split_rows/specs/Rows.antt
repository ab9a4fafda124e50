-- Rows that may split, and those that separate a needed pair.
use Rattle.std.specs.Prelude.{◌≡◌, ◌<◌, ℕ, List, length, All, Bool}
use Rattle.circ_model.specs.Meaning.{Pair, places_of}
use Rattle.circ_model.specs.Correspondence.{MaySplit, Separates}
use Rattle.class_partition.specs.Classes.{Classes, needed}
use Rattle.step_lanes.specs.Rows.{MaskedRows}

-- blocks of a pair, for induction over k frames
abbrev pub AreOf : Pair → ℕ → List MaskedRows → Type 0
AreOf pair k blocks = All (λ (b : MaskedRows). (b.pair ≡ pair) × (b.k ≡ k)) blocks

-- a row that may split, and separates a needed pair
pub record IsRowApart (pair : Pair) (k : ℕ) (classes : Classes) (m : ℕ) (bits : List Bool) : Type 0 where
  pub size : length bits ≡ places_of pair
  pub may : MaySplit pair k bits
  pub apart : Separates bits (needed classes m)

-- frames below a bound, each with a place
abbrev pub AllBroken : ℕ → ℕ → List (ℕ × ℕ) → Type 0
AllBroken frames places broken = All (λ (p : ℕ × ℕ). (p.0 < frames) × (p.1 < places)) broken

-- a row that may split, and separates some needed pair
pub record SeparatesSome (pair : Pair) (k : ℕ) (classes : Classes) (bits : List Bool) : Type 0 where
  pub member : ℕ
  pub within : member < places_of pair
  pub apart : IsRowApart pair k classes member bits
