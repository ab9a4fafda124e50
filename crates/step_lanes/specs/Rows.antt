-- 64 rows that may split, and which of them separate a needed pair.
use Rattle.std.specs.Prelude.{◌≡◌, ℕ, ◌<◌, List, length, false, IsTrue, Option, Some, None}
use Rattle.circ_model.specs.Meaning.{Pair, places_of}
use Rattle.circ_model.specs.Correspondence.{HoldsIn, Separates, MaySplit}
use Rattle.class_partition.specs.Classes.{Classes, needed}
use Rattle.sim_words.specs.Lanes.{lane, lane_bit}

-- a word for each place of a pair, and a mask of lanes
pub record MaskedRows : Type 0 where
  pub pair : Pair
  pub k : ℕ
  pub mask : ℕ
  pub words : List ℕ

-- the row in each lane of the mask separates no pair of the greatest correspondence
pub record AreLaneRows (r : MaskedRows) : Type 0 where
  pub places : length r.words ≡ places_of r.pair
  pub may : (b : ℕ) → b < 64 → IsTrue (lane_bit b r.mask) → MaySplit r.pair r.k (lane b r.words)

-- the lowest lane of a word, or none if it has none
abbrev pub IsFirstLane : ℕ → Option ℕ → Type 0
IsFirstLane lanes (Some b) = (b < 64) × IsTrue (lane_bit b lanes) × ((c : ℕ) → c < b → lane_bit c lanes ≡ false)
IsFirstLane lanes None = (c : ℕ) → c < 64 → lane_bit c lanes ≡ false

-- the lowest lane of the mask, among some lanes, in which a place and its class's least place differ, each with its phase; or none if they are equal in all
abbrev pub IsFirstApart : MaskedRows → ℕ → Classes → ℕ → Option ℕ → Type 0
IsFirstApart r among classes m (Some b) =
    (b < 64) × IsTrue (lane_bit b r.mask) × IsTrue (lane_bit b among) × Separates (lane b r.words) (needed classes m)
    × ((c : ℕ) → c < b → IsTrue (lane_bit c r.mask) → IsTrue (lane_bit c among) → HoldsIn (lane c r.words) (needed classes m))
IsFirstApart r among classes m None = (c : ℕ) → c < 64 → IsTrue (lane_bit c r.mask) → IsTrue (lane_bit c among) → HoldsIn (lane c r.words) (needed classes m)
