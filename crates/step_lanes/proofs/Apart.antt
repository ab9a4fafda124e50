-- The lowest lane in which a needed pair is separated, and rows that are told by equal parts.
use Rattle.std.proofs.Common.{◌≡◌, ◌∙◌, ◌<◌, ◌&&◌, ℕ, List, Bool, false, Option, Some, None, ap₂, sym, arith}
use Rattle.std.specs.Prelude.{IsTrue}
use Rattle.std.proofs.lemmas.Bool.{and_parts}
use Rattle.circ_model.specs.Meaning.{Pair, signed}
use Rattle.circ_model.specs.Correspondence.{HoldsIn}
use Rattle.class_partition.specs.Classes.{Classes, least_of, needed, relative}
use Rattle.class_partition.proofs.Partition.{needed_from_relative}
use Rattle.sim_words.specs.Lanes.{lane, lane_bit}
use Rattle.step_lanes.specs.Rows.{AreLaneRows, IsFirstApart, IsFirstLane, MaskedRows}
use Rattle.step_lanes.proofs.MaskedLanes.{not_apart, separated}

pub equal_rows : (pair other : Pair) (k l mask : ℕ) (words items : List ℕ) → pair ≡ other → k ≡ l → words ≡ items
    → AreLaneRows (record { pair = other; k = l; mask = mask; words = items }) → AreLaneRows (record { pair = pair; k = k; mask = mask; words = words })
equal_rows pair other k l mask words items e f g h = rw e (rw f (rw g h))

-- a place's word, with its phase, lane by lane
abbrev pub IsPhased : MaskedRows → Classes → ℕ → ℕ → Type 0
IsPhased r classes p word = (b : ℕ) → b < 64 → lane_bit b word ≡ relative classes (lane b r.words) p

-- these are the lanes of the mask, among some lanes, in which two words differ
abbrev pub AreApart : MaskedRows → ℕ → ℕ → ℕ → ℕ → Type 0
AreApart r among x y lanes = (b : ℕ) → lane_bit b lanes ≡ (signed (lane_bit b y) (lane_bit b x) && (lane_bit b r.mask && lane_bit b among))

-- in the others of them the pair holds
holds_elsewhere : (r : MaskedRows) (among : ℕ) (classes : Classes) (m x y lanes : ℕ) → IsPhased r classes (least_of classes m) x → IsPhased r classes m y → AreApart r among x y lanes
    → (c : ℕ) → c < 64 → lane_bit c lanes ≡ false → IsTrue (lane_bit c r.mask) → IsTrue (lane_bit c among) → HoldsIn (lane c r.words) (needed classes m)
holds_elsewhere r among classes m x y lanes least member apart c lt off on here =
    needed_from_relative classes (lane c r.words) m
    (sym (least c lt) ∙ not_apart (lane_bit c x) (lane_bit c y) (lane_bit c r.mask && lane_bit c among) (sym (apart c) ∙ off) (ap₂ (λ (p q : Bool). p && q) on here) ∙ member c lt)

pub first_apart : (r : MaskedRows) (among : ℕ) (classes : Classes) (m x y lanes : ℕ) (found : Option ℕ) → IsPhased r classes (least_of classes m) x → IsPhased r classes m y → AreApart r among x y lanes
    → IsFirstLane lanes found → IsFirstApart r among classes m found
first_apart r among classes m x y lanes None least member apart first = λ c lt on here. holds_elsewhere r among classes m x y lanes least member apart c lt (first c lt) on here
first_apart r among classes m x y lanes (Some b) least member apart (lt, on, before) =
    let parts = and_parts (signed (lane_bit b y) (lane_bit b x)) (lane_bit b r.mask && lane_bit b among) (sym (apart b) ∙ on) in
    let both = and_parts (lane_bit b r.mask) (lane_bit b among) parts.1 in (
      lt,
      both.0,
      both.1,
      separated classes (lane b r.words) m (sym (ap₂ signed (member b lt) (least b lt)) ∙ parts.0),
      λ c less own here. holds_elsewhere r among classes m x y lanes least member apart c (omega arith) (before c less) own here,
    )
