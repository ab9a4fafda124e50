-- Lanes of masks.
use Rattle.std.proofs.Common.{◌≡◌, ◌∙◌, ◌<◌, ◌^◌, ℕ, List, Bool, true, false, not, refl, ap, ap₂, sym, get_or}
use Rattle.std.specs.Prelude.{IsTrue, ◌&&◌, bit_and, bit_xor}
use Rattle.std.specs.Int.{bit_not, w64}
use Rattle.std.proofs.lemmas.Bool.{and_parts}
use Rattle.std.proofs.lemmas.Nat.{xor_lt}
use Rattle.circ_model.specs.Meaning.{bit, signed}
use Rattle.circ_model.proofs.Literals.{value_of_literal}
use Rattle.class_partition.specs.Classes.{Classes, least_of, needed, phase_of, relative}
use Rattle.class_partition.proofs.Signs.{apart_from_together, signed-self}
use Rattle.sim_words.specs.Lanes.{lane, lane_bit}
use Rattle.sim_words.proofs.Lanes.{lane_at, lane_and, lane_not, lane_xor}
use Rattle.circ_model.specs.Correspondence.{Separates}

-- exclusive or tells equal bits from others
same_bits : (x y : Bool) → signed y x ≡ false → x ≡ y
same_bits true true h = refl
same_bits true false h = h
same_bits false true h = sym h
same_bits false false h = refl

other_bits : (x y : Bool) → signed y x ≡ true → x ≡ not y
other_bits true true h = sym h
other_bits true false h = refl
other_bits false true h = refl
other_bits false false h = h

not_true : (x : Bool) → not x ≡ true → x ≡ false
not_true true h = sym h
not_true false h = refl

pub equal_lane : (b x y mask : ℕ) → b < 64 → x < 2 ^ 64 → y < 2 ^ 64 → IsTrue (lane_bit b (bit_and (bit_not w64 (bit_xor x y)) mask)) → (lane_bit b x ≡ lane_bit b y) × IsTrue (lane_bit b mask)
equal_lane b x y mask lt small_x small_y h =
    let parts = and_parts (lane_bit b (bit_not w64 (bit_xor x y))) (lane_bit b mask) (sym (lane_and b (bit_not w64 (bit_xor x y)) mask) ∙ h) in (
      same_bits (lane_bit b x) (lane_bit b y)
          (sym (lane_xor b x y) ∙ not_true (lane_bit b (bit_xor x y)) (sym (lane_not b (bit_xor x y) (xor_lt 64 x y small_x small_y) lt) ∙ parts.0)),
      parts.1,
    )

pub equal_lanes_kept : (b x y mask : ℕ) → b < 64 → x < 2 ^ 64 → y < 2 ^ 64 → IsTrue (lane_bit b mask) → lane_bit b x ≡ lane_bit b y → IsTrue (lane_bit b (bit_and (bit_not w64 (bit_xor x y)) mask))
equal_lanes_kept b x y mask lt small_x small_y on same =
    lane_and b (bit_not w64 (bit_xor x y)) mask
    ∙ ap₂ (λ (p q : Bool). p && q)
    (lane_not b (bit_xor x y) (xor_lt 64 x y small_x small_y) lt ∙ ap not (lane_xor b x y ∙ ap (signed (lane_bit b y)) same ∙ signed-self (lane_bit b y)))
    on

-- a place's word, complemented
pub complemented_lane : (b : ℕ) (words : List ℕ) (p : ℕ) → b < 64 → get_or words p 0 < 2 ^ 64 → lane_bit b (bit_not w64 (get_or words p 0)) ≡ not (bit (lane b words) p)
complemented_lane b words p lt small = lane_not b (get_or words p 0) small lt ∙ ap not (sym (lane_at b words p))

signed_not : (s y : Bool) → signed s (not y) ≡ not (signed s y)
signed_not true y = refl
signed_not false y = refl

-- where a place and its class's least place differ, each with its phase, their needed pair is separated
pub separated : (classes : Classes) (bits : List Bool) (p : ℕ) → signed (relative classes bits p) (relative classes bits (least_of classes p)) ≡ true → Separates bits (needed classes p)
separated classes bits p h =
    let r : ℕ = least_of classes p in
    let s : Bool = phase_of classes r in
    let t : Bool = phase_of classes p in
    value_of_literal bits r false
    ∙ apart_from_together s t (bit bits r) (not (bit bits p)) (other_bits (signed s (bit bits r)) (signed t (bit bits p)) h ∙ sym (signed_not t (bit bits p)))
    ∙ signed_not (signed s t) (bit bits p)
    ∙ ap not (sym (value_of_literal bits p (signed s t)))

-- a lane that is not among those in which two words differ, and is one of the mask
pub not_apart : (x y mask : Bool) → (signed y x && mask) ≡ false → IsTrue mask → x ≡ y
not_apart true true mask h on = refl
not_apart false false mask h on = refl
not_apart true false mask h on = sym on ∙ h
not_apart false true mask h on = sym (sym on ∙ h)
