-- Lanes of words: what they hold, and what operations on words are lane by lane.
use Rattle.std.proofs.Common.{◌≡◌, ◌∙◌, ◌<◌, ◌==◌, ◌^◌, ◌&&◌, ◌%◌, ◌+◌, ℕ, zero, suc, List, [], ◌∷◌, true, false, not, get_or, set, refl, ap, sym, arith}
use Rattle.std.specs.Int.{bit_at, bit_not, w64}
use Rattle.std.specs.Prelude.{bit_and, bit_xor}
use Rattle.std.proofs.lemmas.Bool.Decides.{nat_tests}
use Rattle.std.proofs.lemmas.Nat.Bits.{bit_at-zero, bit_at-lt, bit_at_and, bit_at_not, bit_at_xor}
use Rattle.circ_model.specs.Meaning.{bit, signed}
use Rattle.sim_words.specs.Lanes.{lane, lane_bit}

pub lane_zero : (b : ℕ) → lane_bit b 0 ≡ false
lane_zero b = ap (λ n. n == 1) (bit_at-zero b)

pub lane_not : (b a : ℕ) → a < 2 ^ 64 → b < 64 → lane_bit b (bit_not w64 a) ≡ not (lane_bit b a)
lane_not b a small lt =
    let x = bit_at-lt a b in
    let m = bit_at_not w64 a b small lt in
    grind (arith, nat_tests)

pub lane_ones : (b : ℕ) → b < 64 → lane_bit b (bit_not w64 0) ≡ true
lane_ones b lt = lane_not b 0 (omega arith) lt ∙ ap not (lane_zero b)

pub lane_and : (b x y : ℕ) → lane_bit b (bit_and x y) ≡ (lane_bit b x && lane_bit b y)
lane_and b x y =
    let p = bit_at-lt x b in
    let q = bit_at-lt y b in
    let m = bit_at_and x y b in
    grind (arith, nat_tests)

xor_bits : (x y z : ℕ) → x < 2 → y < 2 → z ≡ (x + y) % 2 → (z == 1) ≡ signed (y == 1) (x == 1)
xor_bits zero zero z p q e = rw e refl
xor_bits zero (suc zero) z p q e = rw e refl
xor_bits (suc zero) zero z p q e = rw e refl
xor_bits (suc zero) (suc zero) z p q e = rw e refl
xor_bits (suc (suc x)) y z p q e = absurd (omega arith)
xor_bits x (suc (suc y)) z p q e = absurd (omega arith)

-- a word complemented by a mask
pub lane_xor : (b x y : ℕ) → lane_bit b (bit_xor x y) ≡ signed (lane_bit b y) (lane_bit b x)
lane_xor b x y = xor_bits (bit_at x b) (bit_at y b) (bit_at (bit_xor x y) b) (bit_at-lt x b) (bit_at-lt y b) (bit_at_xor x y b)

-- the bit at a place of a lane
pub lane_at : (b : ℕ) (ws : List ℕ) (k : ℕ) → bit (lane b ws) k ≡ lane_bit b (get_or ws k 0)
lane_at b [] k = sym (lane_zero b)
lane_at b (w ∷ ws) zero = refl
lane_at b (w ∷ ws) (suc k) = lane_at b ws k

-- one word changed
pub lane_set : (b : ℕ) (ws : List ℕ) (k w : ℕ) → lane b (set ws k w) ≡ set (lane b ws) k (lane_bit b w)
lane_set b [] k w = refl
lane_set b (v ∷ ws) zero w = refl
lane_set b (v ∷ ws) (suc k) w = ap (λ bs. lane_bit b v ∷ bs) (lane_set b ws k w)
