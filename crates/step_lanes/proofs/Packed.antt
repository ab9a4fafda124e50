-- A lane that is packed, 64 of its bits in each word.
use Rattle.std.proofs.Common.{◌≡◌, ◌∙◌, ◌<◌, ◌≤◌, ◌+◌, ◌-◌, ◌*◌, ◌/◌, ◌%◌, ◌^◌, ◌==◌, ℕ, List, length, get_or, ap, sym, add-one, arith, ⊎_elim}
use Rattle.std.specs.Int.{bit_at}
use Rattle.std.specs.Int.Bits.{or_shifted_r}
use Rattle.std.specs.Prelude.{bit_and, bit_or}
use Rattle.std.proofs.Math.Nat.{mod-eq_of_lt, pow-suc}
use Rattle.std.proofs.Math.Pow.{pow_mono, shl_lt}
use Rattle.std.proofs.lemmas.Bool.{cases_lt}
use Rattle.std.proofs.lemmas.Nat.{mul-add-lt}
use Rattle.std.proofs.lemmas.Nat.Bits.{bit_at-lt, bit_at_cat_low, bit_at_cat_high, bit_at_lowest, shr_and_one}
use Rattle.bit_rows.specs.Words.{row_bits, word_bit}
use Rattle.bit_rows.proofs.Words.{row_is}
use Rattle.sim_words.specs.Lanes.{lane, lane_bit}
use Rattle.sim_words.proofs.Lanes.{lane_at}
use Rattle.sim_words.proofs.Frames.{length_lane}

-- a word with the bits that a lane has in the first k words, and no other
pub record IsPacked (b : ℕ) (ws : List ℕ) (k packed : ℕ) : Type 0 where
  pub small : packed < 2 ^ k
  pub bits : (i : ℕ) → i < k → lane_bit i packed ≡ lane_bit b (get_or ws i 0)

-- a bit written above the bits of a number
one_more : (n a k : ℕ) → n < 2 ^ k → a < 2 → k < 64 → bit_or n (a * 2 ^ k % 2 ^ 64) ≡ a * 2 ^ k + n
one_more n a k small one lt =
    let room : a * 2 ^ k < 2 ^ (1 + k) = shl_lt {a = a} 1 k one in
    let below : 1 + k ≤ 64 = omega arith in
    let width : 2 ^ (1 + k) ≤ 2 ^ 64 = pow_mono below in
    let fits : a * 2 ^ k < 2 ^ 64 = omega arith in
    ap (bit_or n) (mod-eq_of_lt fits) ∙ or_shifted_r a k n small

-- which is then the highest
highest_bit : (n a k : ℕ) → n < 2 ^ k → a < 2 → bit_at (a * 2 ^ k + n) k ≡ a
highest_bit n a k small one =
    let none : k - k ≡ 0 = omega arith in
    let all : a % 2 ≡ a = omega arith in
    bit_at_cat_high a k n k small (omega arith) ∙ ap (bit_at a) none ∙ bit_at_lowest a ∙ all

-- one bit of a lane more
pub packed_more : (b : ℕ) (ws : List ℕ) (k packed : ℕ) → k < 64 → IsPacked b ws k packed → IsPacked b ws (k + 1) (bit_or packed (bit_and (get_or ws k 0 / 2 ^ b) 1 * 2 ^ k % 2 ^ 64))
packed_more b ws k packed lt is =
    let word = get_or ws k 0 in
    let a = bit_and (word / 2 ^ b) 1 in
    let bit : a ≡ bit_at word b = shr_and_one word b in
    let one : a < 2 = omega (arith, bit_at-lt word b) in
    let sum = one_more packed a k is.small one lt in
    let twice : 2 ^ (k + 1) ≡ 2 ^ k * 2 = ap (λ (n : ℕ). 2 ^ n) (add-one k) ∙ pow-suc 2 k in
    record {
      small = omega (arith, sum, mul-add-lt a (2 ^ k) packed 2 one is.small, twice);
      bits = λ i below. ap (lane_bit i) sum ∙ ⊎_elim
          (λ (low : i < k). ap (λ (n : ℕ). n == 1) (bit_at_cat_low a k packed i low) ∙ is.bits i low)
          (λ (high : k ≤ i). let here : i ≡ k = omega arith in rw here (ap (λ (n : ℕ). n == 1) (highest_bit packed a k is.small one ∙ bit)))
          (cases_lt i k);
    }

-- words with the bits that a lane has in the first 64 * i words
pub record ArePacked (b : ℕ) (ws : List ℕ) (i : ℕ) (vs : List ℕ) : Type 0 where
  pub size : length vs ≡ i
  pub bits : (k : ℕ) → k < 64 * i → k < length ws → word_bit vs k ≡ lane_bit b (get_or ws k 0)

pub packed_all : (b : ℕ) (ws : List ℕ) (i : ℕ) (vs : List ℕ) → length ws ≤ 64 * i → ArePacked b ws i vs → row_bits vs (length ws) ≡ lane b ws
packed_all b ws i vs all is = row_is vs (length ws) (lane b ws) (length_lane b ws) (λ k lt. lane_at b ws k ∙ sym (is.bits k (omega arith) lt))
