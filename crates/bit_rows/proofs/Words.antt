-- What a row of bits in words answers.
use Rattle.std.proofs.Common.{◌≡◌, ◌∙◌, ◌<◌, ◌≤◌, ◌≢◌, ◌*◌, ◌/◌, ◌%◌, ◌==◌, ◌⊎◌, ℕ, List, Bool, false, length, get_or, set, replicate, ap, sym, arith, inl, inr}
use Rattle.std.proofs.lemmas.Bool.{cases_eq}
use Rattle.std.specs.Int.{bit_at}
use Rattle.std.proofs.lemmas.List.{get_or-set_same, get_or-set_other, length-set}
use Rattle.std.proofs.lemmas.List.FromFn.{get_or-map-range_with_len, length-map-range_with_len, fill_by_all}
use Rattle.std.proofs.lemmas.Simd.{length-replicate, get_or-replicate}
use Rattle.std.proofs.lemmas.Nat.Bits.{bit_at-zero}
use Rattle.bit_rows.specs.Words.{row_bits, word_bit, AreWordsFor}

pub row_length : (ws : List ℕ) (n : ℕ) → length (row_bits ws n) ≡ n
unfolding row_bits
row_length ws n = length-map-range_with_len (word_bit ws) 0 n

pub row_get : (ws : List ℕ) (n i : ℕ) → i < n → get_or (row_bits ws n) i false ≡ word_bit ws i
unfolding row_bits
row_get ws n i h = get_or-map-range_with_len (word_bit ws) 0 n i i false h (omega arith)

-- a list with the same bits
pub row_is : (ws : List ℕ) (n : ℕ) (bs : List Bool) → length bs ≡ n → ((k : ℕ) → k < n → get_or bs k false ≡ word_bit ws k) → row_bits ws n ≡ bs
unfolding row_bits
row_is ws n bs h each = sym (fill_by_all (word_bit ws) bs n false h each)

zero_bit : (i : ℕ) → (bit_at 0 i == 1) ≡ false
zero_bit i = ap (λ b. b == 1) (bit_at-zero i)

pub row_zeros : (ws : List ℕ) (n m : ℕ) → ws ≡ replicate m 0 → n ≤ 64 * m → row_bits ws n ≡ replicate n false
row_zeros ws n m e h = row_is ws n (replicate n false) (length-replicate n false) (λ k lt.
    get_or-replicate n k false false lt ∙ sym (ap (λ w. bit_at w (k % 64) == 1) (ap (λ l. get_or l (k / 64) 0) e ∙ get_or-replicate m (k / 64) 0 0 (omega arith)) ∙ zero_bit (k % 64)))

-- a place below the length has its word
pub row_room : (ws : List ℕ) (n i : ℕ) (bs : List Bool) → row_bits ws n ≡ bs → i < length bs → i < n
row_room ws n i bs e h = omega (arith, row_length ws n, ap length e)

set_at : (ws : List ℕ) (n i w : ℕ) (bit : Bool) → AreWordsFor ws n → i < n → (bit_at w (i % 64) == 1) ≡ bit
    → ((k : ℕ) → k < 64 → k ≢ i % 64 → bit_at w k ≡ bit_at (get_or ws (i / 64) 0) k)
    → (k : ℕ) → k < n → (k ≡ i) ⊎ (k ≢ i) → (k / 64 ≡ i / 64) ⊎ (k / 64 ≢ i / 64)
    → get_or (set (row_bits ws n) i bit) k false ≡ word_bit (set ws (i / 64) w) k
set_at ws n i w bit room lt same others k kn (inl e) either =
    let in_row : i < length (row_bits ws n) = omega (arith, row_length ws n) in
    let in_words : i / 64 < length ws = omega arith in
    rw e (get_or-set_same (row_bits ws n) i bit false in_row ∙ sym (ap (λ v. bit_at v (i % 64) == 1) (get_or-set_same ws (i / 64) w 0 in_words) ∙ same))
set_at ws n i w bit room lt same others k kn (inr ne) (inl e) =
    let in_words : i / 64 < length ws = omega arith in
    let apart : k % 64 ≢ i % 64 = λ h. ne (omega arith) in
    get_or-set_other (row_bits ws n) i k bit false ne ∙ row_get ws n k kn
    ∙ ap (λ (q : ℕ). bit_at (get_or ws q 0) (k % 64) == 1) e
    ∙ ap (λ (b : ℕ). b == 1) (sym (others (k % 64) (omega arith) apart))
    ∙ sym (ap (λ v. bit_at v (k % 64) == 1) (ap (λ q. get_or (set ws (i / 64) w) q 0) e ∙ get_or-set_same ws (i / 64) w 0 in_words))
set_at ws n i w bit room lt same others k kn (inr ne) (inr away) =
    get_or-set_other (row_bits ws n) i k bit false ne ∙ row_get ws n k kn
    ∙ ap (λ (v : ℕ). bit_at v (k % 64) == 1) (sym (get_or-set_other ws (i / 64) (k / 64) w 0 away))

-- one word changed at one bit
pub row_set : (ws : List ℕ) (n i w : ℕ) (bit : Bool) → AreWordsFor ws n → i < n → (bit_at w (i % 64) == 1) ≡ bit
    → ((k : ℕ) → k < 64 → k ≢ i % 64 → bit_at w k ≡ bit_at (get_or ws (i / 64) 0) k)
    → row_bits (set ws (i / 64) w) n ≡ set (row_bits ws n) i bit
row_set ws n i w bit room lt same others = row_is (set ws (i / 64) w) n (set (row_bits ws n) i bit) (length-set (row_bits ws n) i bit ∙ row_length ws n) (λ k kn. set_at ws n i w bit room lt same others k kn (cases_eq k i) (cases_eq (k / 64) (i / 64)))

-- rows of one length have equally many words
pub same_words : (ws vs : List ℕ) (n m : ℕ) (xs ys : List Bool) → row_bits ws n ≡ xs → row_bits vs m ≡ ys → length xs ≡ length ys → n ≡ m
same_words ws vs n m xs ys p q e = omega (arith, row_length ws n, row_length vs m, ap length p, ap length q, e)
