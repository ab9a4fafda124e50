-- Start bits by the ties of a pair: a row breaks none exactly where each latch starts as its partner.
use Rattle.std.proofs.Common.{◌≡◌, ◌∙◌, ◌<◌, ◌+◌, ◌&&◌, ℕ, zero, suc, List, [], ◌∷◌, length, inl, inr, Bool, true, false, if◌then◌else◌, get_or, refl, ap, sym, arith}
use Rattle.std.specs.Prelude.{IsTrue}
use Rattle.std.proofs.lemmas.List.{length-map, get_or-map}
use Rattle.plain_text.proofs.Choices.{chosen}
use Rattle.circ_model.specs.Meaning.{bit, Pair, Path, IsRun, StartsTied, free_latches}
use Rattle.product_machine.specs.States.{ArePartners, StartsLike}
use Rattle.product_machine.proofs.Partners.{partner_tied, run_starts}
use Rattle.trace_witness.specs.Bits.{bit_of, bits_of, are_apart, differ, left_free_bits, right_free_bits, breaks_tie}

together : (a b : Bool) → are_apart a b ≡ false → a ≡ b
together true true e = refl
together true false e = absurd cc
together false b e = sym e

not_apart : (a b : Bool) → a ≡ b → are_apart a b ≡ false
not_apart true true e = refl
not_apart true false e = absurd cc
not_apart false b e = sym e

-- rows that don't differ, place by place
first_same : (a b : Bool) (more : Bool) → (if are_apart a b then true else more) ≡ false → (are_apart a b ≡ false) × (more ≡ false)
first_same a b more e = elim (chosen (are_apart a b) true more false e) [
  | inl p ↦ absurd (no p.1)
  | inr p ↦ p
]
  where
    no : true ≡ false → ⊥
    no e = cc

same_at : (xs ys : List Bool) (j : ℕ) → differ xs ys ≡ false → j < length xs → j < length ys → bit xs j ≡ bit ys j
same_at [] ys j e lt less = absurd (omega arith)
same_at (x ∷ xs) [] j e lt less = absurd (omega arith)
same_at (x ∷ xs) (y ∷ ys) zero e lt less = together x y (first_same x y (differ xs ys) e).0
same_at (x ∷ xs) (y ∷ ys) (suc j) e lt less = same_at xs ys j (first_same x y (differ xs ys) e).1 (omega arith) (omega arith)

none_apart : (xs ys : List Bool) → ((j : ℕ) → j < length xs → j < length ys → bit xs j ≡ bit ys j) → differ xs ys ≡ false
none_apart [] ys same = refl
none_apart (x ∷ xs) [] same = refl
none_apart (x ∷ xs) (y ∷ ys) same =
    let t = not_apart x y (same 0 (omega arith) (omega arith)) in
    let h = none_apart xs ys (λ j lt less. same (suc j) (omega arith) (omega arith)) in
    rw (t, h) refl

-- the free latches' bits
left_bit : (pair : Pair) (bits : List Bool) (j : ℕ) → j < length (free_latches pair.left) → bit (left_free_bits pair bits) j ≡ bit bits (get_or (free_latches pair.left) j 0)
left_bit pair bits j lt = get_or-map (bit bits) (free_latches pair.left) j 0 false lt

right_bit : (pair : Pair) (bits : List Bool) (j : ℕ) → j < length (free_latches pair.right) → bit (right_free_bits pair bits) j ≡ bit bits (length pair.left.latches + get_or (free_latches pair.right) j 0)
right_bit pair bits j lt = get_or-map (λ (k : ℕ). bit bits (length pair.left.latches + k)) (free_latches pair.right) j 0 false lt

-- no tie is broken
abbrev AllStartLike : Pair → List Bool → Type 0
AllStartLike pair bits = (i q : ℕ) → ArePartners pair i q → bit bits i ≡ bit bits q

pub each_like : (pair : Pair) (bits : List Bool) → breaks_tie pair bits ≡ false → AllStartLike pair bits
each_like pair bits e i q h = by pair.tied h.tied e
  where
    by : (t : Bool) → IsTrue t → (t && differ (left_free_bits pair bits) (right_free_bits pair bits)) ≡ false → bit bits i ≡ bit bits q
    by true tied e =
        let left : h.j < length (left_free_bits pair bits) = omega (arith, h.left_listed, length-map (free_latches pair.left) (bit bits)) in
        let right : h.j < length (right_free_bits pair bits) = omega (arith, h.right_listed, length-map (free_latches pair.right) (λ (k : ℕ). bit bits (length pair.left.latches + k))) in
        ap (bit bits) h.right ∙ sym (right_bit pair bits h.j h.right_listed) ∙ sym (same_at (left_free_bits pair bits) (right_free_bits pair bits) h.j e left right) ∙ left_bit pair bits h.j h.left_listed ∙ sym (ap (bit bits) h.left)
    by false tied e = absurd (let f : ⊥ = cc in f)

pub none_broken : (pair : Pair) (bits : List Bool) → AllStartLike pair bits → breaks_tie pair bits ≡ false
none_broken pair bits all = by pair.tied refl
  where
    by : (t : Bool) → pair.tied ≡ t → (t && differ (left_free_bits pair bits) (right_free_bits pair bits)) ≡ false
    by true tied = none_apart (left_free_bits pair bits) (right_free_bits pair bits) (λ j lt less.
        let left : j < length (free_latches pair.left) = omega (arith, length-map (free_latches pair.left) (bit bits)) in
        let right : j < length (free_latches pair.right) = omega (arith, length-map (free_latches pair.right) (λ (k : ℕ). bit bits (length pair.left.latches + k))) in
        left_bit pair bits j left ∙ sym (all (length pair.left.latches + get_or (free_latches pair.right) j 0) (get_or (free_latches pair.left) j 0) (record { tied = tied; j = j; left_listed = left; right_listed = right; left = refl; right = refl })) ∙ sym (right_bit pair bits j right))
    by false tied = refl

-- a bit of the row that a line spells
pub bit_read : (line : List ℕ) (i : ℕ) → i < length line → bit (bits_of line) i ≡ bit_of (get_or line i 0)
bit_read line i lt = get_or-map bit_of line i 0 false lt

-- so in a run, and nowhere else
pub tied_run : (pair : Pair) (run : Path) → IsRun pair run → breaks_tie pair run.start ≡ false
tied_run pair run is = none_broken pair run.start (λ i q h. (run_starts pair run i is (partner_tied pair i q h).within).1 q h)

pub run_ties : (pair : Pair) (run : Path) → AllStartLike pair run.start → IsTrue pair.tied → StartsTied pair run
run_ties pair run all tied j left right =
    sym (all (length pair.left.latches + get_or (free_latches pair.right) j 0) (get_or (free_latches pair.left) j 0) (record { tied = tied; j = j; left_listed = left; right_listed = right; left = refl; right = refl }))

-- one latch that doesn't start as its partner breaks a tie
pub one_broken : (pair : Pair) (bits : List Bool) (i : ℕ) → (StartsLike pair (record { start = bits; inputs = [] }) i → ⊥) → breaks_tie pair bits ≡ true
one_broken pair bits i apart = by (breaks_tie pair bits) refl
  where
    by : (b : Bool) → breaks_tie pair bits ≡ b → b ≡ true
    by true e = refl
    by false e = absurd (apart (each_like pair bits e i))
