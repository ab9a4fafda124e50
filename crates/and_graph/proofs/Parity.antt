-- Sums modulo 2: what a node adds where it stands, and what an exclusive or says.
use Rattle.std.proofs.Common.{true≢false, ◌≡◌, ◌∙◌, ◌<◌, ℕ, zero, suc, List, [], ◌∷◌, ◌++◌, length, take, drop, get_or, Bool, true, false, not, ◌&&◌, refl, ap, sym, arith}
use Rattle.circ_model.specs.Meaning.{signed}
use Rattle.and_graph.specs.Sums.{sum_of}

-- neither both are true nor both are false
pub exclusive : (a b : Bool) → (not (a && b) && not (not a && not b)) ≡ signed a b
exclusive true true = refl
exclusive true false = refl
exclusive false true = refl
exclusive false false = refl

pub swapped : (a b c : Bool) → signed a (signed b c) ≡ signed b (signed a c)
swapped true true c = refl
swapped true false c = refl
swapped false b c = refl

twice : (a b : Bool) → signed a (signed a b) ≡ b
twice true true = refl
twice true false = refl
twice false b = refl

pub sum_added : (v : ℕ → Bool) (xs : List ℕ) (i n : ℕ) → sum_of v (take i xs ++ n ∷ drop i xs) ≡ signed (v n) (sum_of v xs)
unfolding sum_of
sum_added v xs zero n = refl
sum_added v [] (suc i) n = refl
sum_added v (x ∷ xs) (suc i) n = ap (signed (v x)) (sum_added v xs i n) ∙ swapped (v x) (v n) (sum_of v xs)

pub sum_removed : (v : ℕ → Bool) (xs : List ℕ) (i d : ℕ) → i < length xs → sum_of v (take i xs ++ drop (suc i) xs) ≡ signed (v (get_or xs i d)) (sum_of v xs)
unfolding sum_of
sum_removed v [] i d lt = absurd (omega arith)
sum_removed v (x ∷ xs) zero d lt = sym (twice (v x) (sum_of v xs))
sum_removed v (x ∷ xs) (suc i) d lt = ap (signed (v x)) (sum_removed v xs i d (omega arith)) ∙ swapped (v x) (v (get_or xs i d)) (sum_of v xs)

pub sum_last : (v : ℕ → Bool) (xs : List ℕ) (n : ℕ) → sum_of v (xs ++ n ∷ []) ≡ signed (v n) (sum_of v xs)
unfolding sum_of
sum_last v [] n = refl
sum_last v (x ∷ xs) n = ap (signed (v x)) (sum_last v xs n) ∙ swapped (v x) (v n) (sum_of v xs)

joined : (a b c : Bool) → signed b (signed a c) ≡ signed (signed a b) c
joined true true true = refl
joined true true false = refl
joined true false c = refl
joined false b c = refl

-- a node's summands in its place
pub replaced : (odd a b c : Bool) → signed b (signed a (signed odd c)) ≡ signed odd (signed (signed a b) c)
replaced odd a b c = ap (signed b) (swapped a odd c) ∙ swapped b odd (signed a c) ∙ ap (signed odd) (joined a b c)

pub alone : (b : Bool) → signed b false ≡ b
alone true = refl
alone false = refl

-- nothing is left of the sum of two that are equal
pub nothing_left : (xs : List ℕ) (odd a b : Bool) (v : ℕ → Bool) → length xs ≡ 0 → not odd ≡ true → signed odd (sum_of v xs) ≡ signed b a → a ≡ b
unfolding sum_of
nothing_left [] false true true v size even e = refl
nothing_left [] false false false v size even e = refl
nothing_left [] false true false v size even e = sym e
nothing_left [] false false true v size even e = e
nothing_left [] true a b v size even e = absurd (true≢false (sym even))
nothing_left (x ∷ xs) odd a b v size even e = absurd (omega arith)
