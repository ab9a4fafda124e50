-- Members of a list, and of the list of their complements.
use Rattle.std.proofs.Common.{◌≡◌, zero, suc, ℤ, pos, negsuc, neg_ℤ, List, [], ◌∷◌, map, arith, sym, ◌∙◌, ap, refl, ◌⊎◌, inl, inr}
use Rattle.std.specs.List.{Contains}

pub neg_neg : (l : ℤ) → neg_ℤ (neg_ℤ l) ≡ l
neg_neg (pos zero) = refl
neg_neg (pos (suc n)) = refl
neg_neg (negsuc n) = refl

pub contains_head : (l : ℤ) (a : List ℤ) → Contains (l ∷ a) l
contains_head l a = (0, omega arith, refl)

pub contains_tail : (l m : ℤ) (a : List ℤ) → Contains a m → Contains (l ∷ a) m
contains_tail l m a (k, lt, e) = (suc k, omega arith, e)

pub contains_cases : (l m : ℤ) (a : List ℤ) → Contains (l ∷ a) m → (l ≡ m) ⊎ Contains a m
contains_cases l m a (zero, lt, e) = inl e
contains_cases l m a (suc k, lt, e) = inr (k, omega arith, e)

pub contains_neg : (xs : List ℤ) (l : ℤ) → Contains xs l → Contains (map neg_ℤ xs) (neg_ℤ l)
contains_neg [] l (k, lt, e) = absurd (omega arith)
contains_neg (x ∷ xs) l (zero, lt, e) = (0, omega arith, ap neg_ℤ e)
contains_neg (x ∷ xs) l (suc k, lt, e) = let h = contains_neg xs l (k, omega arith, e) in contains_tail (neg_ℤ x) (neg_ℤ l) (map neg_ℤ xs) h

pub contains_neg_back : (xs : List ℤ) (l : ℤ) → Contains (map neg_ℤ xs) l → Contains xs (neg_ℤ l)
contains_neg_back [] l (k, lt, e) = absurd (omega arith)
contains_neg_back (x ∷ xs) l (zero, lt, e) = (0, omega arith, sym (neg_neg x) ∙ ap neg_ℤ e)
contains_neg_back (x ∷ xs) l (suc k, lt, e) = contains_tail x (neg_ℤ l) xs (contains_neg_back xs l (k, omega arith, e))
