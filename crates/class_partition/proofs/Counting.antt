-- How many numbers pass a test, from a on.
use Rattle.std.proofs.Common.{not, ◌&&◌, add-zero, ◌≡◌, ◌∙◌, ◌<◌, ◌≤◌, ℕ, zero, suc, ◌+◌, Bool, true, false, map, refl, sym, ap, arith, true≢false, inl, inr, count_by, cond}
use Rattle.std.specs.List.{range_with_len}
use Rattle.std.proofs.lemmas.List.Sums.{sum_by-cons}
use Rattle.std.proofs.lemmas.Bool.{cases_order, cases_eq}

abbrev pub counted : (ℕ → Bool) → ℕ → ℕ → ℕ
counted f a n = count_by (λ (b : Bool). b) (map f (range_with_len a n))

abbrev pub one : Bool → ℕ
one b = cond b 1 0

pub next : (f : ℕ → Bool) (a n : ℕ) → counted f a (suc n) ≡ one (f a) + counted f (a + 1) n
next f a n = sum_by-cons one (f a) (map f (range_with_len (a + 1) n))

one_le : (f g : Bool) → (f ≡ true → g ≡ true) → one f ≤ one g
one_le true true h = omega arith
one_le true false h = absurd (true≢false (sym (h refl)))
one_le false true h = omega arith
one_le false false h = omega arith

pub counted_le : (f g : ℕ → Bool) (a n : ℕ) → ((p : ℕ) → a ≤ p → p < a + n → f p ≡ true → g p ≡ true) → counted f a n ≤ counted g a n
counted_le f g a zero h = omega arith
counted_le f g a (suc n) h =
    let here = one_le (f a) (g a) (h a (omega arith) (omega arith)) in
    let rest = counted_le f g (a + 1) n (λ p low high. h p (omega arith) (omega arith)) in
    rw (next f a n, next g a n) (omega arith)

one_most : (f : Bool) → one f ≤ 1
one_most true = omega arith
one_most false = omega arith

-- but for one number, what passes f passes g
pub counted_but_one : (f g : ℕ → Bool) (a n m : ℕ) → ((p : ℕ) → a ≤ p → p < a + n → (p ≡ m → ⊥) → f p ≡ true → g p ≡ true) → counted f a n ≤ counted g a n + 1
counted_but_one f g a zero m h = omega arith
counted_but_one f g a (suc n) m h = elim (cases_eq a m) [
  | inl e ↦
      let rest = counted_le f g (a + 1) n (λ p low high. h p (omega arith) (omega arith) (λ (d : p ≡ m). omega arith)) in
      let here = one_most (f a) in
      rw (next f a n, next g a n) (omega arith)
  | inr ne ↦
      let rest = counted_but_one f g (a + 1) n m (λ p low high. h p (omega arith) (omega arith)) in
      let here = one_le (f a) (g a) (h a (omega arith) (omega arith) ne) in
      rw (next f a n, next g a n) (omega arith)
]

one_apart : (f g : Bool) → (f ≡ true → g ≡ false) → one f + one g ≤ 1
one_apart true true h = absurd (true≢false (h refl))
one_apart true false h = omega arith
one_apart false true h = omega arith
one_apart false false h = omega arith

-- tests that no number passes both
pub counted_apart : (f g : ℕ → Bool) (a n : ℕ) → ((p : ℕ) → a ≤ p → p < a + n → f p ≡ true → g p ≡ false) → counted f a n + counted g a n ≤ n
counted_apart f g a zero h = omega arith
counted_apart f g a (suc n) h =
    let here = one_apart (f a) (g a) (h a (omega arith) (omega arith)) in
    let rest = counted_apart f g (a + 1) n (λ p low high. h p (omega arith) (omega arith)) in
    rw (next f a n, next g a n) (omega arith)

one_lt : (f g : Bool) → f ≡ false → g ≡ true → one f < one g
one_lt true g e h = absurd (true≢false e)
one_lt false true e h = omega arith
one_lt false false e h = absurd (true≢false (sym h))

pub counted_lt : (f g : ℕ → Bool) (a n m : ℕ) → ((p : ℕ) → a ≤ p → p < a + n → f p ≡ true → g p ≡ true) → a ≤ m → m < a + n → f m ≡ false → g m ≡ true → counted f a n < counted g a n
counted_lt f g a zero m h low high off on = absurd (omega arith)
counted_lt f g a (suc n) m h low high off on = elim (cases_order a m) [
  | inl e ↦
      let here = one_lt (f a) (g a) (ap f e ∙ off) (ap g e ∙ on) in
      let rest = counted_le f g (a + 1) n (λ p l r. h p (omega arith) (omega arith)) in
      rw (next f a n, next g a n) (omega arith)
  | inr (inl lt) ↦
      let here = one_le (f a) (g a) (h a (omega arith) (omega arith)) in
      let rest = counted_lt f g (a + 1) n m (λ p l r. h p (omega arith) (omega arith)) (omega arith) (omega arith) off on in
      rw (next f a n, next g a n) (omega arith)
  | inr (inr gt) ↦ absurd (omega arith)
]

pub counted_most : (f : ℕ → Bool) (a n : ℕ) → counted f a n ≤ n
counted_most f a zero = omega arith
counted_most f a (suc n) = let here = one_most (f a) in let rest = counted_most f (a + 1) n in rw (next f a n) (omega arith)

-- more pass g than f: some number passes g and not f
abbrev pub Passes_only : (ℕ → Bool) → (ℕ → Bool) → ℕ → ℕ → Type 0
Passes_only f g a n = (m : ℕ) × (a ≤ m) × (m < a + n) × (f m ≡ false) × (g m ≡ true)

more_at : (f g : ℕ → Bool) (a n : ℕ) → counted f a (suc n) < counted g a (suc n) → (counted f (a + 1) n < counted g (a + 1) n → Passes_only f g (a + 1) n) → (x y : Bool) → f a ≡ x → g a ≡ y → Passes_only f g a (suc n)
more_at f g a n h on false true e d = (a, omega arith, omega arith, e, d)
more_at f g a n h on false false e d = let r = on (omega (arith, next f a n, next g a n, ap one e, ap one d)) in (r.0, omega (arith, r.1), omega (arith, r.2), r.3, r.4)
more_at f g a n h on true true e d = let r = on (omega (arith, next f a n, next g a n, ap one e, ap one d)) in (r.0, omega (arith, r.1), omega (arith, r.2), r.3, r.4)
more_at f g a n h on true false e d = let r = on (omega (arith, next f a n, next g a n, ap one e, ap one d)) in (r.0, omega (arith, r.1), omega (arith, r.2), r.3, r.4)

pub counted_more : (f g : ℕ → Bool) (a n : ℕ) → counted f a n < counted g a n → Passes_only f g a n
counted_more f g a zero h = absurd (omega arith)
counted_more f g a (suc n) h = more_at f g a n h (counted_more f g (a + 1) n) (f a) (g a) refl refl

pub counted_false : (a n : ℕ) → counted (λ _. false) a n ≡ 0
counted_false a zero = refl
counted_false a (suc n) = let h = counted_false (a + 1) n in rw (next (λ _. false) a n) (omega arith)

one_split : (f g : Bool) → (f ≡ true → g ≡ true) → one g ≡ one f + one (g && not f)
one_split true true h = omega arith
one_split true false h = absurd (true≢false (sym (h refl)))
one_split false true h = omega arith
one_split false false h = omega arith

-- those that pass g are those that pass f and those that are new
pub counted_split : (f g : ℕ → Bool) (a n : ℕ) → ((p : ℕ) → a ≤ p → p < a + n → f p ≡ true → g p ≡ true) → counted g a n ≡ counted f a n + counted (λ p. g p && not (f p)) a n
counted_split f g a zero h = omega arith
counted_split f g a (suc n) h =
    let here = one_split (f a) (g a) (h a (omega arith) (omega arith)) in
    let rest = counted_split f g (a + 1) n (λ p l r. h p (omega arith) (omega arith)) in
    rw (next f a n, next g a n, next (λ p. g p && not (f p)) a n) (omega arith)

-- one number more at the end
pub counted_push : (f : ℕ → Bool) (a n : ℕ) → counted f a (n + 1) ≡ counted f a n + one (f (a + n))
counted_push f a zero = rw (next f a 0) (let e = ap (λ (k : ℕ). one (f k)) (add-zero a) in omega arith)
counted_push f a (suc n) =
    let rest = counted_push f (a + 1) n in
    let at : (a + 1) + n ≡ a + suc n = omega arith in
    let same = ap (λ (k : ℕ). one (f k)) at in
    let e : suc n + 1 ≡ suc (n + 1) = omega arith in
    rw (e, next f a (n + 1), next f a n) (omega arith)
