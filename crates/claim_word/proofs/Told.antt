-- What the rule says of one view, as callers read it.
use Rattle.std.proofs.Common.{◌≡◌, ◌≢◌, ◌⊎◌, ℕ, zero, suc, ◌+◌, ◌<◌, ◌≤◌, List, [], ◌∷◌, Bool, true, false, length, refl, sym, ap, ◌++◌, ◌∙◌, subst, inl, inr, ⊎_elim, arith, Some, if◌then◌else◌}
use Rattle.std.specs.Prelude.{slice_get, slice_index_or}
use Rattle.std.proofs.lemmas.Option.{slice_get-get_or}
use Rattle.std.proofs.lemmas.Bool.{cases_order, cases_lt}
use Rattle.atomic_table.specs.Seated.{TableId}
use Rattle.claim_word.specs.declared.view.View.{View}
use Rattle.claim_word.specs.Words.{version_of, index_of, next_claim, IsBefore}
use Rattle.claim_word.specs.Seats.{AreApart, HaveNoneInCommon, IsSound}
use Rattle.claim_word.specs.Steps.{is_same, times, IsPast, Agrees, seat_state}
use Rattle.claim_word.proofs.Counts.{same_some, same_or_not, times_there}

-- a claim is below the word, or not
before_or_past : (word : ℕ) (c : ℕ × ℕ) → IsBefore c (next_claim word) ⊎ IsPast word c
before_or_past word c = ⊎_elim
    (λ (e : c.0 ≡ version_of word). ⊎_elim (λ (l : c.1 < index_of word). inl (inr (e, l))) (λ (g : index_of word ≤ c.1). inr (inr (sym e, g))) (cases_lt c.1 (index_of word)))
    (⊎_elim (λ (l : c.0 < version_of word). inl (inl l)) (λ (g : version_of word < c.0). inr (inl g)))
    (cases_order c.0 (version_of word))

-- an element is counted
times_index : (xs : List (ℕ × ℕ)) (k : ℕ) (d : ℕ × ℕ) → k < length xs → 1 ≤ times (slice_index_or xs k d) xs
times_index xs k d lt = times_there xs k (slice_index_or xs k d) (slice_get-get_or xs k d lt)

-- the head, found again further on, counts twice
twice : (x : ℕ × ℕ) (xs : List (ℕ × ℕ)) (j : ℕ) (c : ℕ × ℕ) → times c (x ∷ xs) ≤ 1 → Some x ≡ Some c → slice_get xs j ≡ Some c → ⊥
twice x xs j c once e f = ⊎_elim
    (λ (h : (is_same c x ≡ true) × (c ≡ x)). let t = times_there xs j c f in let o : 1 + times c xs ≤ 1 = subst (λ (b : Bool). (if b then 1 else 0) + times c xs ≤ 1) h.0 once in omega arith)
    (λ (h : (is_same c x ≡ false) × (c ≢ x)). h.1 (sym (same_some x c e)))
    (same_or_not c x)

-- what is counted once at most stands at one place
apart : (xs : List (ℕ × ℕ)) → ((c : ℕ × ℕ) → times c xs ≤ 1) → AreApart xs
apart [] once i j c e f = absurd (cc)
apart (x ∷ xs) once zero zero c e f = refl
apart (x ∷ xs) once zero (suc j) c e f = absurd (twice x xs j c (once c) e f)
apart (x ∷ xs) once (suc i) zero c e f = absurd (twice x xs i c (once c) f e)
apart (x ∷ xs) once (suc i) (suc j) c e f = ap suc (apart xs (λ d. let o = once d in omega arith) i j c e f)

-- an element of one of two lists, in both
in_front : (xs ys : List (ℕ × ℕ)) (k : ℕ) (c : ℕ × ℕ) → slice_get xs k ≡ Some c → slice_get (xs ++ ys) k ≡ Some c
in_front [] ys k c e = absurd (cc)
in_front (x ∷ xs) ys zero c e = e
in_front (x ∷ xs) ys (suc k) c e = in_front xs ys k c e

behind : (xs ys : List (ℕ × ℕ)) (k : ℕ) → slice_get (xs ++ ys) (length xs + k) ≡ slice_get ys k
behind [] ys k = ap (slice_get ys) (omega arith)
behind (x ∷ xs) ys k = let e : length (x ∷ xs) + k ≡ suc (length xs + k) = omega arith in ap (slice_get ((x ∷ xs) ++ ys)) e ∙ behind xs ys k

-- where no claim stands twice in two lists, none is in both
pub none_in_common : (xs ys : List (ℕ × ℕ)) → AreApart (xs ++ ys) → HaveNoneInCommon xs ys
none_in_common xs ys apart c (i, lt, is) (j, lt', is') =
    let front = in_front xs ys i c (slice_get-get_or xs i c lt ∙ ap Some is) in
    let back = behind xs ys j ∙ slice_get-get_or ys j c lt' ∙ ap Some is' in
    let same = apart i (length xs + j) c front back in
    omega arith

-- the rule of one view is what its seat is told
pub told : (table : TableId) (v : View) (word : ℕ) → Agrees v word → IsSound (seat_state table v) word
told table v word a = record {
  fine = a.fine;
  below = λ k d lt.
      let c = slice_index_or v.claims k d in
      ⊎_elim
      (λ (h : IsBefore c (next_claim word)). h)
      (λ (h : IsPast word c). let t = times_index v.claims k d lt in let z = a.below c h in absurd (omega arith))
      (before_or_past word c);
  apart = apart v.claims a.apart;
  since = a.since;
}
