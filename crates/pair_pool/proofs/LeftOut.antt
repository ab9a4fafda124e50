-- The outputs that classes don't pair, one more at a time.
use Rattle.std.proofs.Common.{◌≡◌, ◌+◌, ◌<◌, ◌≤◌, ℕ, List, [], ◌∷◌, ◌++◌, length, slice_index, get_or, Contains, inl, inr, sym, ap, subst, arith, ⊎_elim, length-append, ◌∙◌}
use Rattle.std.proofs.lemmas.Grind.{common_steps}
use Rattle.std.specs.List.Sorted.{IsStrictlyIncreasing}
use Rattle.std.proofs.lemmas.Bool.{cases_lt}
use Rattle.std.proofs.lemmas.List.{get_or_append_left}
use Rattle.std.proofs.lemmas.List.Elements.{Contains-append_left, Contains-push, Contains-push_cases}
use Rattle.circ_model.specs.Meaning.{Pair, outputs_of}
use Rattle.class_partition.specs.Classes.{Classes}
use Rattle.class_partition.specs.Laws.{PairOutput}
use Rattle.pair_pool.specs.Unpaired.{AreLeftOut}

last_of : (xs : List ℕ) (n : ℕ) → slice_index (xs ++ n ∷ []) (length xs) ≡ n
last_of xs n = grind (arith, common_steps)

same_default : (xs : List ℕ) (k : ℕ) → k < length xs → get_or xs k (slice_index xs k) ≡ slice_index xs k
same_default xs k lt = grind (arith, common_steps)

-- a number at the end that is greater than all before it
rises : (xs : List ℕ) (n : ℕ) → IsStrictlyIncreasing xs → ((x : ℕ) → Contains xs x → x < n) → IsStrictlyIncreasing (xs ++ n ∷ [])
rises xs n inc low k lt =
    let len : length (xs ++ n ∷ []) ≡ length xs + 1 = length-append xs (n ∷ []) in
    let here : slice_index (xs ++ n ∷ []) k ≡ slice_index xs k = get_or_append_left xs (n ∷ []) 0 k (omega (arith, lt, len)) in
    ⊎_elim
    (λ (less : k + 1 < length xs).
    let next : slice_index (xs ++ n ∷ []) (k + 1) ≡ slice_index xs (k + 1) = get_or_append_left xs (n ∷ []) 0 (k + 1) less in
    let up = inc k less in omega (arith, here, next, up))
    (λ (end : length xs ≤ k + 1).
    let at : k + 1 ≡ length xs = omega (arith, lt, len, end) in
    let last : slice_index (xs ++ n ∷ []) (k + 1) ≡ n = ap (slice_index (xs ++ n ∷ [])) at ∙ last_of xs n in
    let inside : Contains xs (slice_index xs k) = (k, omega (arith, at), same_default xs k (omega (arith, at))) in
    let up = low (slice_index xs k) inside in omega (arith, here, last, up))
    (cases_lt (k + 1) (length xs))

pub none_left_out : (pair : Pair) (classes : Classes) → AreLeftOut pair classes 0 []
none_left_out pair classes = record {
  rising = λ k lt. absurd (omega (arith, lt));
  unpaired = λ j h. absurd (let (i, lt, e) = h in omega (arith, lt));
  others = λ j lt. absurd (omega (arith, lt));
}

pub one_left_out : (pair : Pair) (classes : Classes) (j : ℕ) (u : List ℕ) → AreLeftOut pair classes j u → (PairOutput pair classes j → ⊥) → AreLeftOut pair classes (j + 1) (u ++ j ∷ [])
one_left_out pair classes j u out not = record {
  rising = rises u j out.rising (λ x h. (out.unpaired x h).0);
  unpaired = λ i h.
      ⊎_elim
      (λ (old : Contains u i). let known = out.unpaired i old in let lt = known.0 in (omega (arith, lt), known.1))
      (λ (e : j ≡ i). (omega (arith, e), λ paired. not (subst (PairOutput pair classes) (sym e) paired)))
      (Contains-push_cases u j i h);
  others = λ i lt.
      ⊎_elim
      (λ (less : i < j).
      ⊎_elim
      (λ (h : Contains u i). inl (Contains-append_left u (j ∷ []) i h))
      (λ (h : PairOutput pair classes i). inr h)
      (out.others i less))
      (λ (ge : j ≤ i). let e : j ≡ i = omega (arith, lt, ge) in inl (subst (Contains (u ++ j ∷ [])) e (Contains-push u j)))
      (cases_lt i j);
}

pub none_more : (pair : Pair) (classes : Classes) (j : ℕ) (u : List ℕ) → AreLeftOut pair classes j u → PairOutput pair classes j → AreLeftOut pair classes (j + 1) u
none_more pair classes j u out paired = record {
  rising = out.rising;
  unpaired = λ i h. let known = out.unpaired i h in let lt = known.0 in (omega (arith, lt), known.1);
  others = λ i lt.
      ⊎_elim
      (λ (less : i < j). out.others i less)
      (λ (ge : j ≤ i). let e : j ≡ i = omega (arith, lt, ge) in inr (subst (PairOutput pair classes) e paired))
      (cases_lt i j);
}

-- where none is left out all are paired
pub all_paired : (pair : Pair) (classes : Classes) (u : List ℕ) → AreLeftOut pair classes (outputs_of pair) u → length u ≡ 0 → (j : ℕ) → j < outputs_of pair → PairOutput pair classes j
all_paired pair classes u out none j lt = ⊎_elim (λ (h : Contains u j). let (i, less, e) = h in absurd (omega (arith, less, none))) (λ (paired : PairOutput pair classes j). paired) (out.others j lt)
