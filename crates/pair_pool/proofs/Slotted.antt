-- Slots that are filled and emptied, and answers one after another.
use Rattle.std.proofs.Common.{◌≡◌, ◌∙◌, ℕ, ◌+◌, ◌<◌, List, [], ◌∷◌, ◌++◌, length, slice_index_or, slice_set, length-set, length-append, Option, Some, IfSome, sym, ap, subst, arith, inl, inr}
use Rattle.std.proofs.lemmas.Bool.{cases_eq, cases_lt}
use Rattle.std.proofs.lemmas.List.{get_or-set_same, get_or-set_other, get_or_append_left}
use Rattle.std.proofs.Math.Seq.{get_or-append_seam}
use Rattle.std.proofs.lemmas.List.Elements.{All-pop}
use Rattle.circ_model.specs.Meaning.{Pair}
use Rattle.pair_pool.specs.declared.outcome.Outcome.{Outcome}
use Rattle.pair_pool.specs.declared.slots.Solved.{Solved}
use Rattle.pair_pool.specs.declared.worker.Claimed.{Claimed}
use Rattle.pair_pool.specs.Outcomes.{IsOutcomeAt}
use Rattle.pair_pool.specs.Claims.{AreFound}
use Rattle.pair_pool.specs.Solutions.{AreInOrder, AreSlots}

pub slots_set : (pairs : List Pair) (k at : ℕ) (slots : List (Option Outcome)) (o : Option Outcome) → AreSlots pairs k slots → at < length slots → IfSome o (IsOutcomeAt pairs k at) → AreSlots pairs k (slice_set slots at o)
slots_set pairs k at slots o are lt is = record {
  count = length-set slots at o ∙ are.count;
  each = λ i d less.
      let within : i < length slots = omega (arith, less, length-set slots at o) in
      elim (cases_eq i at) [
        | inl same ↦
            let here : slice_index_or (slice_set slots at o) i d ≡ o = ap (λ (j : ℕ). slice_index_or (slice_set slots at o) j d) same ∙ get_or-set_same slots at o d lt in
            subst (λ (x : Option Outcome). IfSome x (IsOutcomeAt pairs k i)) (sym here) (subst (λ (j : ℕ). IfSome o (IsOutcomeAt pairs k j)) (sym same) is)
        | inr other ↦
            let there : slice_index_or (slice_set slots at o) i d ≡ slice_index_or slots i d = get_or-set_other slots at i o d other in
            subst (λ (x : Option Outcome). IfSome x (IsOutcomeAt pairs k i)) (sym there) (are.each i d within)
      ];
}

-- what was found, without the last
pub found_last : (pairs : List Pair) (k : ℕ) (before after : List Claimed) (c : Claimed) → before ≡ after ++ c ∷ [] → AreFound pairs k before → AreFound pairs k after × IfSome c.outcome (IsOutcomeAt pairs k c.index)
found_last pairs k before after c is found = All-pop (λ (x : Claimed). IfSome x.outcome (IsOutcomeAt pairs k x.index)) before after (Some c) is found

-- a slot is filled with the last of what was found
pub slots_more : (pairs : List Pair) (slots : List (Option Outcome)) (first before after : List Claimed) (c : Claimed) → before ≡ after ++ c ∷ [] → c.index < length slots
    → ((length slots ≡ length pairs) × ((k : ℕ) → AreFound pairs k first → AreSlots pairs k slots × AreFound pairs k before))
    → (length (slice_set slots c.index c.outcome) ≡ length pairs) × ((k : ℕ) → AreFound pairs k first → AreSlots pairs k (slice_set slots c.index c.outcome) × AreFound pairs k after)
slots_more pairs slots first before after c is lt were = (
  length-set slots c.index c.outcome ∙ were.0,
  λ k found.
      let both = were.1 k found in
      let last = found_last pairs k before after c is both.1 in
      (slots_set pairs k c.index slots c.outcome both.0 lt last.1, last.0),
)

-- or not, where there is none
pub slots_same : (pairs : List Pair) (slots : List (Option Outcome)) (first before after : List Claimed) (c : Claimed) → before ≡ after ++ c ∷ []
    → ((length slots ≡ length pairs) × ((k : ℕ) → AreFound pairs k first → AreSlots pairs k slots × AreFound pairs k before))
    → (length slots ≡ length pairs) × ((k : ℕ) → AreFound pairs k first → AreSlots pairs k slots × AreFound pairs k after)
slots_same pairs slots first before after c is were = (
  were.0,
  λ k found. let both = were.1 k found in (both.0, (found_last pairs k before after c is both.1).0),
)

-- one answer more
pub order_more : (pairs : List Pair) (k : ℕ) (solved : List Solved) (x : Solved) → AreInOrder pairs k solved → x.index ≡ length solved → IsOutcomeAt pairs k (length solved) x.outcome → AreInOrder pairs k (solved ++ x ∷ [])
order_more pairs k solved x are at is = λ i d lt.
    let len = length-append solved (x ∷ []) in
    elim (cases_lt i (length solved)) [
      | inl less ↦
          let here : slice_index_or (solved ++ x ∷ []) i d ≡ slice_index_or solved i d = get_or_append_left solved (x ∷ []) d i less in
          subst (λ (s : Solved). (s.index ≡ i) × IsOutcomeAt pairs k i s.outcome) (sym here) (are i d less)
      | inr ge ↦
          let end : length solved ≡ i = omega (arith, lt, len, ge) in
          let here : slice_index_or (solved ++ x ∷ []) (length solved) d ≡ x = get_or-append_seam solved x [] d in
          subst (λ (j : ℕ). ((slice_index_or (solved ++ x ∷ []) j d).index ≡ j) × IsOutcomeAt pairs k j (slice_index_or (solved ++ x ∷ []) j d).outcome) end
          (subst (λ (s : Solved). (s.index ≡ length solved) × IsOutcomeAt pairs k (length solved) s.outcome) (sym here) (at, is))
    ]
