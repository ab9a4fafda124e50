-- The split by words as a function: where a place goes, and what stays together.
use Rattle.std.proofs.Common.{◌≡◌, ◌==◌, ◌∙◌, ◌<◌, ◌≤◌, ℕ, true, List, refl, ap, ap₂, sym, arith, true≢false, ⊎_elim, eq-eqb, eqb-true, ◌&&◌}
use Rattle.std.specs.List.{range_with_len, position_or_len}
use Rattle.std.proofs.lemmas.Bool.{cases_lt, and_parts, and_from}
use Rattle.std.proofs.lemmas.List.FromFn.{length-range_with_len, get_or-range_with_len, length-map-range_with_len, get_or-map-range_with_len}
use Rattle.std.proofs.lemmas.List.Sums.{fails_before_first, passes_at_first}
use Rattle.class_partition.specs.Classes.{Classes, least_of, ArePartition, AreTogether}
use Rattle.class_partition.specs.Words.{relative_word, goes_with_word, first_with_word, split_of_words, IsSplitByWords}

goes_itself : (classes : Classes) (words : List ℕ) (p : ℕ) → goes_with_word classes words p p ≡ true
goes_itself classes words p = and_from (least_of classes p == least_of classes p) (relative_word classes words p == relative_word classes words p) (eq-eqb (least_of classes p) (least_of classes p) refl) (eq-eqb (relative_word classes words p) (relative_word classes words p) refl)

goes : (classes : Classes) (words : List ℕ) (p q : ℕ) → goes_with_word classes words p q ≡ true → AreTogether classes q p × (relative_word classes words q ≡ relative_word classes words p)
goes classes words p q h =
    let parts = and_parts (least_of classes q == least_of classes p) (relative_word classes words q == relative_word classes words p) h in
    (eqb-true (least_of classes q) (least_of classes p) parts.0, eqb-true (relative_word classes words q) (relative_word classes words p) parts.1)

pub record IsFirst (classes : Classes) (words : List ℕ) (p f : ℕ) : Type 0 where
  pub low : f ≤ p
  pub together : AreTogether classes f p
  pub same : relative_word classes words f ≡ relative_word classes words p

pub is_first : (places : ℕ) (classes : Classes) (words : List ℕ) (p : ℕ) → p < places → IsFirst classes words p (first_with_word places classes words p)
is_first places classes words p lt =
    let f : ℕ = first_with_word places classes words p in
    let len = length-range_with_len 0 places in
    let low : f ≤ p = ⊎_elim
    (λ (less : p < f). absurd (true≢false (sym (goes_itself classes words p) ∙ ap (goes_with_word classes words p) (sym (get_or-range_with_len 0 places p 0 lt ∙ omega arith)) ∙ fails_before_first (goes_with_word classes words p) (range_with_len 0 places) p 0 less)))
    (λ (h : f ≤ p). h) (cases_lt p f) in
    let at = passes_at_first (goes_with_word classes words p) (range_with_len 0 places) 0 (omega arith) in
    let h = goes classes words p f (ap (goes_with_word classes words p) (sym (get_or-range_with_len 0 places f 0 (omega arith) ∙ omega arith)) ∙ at) in
    record { low = low; together = h.0; same = h.1 }

-- places that go together have the same first place
pub same_first : (places : ℕ) (classes : Classes) (words : List ℕ) (p q : ℕ) → AreTogether classes p q → relative_word classes words p ≡ relative_word classes words q
    → first_with_word places classes words p ≡ first_with_word places classes words q
same_first places classes words p q together same = ap₂ (λ (l w : ℕ). position_or_len (λ x. (least_of classes x == l) && (relative_word classes words x == w)) (range_with_len 0 places)) together same

least_is : (places : ℕ) (classes : Classes) (words : List ℕ) (p : ℕ) → p < places → least_of (split_of_words places classes words) p ≡ first_with_word places classes words p
least_is places classes words p lt = get_or-map-range_with_len (first_with_word places classes words) 0 places p p 0 lt (omega arith)

pub word_split_is : (places : ℕ) (classes : Classes) (words : List ℕ) → ArePartition places classes → IsSplitByWords places classes words (split_of_words places classes words)
word_split_is places classes words is = record {
  partition = record {
    least_len = length-map-range_with_len (first_with_word places classes words) 0 places;
    phase_len = is.phase_len;
    lower = λ p lt. let f = is_first places classes words p lt in let e = least_is places classes words p lt in let low = f.low in omega arith;
    fixed = λ p lt.
        let f = is_first places classes words p lt in
        let low = f.low in
        ap (least_of (split_of_words places classes words)) (least_is places classes words p lt) ∙ least_is places classes words (first_with_word places classes words p) (omega arith)
        ∙ same_first places classes words (first_with_word places classes words p) p f.together f.same ∙ sym (least_is places classes words p lt);
  };
  phase = refl;
  together = λ p q lp lq. (
    λ h.
        let e : first_with_word places classes words p ≡ first_with_word places classes words q = sym (least_is places classes words p lp) ∙ h ∙ least_is places classes words q lq in
        let f = is_first places classes words p lp in
        let g = is_first places classes words q lq in
        (sym f.together ∙ ap (least_of classes) e ∙ g.together, sym f.same ∙ ap (relative_word classes words) e ∙ g.same),
    λ h. least_is places classes words p lp ∙ same_first places classes words p q h.0 h.1 ∙ sym (least_is places classes words q lq),
  );
}
