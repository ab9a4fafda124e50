-- Marks that go down a log from its last line.
use Rattle.std.proofs.Common.{◌≡◌, ◌∙◌, ◌≤◌, ◌<◌, ◌+◌, ◌-◌, ℕ, zero, suc, Bool, true, false, List, [], ◌∷◌, ◌++◌, length, set, replicate, refl, sym, subst, arith, inl, inr, ⊎_elim}
use Rattle.std.specs.List.{Contains}
use Rattle.std.proofs.lemmas.Bool.{cases_Bool, cases_eq, cases_lt, false≢true}
use Rattle.std.proofs.lemmas.List.{get_or-set_same, get_or-set_other, length-set}
use Rattle.std.proofs.lemmas.List.Elements.{Contains-append_left, Contains-push, Contains-push_cases}
use Rattle.sat_log.specs.Derivations.{Line, line_at}
use Rattle.log_trim.specs.Trimming.{Hint, is_marked, AddsMarks, AreNeeded}

-- one hint
only_hint : (h m : ℕ) → Contains (h ∷ []) m → h ≡ m
only_hint h m (zero, lt, e) = e
only_hint h m (suc k, lt, e) = absurd (omega arith)

pub adds_one : (given h i : ℕ) (before : List Bool) → given < h → h - given ≤ i → i ≤ length before → AddsMarks given (h ∷ []) i before (set before (h - given - 1) true)
adds_one given h i before past within le =
    let at : ℕ = h - given - 1 in
    let same : is_marked (set before at true) at ≡ true = get_or-set_same before at true false (omega arith) in
    record {
      size = length-set before at true;
      kept = λ j e. ⊎_elim (λ (s : j ≡ at). subst (λ (k : ℕ). is_marked (set before at true) k ≡ true) (sym s) same) (λ (n : j ≡ at → ⊥). get_or-set_other before at j true false n ∙ e) (cases_eq j at);
      hinted = λ j lt c. let e = only_hint h (given + j + 1) c in let s : at ≡ j = omega arith in subst (λ (k : ℕ). is_marked (set before at true) k ≡ true) s same;
      only = λ j e. ⊎_elim
          (λ (s : j ≡ at). let is : h ≡ given + j + 1 = omega arith in inr (omega arith, (0, omega arith, is)))
          (λ (n : j ≡ at → ⊥). inl (sym (get_or-set_other before at j true false n) ∙ e)) (cases_eq j at);
    }

pub adds_none : (given h i : ℕ) (before : List Bool) → (given < h → h - given ≤ i → ⊥) → AddsMarks given (h ∷ []) i before before
adds_none given h i before n = record {
  size = refl;
  kept = λ j e. e;
  hinted = λ j lt c. let e = only_hint h (given + j + 1) c in absurd (n (omega arith) (omega arith));
  only = λ j e. inl e;
}

pub adds_nothing : (given i : ℕ) (before : List Bool) → AddsMarks given [] i before before
adds_nothing given i before = record {
  size = refl;
  kept = λ j e. e;
  hinted = λ j lt (k, less, e). absurd (omega arith);
  only = λ j e. inl e;
}

pub adds_more : (given i h : ℕ) (hs : List ℕ) (a b c : List Bool) → AddsMarks given hs i a b → AddsMarks given (h ∷ []) i b c → AddsMarks given (hs ++ h ∷ []) i a c
adds_more given i h hs a b c p q = record {
  size = q.size ∙ p.size;
  kept = λ j e. q.kept j (p.kept j e);
  hinted = λ j lt m. ⊎_elim (λ (x : Contains hs (given + j + 1)). q.kept j (p.hinted j lt x)) (λ (x : h ≡ given + j + 1). q.hinted j lt (0, omega arith, x)) (Contains-push_cases hs h (given + j + 1) m);
  only = λ j e. ⊎_elim
      (λ (x : is_marked b j ≡ true). ⊎_elim (λ (y : is_marked a j ≡ true). inl y) (λ (y : (j < i) × Hint given hs j). inr (y.0, Contains-append_left hs (h ∷ []) (given + j + 1) y.1)) (p.only j x))
      (λ (x : (j < i) × Hint given (h ∷ []) j). inr (x.0, subst (λ (m : ℕ). Contains (hs ++ h ∷ []) m) (only_hint h (given + j + 1) x.1) (Contains-push hs h))) (q.only j e);
}

-- marks before any line was followed
none_marked : (n k : ℕ) → is_marked (replicate n false) k ≡ false
none_marked zero k = refl
none_marked (suc n) zero = refl
none_marked (suc n) (suc k) = none_marked n k

pub none_but_last : (n k : ℕ) → is_marked (replicate n false) k ≡ true → ⊥
none_but_last n k e = false≢true (sym (none_marked n k) ∙ e)

pub last_alone : (n k : ℕ) → 0 < n → is_marked (set (replicate n false) (n - 1) true) k ≡ true → k + 1 ≡ n
last_alone n k some e = ⊎_elim (λ (s : k ≡ n - 1). omega arith)
    (λ (o : k ≡ n - 1 → ⊥). absurd (none_but_last n k (sym (get_or-set_other (replicate n false) (n - 1) k true false o) ∙ e))) (cases_eq k (n - 1))

-- the lines from line i on were followed
pub record SoFar (given : ℕ) (lines : List Line) (i : ℕ) (marks : List Bool) : Type 0 where
  pub within : i ≤ length lines
  pub size : length marks ≡ length lines
  pub last : (k : ℕ) → k + 1 ≡ length lines → is_marked marks k ≡ true
  pub hinted : (k j : ℕ) → i ≤ j → k < j → is_marked marks j ≡ true → Hint given (line_at lines j).hints k → is_marked marks k ≡ true
  pub only : (k : ℕ) → k + 1 < length lines → is_marked marks k ≡ true → (j : ℕ) × (k < j) × (is_marked marks j ≡ true) × Hint given (line_at lines j).hints k

past_marks : (bs : List Bool) (k : ℕ) → length bs ≤ k → is_marked bs k ≡ true → ⊥
past_marks [] k le t = false≢true t
past_marks (b ∷ bs) zero le t = absurd (omega arith)
past_marks (b ∷ bs) (suc k) le t = past_marks bs k (omega arith) t

pub within_marks : (bs : List Bool) (k : ℕ) → is_marked bs k ≡ true → k < length bs
within_marks bs k t = ⊎_elim (λ (lt : k < length bs). lt) (λ (le : length bs ≤ k). absurd (past_marks bs k le t)) (cases_lt k (length bs))

pub begins_marked : (given : ℕ) (lines : List Line) (n : ℕ) (marks : List Bool) → n ≡ length lines → length marks ≡ n → ((k : ℕ) → k + 1 ≡ n → is_marked marks k ≡ true)
    → ((k : ℕ) → is_marked marks k ≡ true → k + 1 ≡ n) → SoFar given lines n marks
begins_marked given lines n marks e size last only = record {
  within = omega arith;
  size = size ∙ e;
  last = λ k s. last k (s ∙ sym e);
  hinted = λ k j le lt m h. let w = within_marks marks j m in absurd (omega arith);
  only = λ k lt m. let w = only k m in absurd (omega arith);
}

-- line i is followed if it is marked
pub one_more : (given : ℕ) (lines : List Line) (i : ℕ) (marks now : List Bool) → SoFar given lines (suc i) marks → (is_marked marks i ≡ true → AddsMarks given (line_at lines i).hints i marks now)
    → (is_marked marks i ≡ false → now ≡ marks) → SoFar given lines i now
one_more given lines i marks now so marked passed = ⊎_elim
    (λ (t : is_marked marks i ≡ true). let adds = marked t in record {
      within = (let w = so.within in omega arith);
      size = adds.size ∙ so.size;
      last = λ k s. adds.kept k (so.last k s);
      hinted = λ k j le lt m h. ⊎_elim
          (λ (e : i ≡ j). adds.hinted k (omega arith) (subst (λ (x : ℕ). Hint given (line_at lines x).hints k) (sym e) h))
          (λ (n : i ≡ j → ⊥). ⊎_elim (λ (old : is_marked marks j ≡ true). adds.kept k (so.hinted k j (omega (arith, n)) lt old h)) (λ (new : (j < i) × Hint given (line_at lines i).hints j). absurd (omega (arith, new.0))) (adds.only j m)) (cases_eq i j);
      only = λ k lt m. ⊎_elim
          (λ (old : is_marked marks k ≡ true). let (j, less, is, h) = so.only k lt old in (j, less, adds.kept j is, h))
          (λ (new : (k < i) × Hint given (line_at lines i).hints k). (i, new.0, adds.kept i t, new.1)) (adds.only k m);
    })
    (λ (f : is_marked marks i ≡ false). subst (SoFar given lines i) (sym (passed f)) (record {
      within = (let w = so.within in omega arith);
      size = so.size;
      last = so.last;
      hinted = λ k j le lt m h. ⊎_elim (λ (e : i ≡ j). absurd (false≢true (sym f ∙ subst (λ (x : ℕ). is_marked marks x ≡ true) (sym e) m))) (λ (n : i ≡ j → ⊥). so.hinted k j (omega (arith, n)) lt m h) (cases_eq i j);
      only = so.only;
    }))
    (cases_Bool (is_marked marks i))

pub all_marked : (given : ℕ) (lines : List Line) (i : ℕ) (marks : List Bool) → i ≡ 0 → SoFar given lines i marks → AreNeeded given lines marks
all_marked given lines i marks e so = record {
  size = so.size;
  last = so.last;
  hinted = λ k j lt m h. so.hinted k j (omega arith) lt m h;
  only = so.only;
}
