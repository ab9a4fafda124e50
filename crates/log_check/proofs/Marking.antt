-- Marks that go down a log from its last line, at what it reaches.
use Rattle.std.proofs.Common.{◌≡◌, ◌∙◌, ◌≤◌, ◌<◌, ◌+◌, ◌-◌, ℕ, zero, suc, Bool, true, false, List, [], ◌∷◌, ◌++◌, length, set, replicate, sym, ap, subst, arith, inl, inr, ⊎_elim, refl}
use Rattle.std.specs.List.{All, Contains}
use Rattle.std.proofs.lemmas.Bool.{cases_Bool, cases_eq, false≢true}
use Rattle.std.proofs.lemmas.List.{get_or-set_same, get_or-set_other, length-set, length-replicate}
use Rattle.std.proofs.lemmas.List.Elements.{All-contains, Contains-append_left, Contains-push, Contains-push_cases}
use Rattle.sat_log.specs.Derivations.{Line, line_at}
use Rattle.log_check.specs.Reached.{IsReached, AreReached, AddsMarks, is_marked}
use Rattle.log_check.specs.Reached.IsReached.{LastLine, Hinted}

-- one hint
only_hint : (h m : ℕ) → Contains (h ∷ []) m → h ≡ m
only_hint h m (zero, lt, e) = e
only_hint h m (suc k, lt, e) = absurd (omega arith)

adds_one : (h : ℕ) (before : List Bool) → 0 < h → h ≤ length before → AddsMarks (h ∷ []) before (set before (h - 1) true)
adds_one h before some within =
    let at : ℕ = h - 1 in
    let same : is_marked (set before at true) at ≡ true = get_or-set_same before at true false (omega arith) in
    record {
      size = length-set before at true;
      kept = λ n e. ⊎_elim (λ (s : n ≡ at). subst (λ (k : ℕ). is_marked (set before at true) k ≡ true) (sym s) same) (λ (o : n ≡ at → ⊥). get_or-set_other before at n true false o ∙ e) (cases_eq n at);
      hinted = λ n c. let e = only_hint h (n + 1) c in let s : at ≡ n = omega arith in subst (λ (k : ℕ). is_marked (set before at true) k ≡ true) s same;
      only = λ n e. ⊎_elim
          (λ (s : n ≡ at). let is : h ≡ n + 1 = omega arith in inr (0, omega arith, is))
          (λ (o : n ≡ at → ⊥). inl (sym (get_or-set_other before at n true false o) ∙ e)) (cases_eq n at);
    }

pub adds_nothing : (before : List Bool) → AddsMarks [] before before
adds_nothing before = record {
  size = refl;
  kept = λ n e. e;
  hinted = λ n (k, less, e). absurd (omega arith);
  only = λ n e. inl e;
}

adds_both : (h : ℕ) (hs : List ℕ) (a b c : List Bool) → AddsMarks hs a b → AddsMarks (h ∷ []) b c → AddsMarks (hs ++ h ∷ []) a c
adds_both h hs a b c p q = record {
  size = q.size ∙ p.size;
  kept = λ n e. q.kept n (p.kept n e);
  hinted = λ n m. ⊎_elim (λ (x : Contains hs (n + 1)). q.kept n (p.hinted n x)) (λ (x : h ≡ n + 1). q.hinted n (0, omega arith, x)) (Contains-push_cases hs h (n + 1) m);
  only = λ n e. ⊎_elim
      (λ (x : is_marked b n ≡ true). ⊎_elim (λ (y : is_marked a n ≡ true). inl y) (λ (y : Contains hs (n + 1)). inr (Contains-append_left hs (h ∷ []) (n + 1) y)) (p.only n x))
      (λ (x : Contains (h ∷ []) (n + 1)). inr (subst (λ (m : ℕ). Contains (hs ++ h ∷ []) m) (only_hint h (n + 1) x) (Contains-push hs h))) (q.only n e);
}

-- one more hint
pub adds_more : (h : ℕ) (hs : List ℕ) (a b c : List Bool) → 0 < h → h ≤ length a → AddsMarks hs a b → c ≡ set b (h - 1) true → AddsMarks (hs ++ h ∷ []) a c
adds_more h hs a b c some within adds e =
    let s = adds.size in
    subst (λ (x : List Bool). AddsMarks (hs ++ h ∷ []) a x) (sym e) (adds_both h hs a b (set b (h - 1) true) adds (adds_one h b some (omega arith)))

-- the lines from line i on were followed
pub record SoFar (given : ℕ) (lines : List Line) (i : ℕ) (marks : List Bool) : Type 0 where
  pub within : i ≤ length lines
  pub size : length marks ≡ given + length lines
  pub sound : (n : ℕ) → is_marked marks n ≡ true → IsReached given lines (n + 1)
  pub last : (j : ℕ) → j + 1 ≡ length lines → is_marked marks (given + j) ≡ true
  pub closed : (j n : ℕ) → i ≤ j → j < length lines → is_marked marks (given + j) ≡ true → Contains (line_at lines j).hints (n + 1) → is_marked marks n ≡ true

none_marked : (n k : ℕ) → is_marked (replicate n false) k ≡ false
none_marked zero k = refl
none_marked (suc n) zero = refl
none_marked (suc n) (suc k) = none_marked n k

-- the last line alone is marked
pub begins : (given : ℕ) (lines : List Line) (count : ℕ) (marks : List Bool) → 0 < length lines → count ≡ given + length lines → marks ≡ set (replicate count false) (count - 1) true → SoFar given lines (length lines) marks
begins given lines count marks some e is = subst (SoFar given lines (length lines)) (sym is) (record {
  within = omega arith;
  size = length-set (replicate count false) (count - 1) true ∙ length-replicate count false ∙ e;
  sound = λ n m. ⊎_elim
      (λ (s : n ≡ count - 1). LastLine (n + 1) (length lines - 1) (omega arith) (omega arith))
      (λ (o : n ≡ count - 1 → ⊥). absurd (false≢true (sym (none_marked count n) ∙ sym (get_or-set_other (replicate count false) (count - 1) n true false o) ∙ m))) (cases_eq n (count - 1));
  last = λ j s. let at : count - 1 ≡ given + j = omega arith in
      let l = length-replicate count false in
      subst (λ (k : ℕ). is_marked (set (replicate count false) (count - 1) true) k ≡ true) at (get_or-set_same (replicate count false) (count - 1) true false (omega arith));
  closed = λ j n le lt m c. absurd (omega arith);
})

-- line i is followed if it is marked
pub one_more : (given : ℕ) (lines : List Line) (i : ℕ) (marks now : List Bool) → SoFar given lines (suc i) marks → All (λ h. (0 < h) × (h ≤ given + i)) (line_at lines i).hints
    → (is_marked marks (given + i) ≡ true → AddsMarks (line_at lines i).hints marks now) → (is_marked marks (given + i) ≡ false → now ≡ marks) → SoFar given lines i now
one_more given lines i marks now so earlier marked passed =
    let w = so.within in ⊎_elim
    (λ (t : is_marked marks (given + i) ≡ true). let adds = marked t in record {
      within = omega arith;
      size = adds.size ∙ so.size;
      sound = λ n m. ⊎_elim (λ (old : is_marked marks n ≡ true). so.sound n old)
          (λ (new : Contains (line_at lines i).hints (n + 1)). Hinted (n + 1) i (omega arith) (so.sound (given + i) t) new) (adds.only n m);
      last = λ j s. adds.kept (given + j) (so.last j s);
      closed = λ j n le lt m c. ⊎_elim
          (λ (e : i ≡ j). adds.hinted n (subst (λ (x : ℕ). Contains (line_at lines x).hints (n + 1)) (sym e) c))
          (λ (o : i ≡ j → ⊥). ⊎_elim (λ (old : is_marked marks (given + j) ≡ true). adds.kept n (so.closed j n (omega (arith, o)) lt old c))
          (λ (new : Contains (line_at lines i).hints (given + j + 1)). let b = All-contains (λ h. (0 < h) × (h ≤ given + i)) (line_at lines i).hints (given + j + 1) earlier new in absurd (omega (arith, b.1))) (adds.only (given + j) m)) (cases_eq i j);
    })
    (λ (f : is_marked marks (given + i) ≡ false). subst (SoFar given lines i) (sym (passed f)) (record {
      within = omega arith;
      size = so.size;
      sound = so.sound;
      last = so.last;
      closed = λ j n le lt m c. ⊎_elim (λ (e : i ≡ j). absurd (false≢true (sym f ∙ subst (λ (x : ℕ). is_marked marks (given + x) ≡ true) (sym e) m))) (λ (o : i ≡ j → ⊥). so.closed j n (omega (arith, o)) lt m c) (cases_eq i j);
    }))
    (cases_Bool (is_marked marks (given + i)))

pub one_down : (given found : ℕ) (lines : List Line) (i j : ℕ) (marks now : List Bool) → found ≡ given → i ≡ suc j → SoFar given lines i marks → All (λ h. (0 < h) × (h ≤ given + j)) (line_at lines j).hints
    → (is_marked marks (found + j) ≡ true → AddsMarks (line_at lines j).hints marks now) → (is_marked marks (found + j) ≡ false → now ≡ marks) → SoFar given lines j now
one_down given found lines i j marks now e is so earlier marked passed =
    one_more given lines j marks now (subst (λ (n : ℕ). SoFar given lines n marks) is so) earlier
    (subst (λ (g : ℕ). is_marked marks (g + j) ≡ true → AddsMarks (line_at lines j).hints marks now) e marked)
    (subst (λ (g : ℕ). is_marked marks (g + j) ≡ false → now ≡ marks) e passed)

-- what is reached is marked, once all lines were followed
all_marked : (given : ℕ) (lines : List Line) (marks : List Bool) → SoFar given lines 0 marks → ((i : ℕ) → i < length lines → All (λ h. 0 < h) (line_at lines i).hints) → (h : ℕ) → IsReached given lines h → is_marked marks (h - 1) ≡ true
all_marked given lines marks so some m (LastLine h i e s) =
    let at : given + i ≡ h - 1 = omega arith in
    subst (λ (k : ℕ). is_marked marks k ≡ true) at (so.last i e)
all_marked given lines marks so some m (Hinted h i lt r c) =
    let before = all_marked given lines marks so some (given + i + 1) r in
    let at : given + i + 1 - 1 ≡ given + i = omega arith in
    let first : 0 < h = All-contains (λ x. 0 < x) (line_at lines i).hints h (some i lt) c in
    let same : h ≡ h - 1 + 1 = omega arith in
    so.closed i (h - 1) (omega arith) lt (subst (λ (k : ℕ). is_marked marks k ≡ true) at before) (subst (Contains (line_at lines i).hints) same c)

pub ends_reached : (given : ℕ) (lines : List Line) (i : ℕ) (marks : List Bool) → i ≡ 0 → SoFar given lines i marks → ((j : ℕ) → j < length lines → All (λ h. 0 < h) (line_at lines j).hints) → AreReached given lines (given + length lines) marks
ends_reached given lines i marks e so some = record {
  size = so.size;
  exact = λ n lt. (so.sound n, λ r. let at : n + 1 - 1 ≡ n = omega arith in subst (λ (k : ℕ). is_marked marks k ≡ true) at (all_marked given lines marks (subst (λ (k : ℕ). SoFar given lines k marks) e so) some (n + 1) r));
}

-- the marks of the first clauses
pub cut_reached : (given count : ℕ) (lines : List Line) (all : ℕ) (marks none bits : List Bool) → AreReached given lines all marks → given ≤ all → count ≡ given → none ≡ replicate count false → length bits ≡ length none
    → ((n : ℕ) → n < count → is_marked bits (0 + n) ≡ is_marked marks (0 + n)) → AreReached given lines given bits
cut_reached given count lines all marks none bits reached le e blank size copied = record {
  size = size ∙ ap length blank ∙ length-replicate count false ∙ e;
  exact = λ n lt. let was = reached.exact n (omega arith) in
      let at : 0 + n ≡ n = omega arith in
      let same : is_marked bits n ≡ is_marked marks n = subst (λ (k : ℕ). is_marked bits k ≡ is_marked marks k) at (copied n (omega arith)) in
      (λ t. was.0 (sym same ∙ t), λ r. same ∙ was.1 r);
}
