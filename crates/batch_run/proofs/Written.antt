-- The answers that are written, one pair at a time.
use Rattle.std.proofs.Common.{◌≡◌, ◌∙◌, ◌+◌, ◌<◌, ◌≤◌, ◌⊎◌, ℕ, max, false, List, [], ◌∷◌, ◌++◌, length, slice_index_or, fold, flat_map, decimal, Option, Result, Ok, Err, IfOk, OnOk, refl, sym, ap, subst, arith, inl, inr, length-append, append-nil, append_assoc}
use Rattle.std.proofs.lemmas.Bool.{cases_lt}
use Rattle.std.proofs.lemmas.Grind.{flat_map-append}
use Rattle.std.proofs.lemmas.List.{get_or_append_left, get_or_default}
use Rattle.std.proofs.Math.Seq.{get_or-append_seam}
use Rattle.circ_model.specs.Meaning.{Pair, places_of}
use Rattle.pair_files.specs.Pairs.{ArePair}
use Rattle.pair_pool.specs.declared.slots.Solved.{Solved}
use Rattle.pair_pool.specs.Outcomes.{IsOutcome, verdict_of}
use Rattle.pair_pool.specs.Solutions.{AreOutcomes}
use Rattle.run_texts.specs.Verdicts.{status_of_verdict, verdict_line}
use Rattle.batch_run.specs.declared.loading.Loaded.{Loaded}
use Rattle.batch_run.specs.declared.loading.Loaded.TheVariants as loaded
use Rattle.batch_run.specs.Loads.{AreLoaded, IsLoaded}
use Rattle.batch_run.specs.Answers.{Answered, AreAnswered, AreFirstAnswers, IsAnswerAt, IsAnswerOf, WritesAnswer, WritesLine, printed}

abbrev Files : Type 0
Files = List ℕ → Option (List ℕ)

abbrev Name2 : Type 0
Name2 = List ℕ × List ℕ

-- what the pair at a place of the list was found to be
pub loaded_at : (file : Files) (products : List Pair) (list : List Name2) (found : List Loaded) (at : ℕ) (names : Name2) (e : Loaded) → names ≡ slice_index_or list at names → at < length found
    → AreLoaded file products list found → IsLoaded file products names (slice_index_or found at e)
loaded_at file products list found at names e is lt are = subst (λ (n : Name2). IsLoaded file products n (slice_index_or found at e)) (sym is) (are at names e lt)

-- the verdict of the product at a place is that of its files
pub verdict_written : {E : Type 0} (r : Result ℕ E) (file : Files) (k at : ℕ) (names : Name2) (before after : List ℕ) (products : List Pair) (solved : List Solved) (pair : Pair) (s : Solved)
    → pair ≡ slice_index_or products at pair → AreOutcomes products k solved → IsLoaded file products names (loaded.Product at)
    → OnOk r (after ≡ before ++ verdict_line k (places_of pair) (verdict_of (slice_index_or solved at s).outcome)) → IfOk r (λ x. x ≡ status_of_verdict (verdict_of (slice_index_or solved at s).outcome)) → IfOk r (WritesAnswer file k names before after)
verdict_written (Err e) file k at names before after products solved pair s is_pair outcomes (lt, is) line status = tt
verdict_written (Ok x) file k at names before after products solved pair s is_pair outcomes (lt, is) line status =
    let within : at < length solved = omega (arith, lt, outcomes.count) in
    let o = (slice_index_or solved at s).outcome in
    let found = (outcomes.each at s within).1.1 pair in (
      verdict_line k (places_of pair) (verdict_of o),
      line,
      inl (record {
        pair = pair;
        is_pair = subst (ArePair false (file names.0) (file names.1)) (sym is_pair) (is pair);
        verdict = verdict_of o;
        is_verdict = subst (λ (p : Pair). IsOutcome p k o) (sym is_pair) found;
        line_is = refl;
        status_is = status;
      }),
    )

-- the answer after its number
pub line_written : {E : Type 0} (r : Result ℕ E) (file : Files) (k at : ℕ) (list : List Name2) (names : Name2) (before middle after : List ℕ) → names ≡ slice_index_or list at names → at < length list
    → middle ≡ before ++ (decimal (at + 1) ++ 32 ∷ []) → IfOk r (WritesAnswer file k names middle after) → IfOk r (WritesLine file k list at before after)
line_written (Err e) file k at list names before middle after is lt place answer = tt
line_written (Ok s) file k at list names before middle after is lt place (line, e, answer) = (
  line,
  e ∙ ap (λ (l : List ℕ). l ++ line) place ∙ append_assoc before (decimal (at + 1) ++ 32 ∷ []) line,
  λ d. subst (λ (n : Name2). IsAnswerOf file k n line s) (is ∙ get_or_default list at names d lt) answer,
)

greatest_more : (m : ℕ) (xs : List Answered) (a : Answered) → fold (λ (n : ℕ) (b : Answered). max n b.status) m (xs ++ a ∷ []) ≡ max (fold (λ (n : ℕ) (b : Answered). max n b.status) m xs) a.status
greatest_more m [] a = refl
greatest_more m (x ∷ xs) a = greatest_more (max m x.status) xs a

each_more : (file : Files) (k : ℕ) (list : List Name2) (answers : List Answered) (a : Answered) → AreFirstAnswers file k list answers → ((d : Name2) → IsAnswerAt file k (length answers) (slice_index_or list (length answers) d) a)
    → AreFirstAnswers file k list (answers ++ a ∷ [])
each_more file k list answers a are is = λ i d e lt.
    let len = length-append answers (a ∷ []) in
    elim (cases_lt i (length answers)) [
      | inl less ↦ subst (IsAnswerAt file k i (slice_index_or list i d)) (sym (get_or_append_left answers (a ∷ []) e i less)) (are i d e less)
      | inr ge ↦
          let end : length answers ≡ i = omega (arith, lt, len, ge) in
          subst (λ (j : ℕ). IsAnswerAt file k j (slice_index_or list j d) (slice_index_or (answers ++ a ∷ []) j e)) end
          (subst (IsAnswerAt file k (length answers) (slice_index_or list (length answers) d)) (sym (get_or-append_seam answers a [] e)) (is d))
    ]

pub none_answered : (file : Files) (k : ℕ) (list : List Name2) → AreAnswered file k list 0 [] 0
none_answered file k list = record { answers = []; counted = refl; each = λ i d e lt. absurd (omega (arith, lt)); print = record { text_is = refl; status_is = refl } }

-- one pair more
pub one_answered : (file : Files) (k at : ℕ) (list : List Name2) (before after : List ℕ) (status one now : ℕ) → now ≡ max status one → AreAnswered file k list at before status → WritesLine file k list at before after one
    → AreAnswered file k list (at + 1) after now
one_answered file k at list before after status one now is were (line, e, answer) =
    let a : Answered = record { number = at + 1; line = line; status = one } in
    let old = were.answers in
    record {
      answers = old ++ a ∷ [];
      counted = length-append old (a ∷ []) ∙ ap (λ (n : ℕ). n + 1) were.counted;
      each = each_more file k list old a were.each (λ d. subst (λ (j : ℕ). IsAnswerAt file k j (slice_index_or list j d) a) (sym were.counted) (record { number_is = refl; answer = answer d }));
      print = record {
        text_is = e ∙ ap (λ (l : List ℕ). l ++ printed a) were.print.text_is ∙ ap (λ (l : List ℕ). flat_map printed old ++ l) (sym (append-nil (printed a))) ∙ sym (flat_map-append printed old (a ∷ []));
        status_is = is ∙ ap (λ (m : ℕ). max m one) were.print.status_is ∙ sym (greatest_more 0 old a);
      };
    }

-- a status of a pair, and the greater of two
abbrev pub IsStatus : ℕ → Type 0
IsStatus s = (s ≤ 2) ⊎ (s ≡ 4)

pub greater_status : (a b r : ℕ) → r ≡ max a b → IsStatus a → IsStatus b → IsStatus r
greater_status a b r is (inl x) (inl y) = inl (omega (arith, is, x, y))
greater_status a b r is (inl x) (inr y) = inr (omega (arith, is, x, y))
greater_status a b r is (inr x) (inl y) = inr (omega (arith, is, x, y))
greater_status a b r is (inr x) (inr y) = inr (omega (arith, is, x, y))
