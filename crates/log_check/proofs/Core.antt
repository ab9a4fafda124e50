-- The clauses that the last line reaches leave no satisfying assignment.
use Rattle.std.proofs.Common.{◌≡◌, ◌∙◌, ◌≤◌, ◌<◌, ◌+◌, ◌-◌, ℕ, zero, suc, ℤ, neg_ℤ, Bool, true, false, List, [], ◌∷◌, ◌++◌, map, length, take, sym, ap, subst, refl, arith, append_assoc, ◌⊎◌, ⊎_elim}
use Rattle.std.specs.List.{All, Contains}
use Rattle.std.proofs.lemmas.Bool.{cases_Bool, cases_lt, false≢true}
use Rattle.std.proofs.lemmas.List.{append-nil}
use Rattle.std.proofs.lemmas.List.Elements.{All-contains}
use Rattle.cnf_store.specs.Clauses.{clause_true, IsLiteral, Formula}
use Rattle.sat_log.specs.Derivations.{Line, line_at, clause_at, clauses_of, Refutes, Follows, AllFollow, EndsEmpty, IsAccepted}
use Rattle.sat_log.proofs.Lists.{neg_neg, contains_cases, contains_neg_back}
use Rattle.sat_log.proofs.Soundness.{IsTrueIn, not_both, true_or_false, some_true, true_some}
use Rattle.log_check.specs.FirstBad.{clauses_before}
use Rattle.log_check.specs.Reached.{IsReached, AreReached, SatisfiesMarked}
use Rattle.log_check.specs.Reached.IsReached.{LastLine, Hinted}
use Rattle.log_check.proofs.Following.{length_before, given_clause, line_clause, ends_back}

-- the clauses of a formula that are reached are true under an assignment
abbrev pub SatisfiesReached : List Bool → Formula → List Line → Type 0
SatisfiesReached row formula lines = (h : ℕ) → 0 < h → h ≤ length formula.clauses → IsReached (length formula.clauses) lines h → clause_true row (clause_at formula.clauses h) ≡ true

-- where all that is assumed is true, and the clauses that the hints name too, nothing is refuted
refutes_none : (row : List Bool) (db : List (List ℤ)) (assumed : List ℤ) (hints : List ℕ) → ((h : ℕ) → Contains hints h → clause_true row (clause_at db h) ≡ true)
    → ((l : ℤ) → Contains assumed l → IsTrueIn row l) → Refutes db assumed hints → ⊥
refutes_none row db assumed [] named holds r = r
refutes_none row db assumed (h ∷ []) named holds r =
    let (l, c, t) = some_true row (clause_at db h) (named h (0, omega arith, refl)) in
    not_both row l t (holds (neg_ℤ l) (All-contains (λ m. Contains assumed (neg_ℤ m)) (clause_at db h) l r c))
refutes_none row db assumed (h ∷ i ∷ hs) named holds (l, only, r) =
    let (m, c, t) = some_true row (clause_at db h) (named h (0, omega arith, refl)) in
    let is : IsTrueIn row l = ⊎_elim
    (λ (e : m ≡ l). subst (IsTrueIn row) e t)
    (λ (f : Contains assumed (neg_ℤ m)). absurd (not_both row m t (holds (neg_ℤ m) f)))
    (All-contains (λ x. (x ≡ l) ⊎ Contains assumed (neg_ℤ x)) (clause_at db h) m only.others c) in
    refutes_none row db (l ∷ assumed) (i ∷ hs) (λ n (k, lt, e). named n (suc k, omega arith, e))
    (λ x d. ⊎_elim (λ (e : l ≡ x). subst (IsTrueIn row) e is) (λ (a : Contains assumed x). holds x a) (contains_cases l x assumed d)) r

-- a line that follows is true where the clauses that it hints are
follows_true : (vars : ℕ) (row : List Bool) (db : List (List ℤ)) (line : Line) → Follows vars db line → ((h : ℕ) → Contains line.hints h → clause_true row (clause_at db h) ≡ true) → clause_true row line.literals ≡ true
follows_true vars row db line f named = ⊎_elim (λ (t : clause_true row line.literals ≡ true). t)
    (λ (n : clause_true row line.literals ≡ false).
    let denied = λ (l : ℤ) (c : Contains line.literals l). ⊎_elim
    (λ (t : IsTrueIn row l). let all = true_some row line.literals l c t in absurd (false≢true (sym n ∙ all)))
    (λ (d : IsTrueIn row (neg_ℤ l)). d)
    (true_or_false vars row l (All-contains (λ x. IsLiteral vars x) line.literals l f.within c)) in
    absurd (refutes_none row db (map neg_ℤ line.literals) line.hints named (λ l c. subst (IsTrueIn row) (neg_neg l) (denied (neg_ℤ l) (contains_neg_back line.literals l c))) f.refutes))
    (cases_Bool (clause_true row line.literals))

-- line i follows from the clauses before it
follow_at : (vars : ℕ) (db : List (List ℤ)) (lines : List Line) (i : ℕ) → AllFollow vars db lines → i < length lines → Follows vars (db ++ clauses_of (take i lines)) (line_at lines i)
follow_at vars db [] i all lt = absurd (omega arith)
follow_at vars db (l ∷ ls) zero all lt = subst (λ (cs : List (List ℤ)). Follows vars cs l) (sym (append-nil db)) all.0
follow_at vars db (l ∷ ls) (suc i) all lt =
    subst (λ (cs : List (List ℤ)). Follows vars cs (line_at ls i)) (append_assoc db (l.literals ∷ []) (clauses_of (take i ls))) (follow_at vars (db ++ l.literals ∷ []) ls i all.1 (omega arith))

-- what a line of an accepted log hints stands before it
pub hints_before : (formula : Formula) (lines : List Line) (i : ℕ) → IsAccepted formula lines → i < length lines → All (λ h. (0 < h) × (h ≤ length formula.clauses + i)) (line_at lines i).hints
hints_before formula lines i is lt =
    let f = follow_at formula.vars formula.clauses lines i is.follow lt in
    subst (λ (n : ℕ). All (λ h. (0 < h) × (h ≤ n)) (line_at lines i).hints) (length_before formula lines i (omega arith)) f.earlier

pub hints_some : (formula : Formula) (lines : List Line) → IsAccepted formula lines → (i : ℕ) → i < length lines → All (λ h. 0 < h) (line_at lines i).hints
hints_some formula lines is i lt k d less = (hints_before formula lines i is lt k d less).0

pub some_lines : (lines : List Line) → EndsEmpty lines → 0 < length lines
some_lines [] e = absurd e
some_lines (l ∷ ls) e = omega arith

-- each line that is reached is true where the reached clauses of the formula are
lines_true : (row : List Bool) (formula : Formula) (lines : List Line) → IsAccepted formula lines → SatisfiesReached row formula lines → (n i : ℕ) → i < n → i < length lines → IsReached (length formula.clauses) lines (length formula.clauses + i + 1)
    → clause_true row (line_at lines i).literals ≡ true
lines_true row formula lines is sat zero i below lt reached = absurd (omega arith)
lines_true row formula lines is sat (suc n) i below lt reached =
    let given : ℕ = length formula.clauses in
    let db : List (List ℤ) = clauses_before formula lines i in
    let hints : List ℕ = (line_at lines i).hints in
    let before = hints_before formula lines i is lt in
    follows_true formula.vars row db (line_at lines i) (follow_at formula.vars formula.clauses lines i is.follow lt)
    (λ h c. let b = All-contains (λ x. (0 < x) × (x ≤ given + i)) hints h before c in
    let r : IsReached given lines h = Hinted h i lt reached c in
    ⊎_elim
    (λ (past : given < h).
    let j : ℕ = h - given - 1 in
    let at : h ≡ given + j + 1 = omega arith in
    ap (clause_true row) (line_clause formula lines i h j (omega arith) past b.1 refl)
    ∙ lines_true row formula lines is sat n j (omega (arith, b.1)) (omega (arith, b.1)) (subst (IsReached given lines) at r))
    (λ (own : h ≤ given). ap (clause_true row) (given_clause formula lines i h b.0 own) ∙ sat h b.0 own r)
    (cases_lt given h))

core_refuted : (formula : Formula) (lines : List Line) → IsAccepted formula lines → (row : List Bool) → SatisfiesReached row formula lines → ⊥
core_refuted formula lines is row sat =
    let some = some_lines lines is.empty in
    let at : ℕ = length lines - 1 in
    let last : IsReached (length formula.clauses) lines (length formula.clauses + at + 1) = LastLine (length formula.clauses + at + 1) at (omega arith) refl in
    false≢true (sym (ap (clause_true row) (ends_back lines is.empty)) ∙ lines_true row formula lines is sat (length lines) at (omega arith) (omega arith) last)

pub marked_refuted : (formula : Formula) (lines : List Line) (marks : List Bool) → IsAccepted formula lines → AreReached (length formula.clauses) lines (length formula.clauses) marks
    → (row : List Bool) → SatisfiesMarked row formula.clauses marks → ⊥
marked_refuted formula lines marks is reached row sat =
    core_refuted formula lines is row
    (λ h first last r. let at : h - 1 + 1 ≡ h = omega arith in
    sat (h - 1) (omega arith) ((reached.exact (h - 1) (omega arith)).1 (subst (IsReached (length formula.clauses) lines) (sym at) r)))
