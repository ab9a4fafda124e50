-- A line of a derivation is true wherever the clauses are that its hints name, whatever the other clauses are.
use Rattle.std.proofs.Common.{◌≡◌, ◌∙◌, ◌<◌, ◌-◌, ◌+◌, ℕ, zero, suc, ℤ, neg_ℤ, Bool, true, List, [], ◌∷◌, ◌++◌, length, get_or, map, take, sym, ap, subst, arith, append_assoc, ◌⊎◌, inl, inr, ⊎_elim, ◌||◌}
use Rattle.std.specs.List.{All, Contains}
use Rattle.std.proofs.lemmas.List.{append-nil, get_or-map, get_or-append_right}
use Rattle.cnf_store.specs.Clauses.{clause_true, AreLiterals}
use Rattle.sat_log.specs.Derivations.{Line, line_at, clause_at, clauses_of, Refutes, Follows, AllFollow}
use Rattle.sat_log.proofs.Lists.{neg_neg, contains_cases, contains_tail, contains_neg_back}
use Rattle.sat_log.proofs.Soundness.{IsTrueIn, not_both, some_true, true_some, true_or_false}

all_at : (P : ℤ → Type 0) (clause : List ℤ) (l : ℤ) → All P clause → Contains clause l → P l
all_at P clause l all (k, lt, e) = subst P e (all k l lt)

-- where all that is assumed is true, and the clauses too that are named, nothing is refuted
refutes_none : (row : List Bool) (db : List (List ℤ)) (assumed : List ℤ) (hints : List ℕ) → All (λ (h : ℕ). clause_true row (clause_at db h) ≡ true) hints
    → ((l : ℤ) → Contains assumed l → IsTrueIn row l) → Refutes db assumed hints → ⊥
refutes_none row db assumed [] are holds r = r
refutes_none row db assumed (h ∷ []) are holds r =
    let (l, c, t) = some_true row (clause_at db h) (are 0 0 (omega arith)) in
    not_both row l t (holds (neg_ℤ l) (all_at (λ m. Contains assumed (neg_ℤ m)) (clause_at db h) l r c))
refutes_none row db assumed (h ∷ i ∷ hs) are holds (l, only, r) =
    let (m, c, t) = some_true row (clause_at db h) (are 0 0 (omega arith)) in
    let is : IsTrueIn row l = ⊎_elim
    (λ (e : m ≡ l). subst (IsTrueIn row) e t)
    (λ (f : Contains assumed (neg_ℤ m)). absurd (not_both row m t (holds (neg_ℤ m) f)))
    (all_at (λ x. (x ≡ l) ⊎ Contains assumed (neg_ℤ x)) (clause_at db h) m only.others c) in
    refutes_none row db (l ∷ assumed) (i ∷ hs) (λ p d lt. are (suc p) d (omega arith))
    (λ x d. ⊎_elim (λ (e : l ≡ x). subst (IsTrueIn row) e is) (λ (a : Contains assumed x). holds x a) (contains_cases l x assumed d)) r

-- the clause is true, or all complements are
some_or_all : (vars : ℕ) (row : List Bool) (ls : List ℤ) → AreLiterals vars ls → (clause_true row ls ≡ true) ⊎ ((l : ℤ) → Contains ls l → IsTrueIn row (neg_ℤ l))
some_or_all vars row [] are = inr (λ l (k, lt, e). absurd (omega arith))
some_or_all vars row (x ∷ ls) are = ⊎_elim
    (λ (t : IsTrueIn row x). inl (ap (λ b. b || clause_true row ls) t))
    (λ (f : IsTrueIn row (neg_ℤ x)). ⊎_elim
    (λ (a : clause_true row ls ≡ true). let (l, c, t) = some_true row ls a in inl (true_some row (x ∷ ls) l (contains_tail x l ls c) t))
    (λ (n : (l : ℤ) → Contains ls l → IsTrueIn row (neg_ℤ l)). inr (λ l c. ⊎_elim (λ (e : x ≡ l). subst (λ m. IsTrueIn row (neg_ℤ m)) e f) (λ (h : Contains ls l). n l h) (contains_cases x l ls c)))
    (some_or_all vars row ls (λ k d lt. are (suc k) d (omega arith))))
    (true_or_false vars row x (are 0 x (omega arith)))

pub line_true : (vars : ℕ) (row : List Bool) (db : List (List ℤ)) (line : Line) → Follows vars db line → All (λ (h : ℕ). clause_true row (clause_at db h) ≡ true) line.hints → clause_true row line.literals ≡ true
line_true vars row db line f are = ⊎_elim (λ (a : clause_true row line.literals ≡ true). a)
    (λ (n : (l : ℤ) → Contains line.literals l → IsTrueIn row (neg_ℤ l)). absurd (refutes_none row db (map neg_ℤ line.literals) line.hints are
    (λ l c. subst (IsTrueIn row) (neg_neg l) (n (neg_ℤ l) (contains_neg_back line.literals l c))) f.refutes))
    (some_or_all vars row line.literals f.within)

-- each line follows from those before it
pub follow_at : (vars : ℕ) (cs : List (List ℤ)) (ls : List Line) (i : ℕ) → AllFollow vars cs ls → i < length ls → Follows vars (cs ++ clauses_of (take i ls)) (line_at ls i)
follow_at vars cs [] i all lt = absurd (omega arith)
follow_at vars cs (x ∷ ls) zero all lt = subst (λ (db : List (List ℤ)). Follows vars db x) (sym (append-nil cs)) all.0
follow_at vars cs (x ∷ ls) (suc i) all lt =
    subst (λ (db : List (List ℤ)). Follows vars db (line_at ls i)) (append_assoc cs (x.literals ∷ []) (clauses_of (take i ls))) (follow_at vars (cs ++ x.literals ∷ []) ls i all.1 (omega arith))

-- the clause of a line
pub line_clause : (cs : List (List ℤ)) (ls : List Line) (total m h : ℕ) → length cs ≡ total → m < length ls → h ≡ total + m + 1 → clause_at (cs ++ clauses_of ls) h ≡ (line_at ls m).literals
line_clause cs ls total m h len lt e =
    let place : h - 1 - total ≡ m = omega arith in
    get_or-append_right cs (clauses_of ls) total (h - 1) [] len (omega arith) ∙ ap (λ (k : ℕ). get_or (clauses_of ls) k []) place ∙ get_or-map (λ (l : Line). l.literals) ls m (record { literals = []; hints = [] }) [] lt
