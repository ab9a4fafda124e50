-- An accepted log leaves no satisfying assignment.
use Rattle.std.proofs.Common.{◌≡◌, ◌≤◌, ◌<◌, ◌-◌, ℕ, zero, suc, ℤ, pos, negsuc, neg_ℤ, List, [], ◌∷◌, ◌++◌, map, length, get_or, arith, sym, ◌∙◌, ap, subst, refl, ◌⊎◌, inl, inr, ⊎_elim, Bool, true, false, not, ◌||◌}
use Rattle.std.proofs.lemmas.Bool.{false≢true, and_parts, and_from}
use Rattle.std.specs.List.{All, Contains}
use Rattle.std.proofs.lemmas.List.Folds.{list_all-append}
use Rattle.cnf_store.specs.Clauses.{literal_true, clause_true, satisfies, IsLiteral, AreLiterals, Formula}
use Rattle.sat_log.specs.Derivations.{Line, clause_at, Refutes, Follows, AllFollow, EndsEmpty, IsAccepted}
use Rattle.sat_log.proofs.Lists.{neg_neg, contains_cases, contains_head, contains_tail, contains_neg_back}

abbrev pub IsTrueIn : List Bool → ℤ → Type 0
IsTrueIn row l = literal_true row l ≡ true

not_true : (b : Bool) → b ≡ true → not b ≡ true → ⊥
not_true true e f = false≢true f
not_true false e f = false≢true e

pub not_both : (row : List Bool) (l : ℤ) → IsTrueIn row l → IsTrueIn row (neg_ℤ l) → ⊥
not_both row (pos zero) a b = false≢true a
not_both row (pos (suc n)) a b = not_true (get_or row n false) a b
not_both row (negsuc n) a b = not_true (get_or row n false) b a

either : (b : Bool) → (b ≡ true) ⊎ (not b ≡ true)
either true = inl refl
either false = inr refl

pub true_or_false : (vars : ℕ) (row : List Bool) (l : ℤ) → IsLiteral vars l → IsTrueIn row l ⊎ IsTrueIn row (neg_ℤ l)
true_or_false vars row (pos zero) is = absurd (omega (arith, is.0))
true_or_false vars row (pos (suc n)) is = either (get_or row n false)
true_or_false vars row (negsuc n) is = ⊎_elim (λ e. inr e) (λ e. inl e) (either (get_or row n false))

or_parts : (a b : Bool) → (a || b) ≡ true → (a ≡ true) ⊎ (b ≡ true)
or_parts true b e = inl refl
or_parts false b e = inr e

-- a true clause has a true literal
pub some_true : (row : List Bool) (clause : List ℤ) → clause_true row clause ≡ true → (l : ℤ) × Contains clause l × IsTrueIn row l
some_true row [] e = absurd (false≢true e)
some_true row (x ∷ xs) e = ⊎_elim
    (λ (t : IsTrueIn row x). (x, contains_head x xs, t))
    (λ (t : clause_true row xs ≡ true). let (l, c, h) = some_true row xs t in (l, contains_tail x l xs c, h))
    (or_parts (literal_true row x) (clause_true row xs) e)

pub true_some : (row : List Bool) (clause : List ℤ) (l : ℤ) → Contains clause l → IsTrueIn row l → clause_true row clause ≡ true
true_some row [] l (k, lt, e) t = absurd (omega arith)
true_some row (x ∷ xs) l (zero, lt, e) t = ap (λ b. b || clause_true row xs) (ap (literal_true row) e ∙ t)
true_some row (x ∷ xs) l (suc k, lt, e) t = or_right (literal_true row x) (clause_true row xs) (true_some row xs l (k, omega arith, e) t)
  where
    or_right : (a b : Bool) → b ≡ true → (a || b) ≡ true
    or_right true b e = refl
    or_right false b e = e

-- a clause of a satisfied list
pub clause_in : (row : List Bool) (db : List (List ℤ)) (n : ℕ) → satisfies row db ≡ true → n < length db → clause_true row (get_or db n []) ≡ true
clause_in row [] n sat lt = absurd (omega arith)
clause_in row (c ∷ db) zero sat lt = (and_parts (clause_true row c) (satisfies row db) sat).0
clause_in row (c ∷ db) (suc n) sat lt = clause_in row db n (and_parts (clause_true row c) (satisfies row db) sat).1 (omega arith)

all_at : (P : ℤ → Type 0) (clause : List ℤ) (l : ℤ) → All P clause → Contains clause l → P l
all_at P clause l all (k, lt, e) = subst P e (all k l lt)

-- where all that is assumed is true, and the clauses too, nothing is refuted
refutes_none : (row : List Bool) (db : List (List ℤ)) (assumed : List ℤ) (hints : List ℕ) → satisfies row db ≡ true → All (λ h. (0 < h) × (h ≤ length db)) hints
    → ((l : ℤ) → Contains assumed l → IsTrueIn row l) → Refutes db assumed hints → ⊥
refutes_none row db assumed [] sat known holds r = r
refutes_none row db assumed (h ∷ []) sat known holds r =
    let k = known 0 0 (omega arith) in
    let (l, c, t) = some_true row (clause_at db h) (clause_in row db (h - 1) sat (omega (arith, k.0, k.1))) in
    not_both row l t (holds (neg_ℤ l) (all_at (λ m. Contains assumed (neg_ℤ m)) (clause_at db h) l r c))
refutes_none row db assumed (h ∷ i ∷ hs) sat known holds (l, only, r) =
    let k = known 0 0 (omega arith) in
    let (m, c, t) = some_true row (clause_at db h) (clause_in row db (h - 1) sat (omega (arith, k.0, k.1))) in
    let is : IsTrueIn row l = ⊎_elim
    (λ (e : m ≡ l). subst (IsTrueIn row) e t)
    (λ (f : Contains assumed (neg_ℤ m)). absurd (not_both row m t (holds (neg_ℤ m) f)))
    (all_at (λ x. (x ≡ l) ⊎ Contains assumed (neg_ℤ x)) (clause_at db h) m only.others c) in
    refutes_none row db (l ∷ assumed) (i ∷ hs) sat (λ p d lt. known (suc p) d (omega arith))
    (λ x d. ⊎_elim (λ (e : l ≡ x). subst (IsTrueIn row) e is) (λ (a : Contains assumed x). holds x a) (contains_cases l x assumed d)) r

-- the clause is true, or all complements are
some_or_all : (vars : ℕ) (row : List Bool) (ls : List ℤ) → AreLiterals vars ls → (clause_true row ls ≡ true) ⊎ ((l : ℤ) → Contains ls l → IsTrueIn row (neg_ℤ l))
some_or_all vars row [] are = inr (λ l (k, lt, e). absurd (omega arith))
some_or_all vars row (x ∷ ls) are = ⊎_elim
    (λ (t : IsTrueIn row x). inl (ap (λ b. b || clause_true row ls) t))
    (λ (f : IsTrueIn row (neg_ℤ x)). ⊎_elim
    (λ (a : clause_true row ls ≡ true). let (l, c, t) = some_true row ls a in inl (true_some row (x ∷ ls) l (contains_tail x l ls c) t))
    (λ (n : (l : ℤ) → Contains ls l → IsTrueIn row (neg_ℤ l)). inr (λ l c. ⊎_elim (λ (e : x ≡ l). subst (λ m. IsTrueIn row (neg_ℤ m)) e f) (λ (h : Contains ls l). n l h) (contains_cases x l ls c)))
    (some_or_all vars row ls (λ k d lt. are (suc k) d (omega arith))))
    (true_or_false vars row x (are 0 x (omega arith)))

-- a line that follows keeps each satisfying assignment
follows_keeps : (vars : ℕ) (row : List Bool) (db : List (List ℤ)) (line : Line) → Follows vars db line → satisfies row db ≡ true → clause_true row line.literals ≡ true
follows_keeps vars row db line f sat = ⊎_elim (λ (a : clause_true row line.literals ≡ true). a)
    (λ (n : (l : ℤ) → Contains line.literals l → IsTrueIn row (neg_ℤ l)). absurd (refutes_none row db (map neg_ℤ line.literals) line.hints sat f.earlier
    (λ l c. subst (IsTrueIn row) (neg_neg l) (n (neg_ℤ l) (contains_neg_back line.literals l c))) f.refutes))
    (some_or_all vars row line.literals f.within)

satisfies_push : (row : List Bool) (db : List (List ℤ)) (c : List ℤ) → satisfies row db ≡ true → clause_true row c ≡ true → satisfies row (db ++ c ∷ []) ≡ true
satisfies_push row db c sat t = list_all-append (clause_true row) db (c ∷ []) ∙ and_from (satisfies row db) (satisfies row (c ∷ [])) sat (and_from (clause_true row c) true t refl)

never : (vars : ℕ) (row : List Bool) (db : List (List ℤ)) (lines : List Line) → AllFollow vars db lines → EndsEmpty lines → satisfies row db ≡ true → ⊥
never vars row db [] all ends sat = ends
never vars row db (l ∷ []) all ends sat = false≢true (sym (ap (clause_true row) ends) ∙ follows_keeps vars row db l all.0 sat)
never vars row db (l ∷ m ∷ ls) all ends sat = never vars row (db ++ l.literals ∷ []) (m ∷ ls) all.1 ends (satisfies_push row db l.literals sat (follows_keeps vars row db l all.0 sat))

pub refuted : (formula : Formula) (lines : List Line) → IsAccepted formula lines → (row : List Bool) → satisfies row formula.clauses ≡ false
refuted formula lines is row = value_false (satisfies row formula.clauses) (never formula.vars row formula.clauses lines is.follow is.empty)
  where
    value_false : (b : Bool) → (b ≡ true → ⊥) → b ≡ false
    value_false true n = absurd (n refl)
    value_false false n = refl
