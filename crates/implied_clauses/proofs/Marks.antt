-- Sets of literals, and what resolution makes of them.
use Rattle.std.proofs.Common.{◌≡◌, ◌≢◌, ◌∙◌, ◌<◌, ◌≤◌, ◌+◌, ◌/◌, ◌%◌, ◌==◌, ℕ, zero, suc, List, [], ◌∷◌, ◌++◌, length, take, drop, get_or, set, replicate, refl, length-drop, ap, sym, subst, arith, Bool, true, false, if◌then◌else◌, length-set, ◌⊎◌, inl, inr, ⊎_elim}
use Rattle.std.specs.List.{All, Any, Contains}
use Rattle.std.proofs.lemmas.Bool.{false≢true, eqb-true, eqb-false, ne_eqb}
use Rattle.std.proofs.lemmas.List.{get_or-set_same, get_or-set_other, set-get_or, length-replicate, take_more, drop_more}
use Rattle.std.proofs.lemmas.List.Elements.{Contains-append_cases, Contains-append_left, Contains-append_right}
use Rattle.cnf_store.specs.Codes.{neg, MakesTrue, Satisfies}
use Rattle.implied_clauses.specs.declared.implied.Step.{Step}
use Rattle.implied_clauses.specs.Implied.{Implies, with_others, resolvent, chained, begun, IsOf, AreSteps}

-- a literal of the set is true
abbrev pub SomeTrue : List Bool → List Bool → Type 0
SomeTrue row marks = (l : ℕ) × (get_or marks l false ≡ true) × MakesTrue row l

-- one literal of a clause more
abbrev pub with_one : ℕ → ℕ → List Bool → List Bool
with_one pivot l marks = if l == pivot then marks else set marks l true

pub others_more : (p l : ℕ) (xs : List ℕ) (marks : List Bool) → with_others p (xs ++ l ∷ []) marks ≡ with_one p l (with_others p xs marks)
unfolding with_others
others_more p l [] marks = refl
others_more p l (x ∷ xs) marks = others_more p l xs (with_one p x marks)

pub length_one : (p l : ℕ) (marks : List Bool) → length (with_one p l marks) ≡ length marks
length_one p l marks = go (l == p)
  where
    go : (b : Bool) → length (if b then marks else set marks l true) ≡ length marks
    go true = refl
    go false = length-set marks l true

pub length_others : (p : ℕ) (xs : List ℕ) (marks : List Bool) → length (with_others p xs marks) ≡ length marks
unfolding with_others
length_others p [] marks = refl
length_others p (x ∷ xs) marks = length_others p xs (with_one p x marks) ∙ length_one p x marks

pub length_chained : (cs : List (List ℕ)) (marks : List Bool) (ss : List Step) → length (chained cs marks ss) ≡ length marks
unfolding chained
length_chained cs marks [] = refl
length_chained cs marks (s ∷ ss) =
    length_chained cs (resolvent marks s.pivot (get_or cs s.clause [])) ss
    ∙ length_others s.pivot (get_or cs s.clause []) (set marks (neg s.pivot) false)
    ∙ length-set marks (neg s.pivot) false

pub chained_more : (cs : List (List ℕ)) (marks : List Bool) (s : Step) (ss : List Step) → chained cs marks (ss ++ s ∷ []) ≡ resolvent (chained cs marks ss) s.pivot (get_or cs s.clause [])
unfolding chained
chained_more cs marks s [] = refl
chained_more cs marks s (x ∷ ss) = chained_more cs (resolvent marks x.pivot (get_or cs x.clause [])) s ss

-- what is marked stays so
one_keeps : (p l m : ℕ) (marks : List Bool) → l < length marks → get_or marks m false ≡ true → get_or (with_one p l marks) m false ≡ true
one_keeps p l m marks lt e = go (l == p)
  where
    same : (b : Bool) → (m == l) ≡ b → get_or (set marks l true) m false ≡ true
    same true is = let i : m ≡ l = eqb-true m l is in ap (λ (n : ℕ). get_or (set marks l true) n false) i ∙ get_or-set_same marks l true false lt
    same false is = get_or-set_other marks l m true false (eqb-false m l is) ∙ e

    go : (b : Bool) → get_or (if b then marks else set marks l true) m false ≡ true
    go true = e
    go false = same (m == l) refl

pub others_keep : (p m : ℕ) (xs : List ℕ) (marks : List Bool) → All (λ (l : ℕ). l < length marks) xs → get_or marks m false ≡ true → get_or (with_others p xs marks) m false ≡ true
unfolding with_others
others_keep p m [] marks below e = e
others_keep p m (x ∷ xs) marks below e =
    others_keep p m xs (with_one p x marks) (λ k d lt. omega (arith, below (suc k) d (omega arith), length_one p x marks)) (one_keeps p x m marks (below 0 0 (omega arith)) e)

-- and each literal of the clause but for the pivot is marked
pub others_add : (p m : ℕ) (xs : List ℕ) (marks : List Bool) → All (λ (l : ℕ). l < length marks) xs → Contains xs m → m ≢ p → get_or (with_others p xs marks) m false ≡ true
unfolding with_others
others_add p m [] marks below (k, lt, e) ne = absurd (omega arith)
others_add p m (x ∷ xs) marks below (zero, lt, e) ne =
    let i : x ≡ m = e in
    let b : (x == p) ≡ false = ne_eqb x p (λ (q : x ≡ p). ne (sym i ∙ q)) in
    let within : x < length marks = below 0 0 (omega arith) in
    others_keep p m xs (with_one p x marks) (λ k d l. omega (arith, below (suc k) d (omega arith), length_one p x marks))
    (ap (λ (c : Bool). get_or (if c then marks else set marks x true) m false) b ∙ ap (λ (n : ℕ). get_or (set marks x true) n false) (sym i) ∙ get_or-set_same marks x true false within)
others_add p m (x ∷ xs) marks below (suc k, lt, e) ne =
    others_add p m xs (with_one p x marks) (λ j d l. omega (arith, below (suc j) d (omega arith), length_one p x marks)) (k, omega arith, e) ne

-- a literal isn't true where its complement is
not_both : (row : List Bool) (p : ℕ) → MakesTrue row p → MakesTrue row (neg p) → ⊥
not_both row p a b =
    let v : neg p / 2 ≡ p / 2 = omega arith in
    let same : (p % 2 == 0) ≡ (neg p % 2 == 0) = sym a ∙ ap (λ (n : ℕ). get_or row n false) (sym v) ∙ b in
    go (p % 2 == 0) (neg p % 2 == 0) refl refl same
  where
    go : (x y : Bool) → (p % 2 == 0) ≡ x → (neg p % 2 == 0) ≡ y → (p % 2 == 0) ≡ (neg p % 2 == 0) → ⊥
    go true true e f s = let g : p % 2 ≡ 0 = eqb-true (p % 2) 0 e in let h : neg p % 2 ≡ 0 = eqb-true (neg p % 2) 0 f in omega arith
    go false false e f s = let g : p % 2 ≢ 0 = eqb-false (p % 2) 0 e in let h : neg p % 2 ≢ 0 = eqb-false (neg p % 2) 0 f in omega arith
    go true false e f s = false≢true (sym f ∙ sym s ∙ e)
    go false true e f s = false≢true (sym e ∙ s ∙ f)

-- resolution leads from what is true to what is true
pub resolvent_true : (row marks : List Bool) (p : ℕ) (clause : List ℕ) → All (λ (l : ℕ). l < length marks) clause → SomeTrue row marks → Any (MakesTrue row) clause → SomeTrue row (resolvent marks p clause)
resolvent_true row marks p clause below (l, in_marks, t) (k, x, lt, e, tx) = go (l == neg p) refl
  where
    within : All (λ (n : ℕ). n < length (set marks (neg p) false)) clause
    within j d less = omega (arith, below j d less, length-set marks (neg p) false)

    go : (b : Bool) → (l == neg p) ≡ b → SomeTrue row (resolvent marks p clause)
    go true is =
        let i : l ≡ neg p = eqb-true l (neg p) is in
        (x, others_add p x clause (set marks (neg p) false) within (k, lt, e) (λ (q : x ≡ p). not_both row p (subst (MakesTrue row) q tx) (subst (MakesTrue row) i t)), tx)
    go false is =
        (l, others_keep p l clause (set marks (neg p) false) within (get_or-set_other marks (neg p) l false false (eqb-false l (neg p) is) ∙ in_marks), t)

-- the literals of a clause are such a set
pub begun_true : (row : List Bool) (codes : ℕ) (clause : List ℕ) → All (λ (l : ℕ). l < codes) clause → Any (MakesTrue row) clause → SomeTrue row (begun codes clause)
begun_true row codes clause below (k, x, lt, e, t) =
    let size : length (replicate codes false) ≡ codes = length-replicate codes false in
    let less : x < codes = subst (λ (n : ℕ). n < codes) e (below k x lt) in
    (x, others_add codes x clause (replicate codes false) (λ j d l. omega (arith, below j d l, size)) (k, lt, e) (λ (q : x ≡ codes). absurd (omega arith)), t)

-- a chain leads from what is implied to what is implied
pub chained_true : (row : List Bool) (given cs : List (List ℕ)) (marks : List Bool) (ss : List Step) → Satisfies row given → All (λ (c : List ℕ). All (λ (l : ℕ). l < length marks) c) cs → All (Implies given) cs
    → All (λ (s : Step). (s.pivot < length marks) × (s.clause < length cs)) ss → SomeTrue row marks → SomeTrue row (chained cs marks ss)
unfolding chained
chained_true row given cs marks [] sat below implied are t = t
chained_true row given cs marks (s ∷ ss) sat below implied are t =
    let next : List Bool = resolvent marks s.pivot (get_or cs s.clause []) in
    let inside : s.clause < length cs = (are 0 s (omega arith)).1 in
    let size : length next ≡ length marks = length_others s.pivot (get_or cs s.clause []) (set marks (neg s.pivot) false) ∙ length-set marks (neg s.pivot) false in
    chained_true row given cs next ss sat
    (λ k d lt j e l. omega (arith, size, below k d lt j e l)) implied
    (λ k d lt. let a = are (suc k) d (omega arith) in (omega (arith, size, a.0), a.1))
    (resolvent_true row marks s.pivot (get_or cs s.clause []) (below s.clause [] inside) t (implied s.clause [] inside row sat))

pub clause_true : (row marks : List Bool) (clause : List ℕ) → IsOf marks clause → SomeTrue row marks → Any (MakesTrue row) clause
clause_true row marks clause is (l, m, t) = let (k, lt, e) = is.all l m in (k, l, lt, e, t)

-- no mark is set
pub wiped : (n : ℕ) (marks : List Bool) → length marks ≡ n → ((l : ℕ) → get_or marks l false ≡ true → ⊥) → marks ≡ replicate n false
wiped zero [] e none = refl
wiped (suc n) [] e none = absurd (omega arith)
wiped zero (b ∷ bs) e none = absurd (omega arith)
wiped (suc n) (true ∷ bs) e none = absurd (none 0 refl)
wiped (suc n) (false ∷ bs) e none = ap (λ (l : List Bool). false ∷ l) (wiped n bs (omega arith) (λ l t. none (suc l) t))

pub contains_cons : (y x : ℕ) (ys : List ℕ) → Contains (y ∷ ys) x → (y ≡ x) ⊎ Contains ys x
contains_cons y x ys (zero, lt, e) = inl e
contains_cons y x ys (suc k, lt, e) = inr (k, omega arith, e)

set_false : (marks : List Bool) (l : ℕ) → get_or (set marks l false) l false ≡ false
set_false [] l = refl
set_false (b ∷ bs) zero = refl
set_false (b ∷ bs) (suc l) = set_false bs l

-- a literal's mark is taken away: what is marked still is listed after it
pub unmarked : (marks : List Bool) (listed : List ℕ) (i l : ℕ) → i < length listed → l ≡ get_or listed i l → ((x : ℕ) → get_or marks x false ≡ true → Contains (drop i listed) x)
    → (x : ℕ) → get_or (set marks l false) x false ≡ true → Contains (drop (i + 1) listed) x
unmarked marks listed i l lt e are x t = go (x == l) refl
  where
    go : (b : Bool) → (x == l) ≡ b → Contains (drop (i + 1) listed) x
    go true is = let q : x ≡ l = eqb-true x l is in absurd (false≢true (sym (set_false marks l) ∙ ap (λ (n : ℕ). get_or (set marks l false) n false) (sym q) ∙ t))
    go false is =
        let ne : x ≢ l = eqb-false x l is in
        let was : get_or marks x false ≡ true = sym (get_or-set_other marks l x false false ne) ∙ t in
        ⊎_elim (λ (q : l ≡ x). absurd (ne (sym q))) (λ (r : Contains (drop (i + 1) listed) x). r)
        (contains_cons l x (drop (i + 1) listed) (subst (λ (ls : List ℕ). Contains ls x) (drop_more listed i l lt ∙ ap (λ (y : ℕ). y ∷ drop (i + 1) listed) (sym e)) (are x was)))

pub none_left : (listed : List ℕ) (i l : ℕ) → length listed ≤ i → Contains (drop i listed) l → ⊥
none_left listed i l le (k, lt, e) = let z = length-drop i listed in absurd (omega arith)

-- one place more
pub mark_taken : (p i : ℕ) (clause : List ℕ) (old marks : List Bool) → i < length clause → marks ≡ with_others p (take i clause) old → with_one p (get_or clause i 0) marks ≡ with_others p (take (i + 1) clause) old
mark_taken p i clause old marks lt e =
    ap (with_one p (get_or clause i 0)) e ∙ sym (others_more p (get_or clause i 0) (take i clause) old) ∙ ap (λ (xs : List ℕ). with_others p xs old) (sym (take_more clause i 0 lt))

pub one_set : (p l : ℕ) (marks : List Bool) → l ≢ p → set marks l true ≡ with_one p l marks
one_set p l marks ne = ap (λ (b : Bool). if b then marks else set marks l true) (sym (ne_eqb l p ne))

pub one_left : (p l : ℕ) (marks : List Bool) → (l ≡ p) ⊎ (get_or marks l false ≡ true) → marks ≡ with_one p l marks
one_left p l marks is = go (l == p) refl
  where
    marked : (b : Bool) → b ≡ false → (l == p) ≡ b → marks ≡ set marks l true
    marked b is_false e = ⊎_elim (λ (i : l ≡ p). absurd (eqb-false l p (e ∙ is_false) i)) (λ (m : get_or marks l false ≡ true). sym (set-get_or marks l false) ∙ ap (set marks l) m) is

    go : (b : Bool) → (l == p) ≡ b → marks ≡ (if b then marks else set marks l true)
    go true e = refl
    go false e = marked false refl e

pub listed_more : (marks : List Bool) (listed : List ℕ) (l : ℕ) → ((x : ℕ) → get_or marks x false ≡ true → Contains listed x) → (x : ℕ) → get_or (set marks l true) x false ≡ true → Contains (listed ++ l ∷ []) x
listed_more marks listed l are x t = go (x == l) refl
  where
    go : (b : Bool) → (x == l) ≡ b → Contains (listed ++ l ∷ []) x
    go true is = Contains-append_right listed (l ∷ []) x (0, omega arith, sym (eqb-true x l is))
    go false is = Contains-append_left listed (l ∷ []) x (are x (sym (get_or-set_other marks l x true false (eqb-false x l is)) ∙ t))

pub listed_still : (marks : List Bool) (listed : List ℕ) (l : ℕ) → ((x : ℕ) → get_or marks x false ≡ true → Contains listed x) → (x : ℕ) → get_or (set marks l false) x false ≡ true → Contains listed x
listed_still marks listed l are x t = go (x == l) refl
  where
    go : (b : Bool) → (x == l) ≡ b → Contains listed x
    go true is = let q : x ≡ l = eqb-true x l is in absurd (false≢true (sym (set_false marks l) ∙ ap (λ (n : ℕ). get_or (set marks l false) n false) (sym q) ∙ t))
    go false is = are x (sym (get_or-set_other marks l x false false (eqb-false x l is)) ∙ t)

pub follow_taken : (cs : List (List ℕ)) (old marks : List Bool) (ss : List Step) (i : ℕ) (s : Step) → i < length ss → s ≡ get_or ss i s → marks ≡ chained cs old (take i ss)
    → resolvent marks s.pivot (get_or cs s.clause []) ≡ chained cs old (take (i + 1) ss)
follow_taken cs old marks ss i s lt se e =
    ap (λ (m : List Bool). resolvent m s.pivot (get_or cs s.clause [])) e ∙ sym (chained_more cs old s (take i ss))
    ∙ ap (chained cs old) (ap (λ (y : Step). take i ss ++ y ∷ []) se ∙ sym (take_more ss i s lt))

taken_cases : (listed : List ℕ) (i x : ℕ) → i < length listed → Contains (take (i + 1) listed) x → Contains (take i listed) x ⊎ (get_or listed i 0 ≡ x)
taken_cases listed i x lt has =
    ⊎_elim (λ (a : Contains (take i listed) x). inl a) (λ (b : Contains (get_or listed i 0 ∷ []) x). let (k, less, e) = b in inr (let z : k ≡ 0 = omega arith in sym (ap (λ (n : ℕ). get_or (get_or listed i 0 ∷ []) n x) z) ∙ e))
    (Contains-append_cases (take i listed) (get_or listed i 0 ∷ []) x (subst (λ (xs : List ℕ). Contains xs x) (take_more listed i 0 lt) has))

pub gather_more : (marks : List Bool) (listed clause : List ℕ) (i : ℕ) → i < length listed → ((x : ℕ) → get_or marks x false ≡ true → Contains (take i listed) x → Contains clause x)
    → (x : ℕ) → get_or marks x false ≡ true → Contains (take (i + 1) listed) x → Contains (clause ++ get_or listed i 0 ∷ []) x
gather_more marks listed clause i lt all x t has =
    ⊎_elim (λ (a : Contains (take i listed) x). Contains-append_left clause (get_or listed i 0 ∷ []) x (all x t a))
    (λ (e : get_or listed i 0 ≡ x). Contains-append_right clause (get_or listed i 0 ∷ []) x (0, omega arith, e))
    (taken_cases listed i x lt has)

pub gather_skip : (marks : List Bool) (listed clause : List ℕ) (i : ℕ) → i < length listed → get_or marks (get_or listed i 0) false ≡ false → ((x : ℕ) → get_or marks x false ≡ true → Contains (take i listed) x → Contains clause x)
    → (x : ℕ) → get_or marks x false ≡ true → Contains (take (i + 1) listed) x → Contains clause x
gather_skip marks listed clause i lt not all x t has =
    ⊎_elim (λ (a : Contains (take i listed) x). all x t a)
    (λ (e : get_or listed i 0 ≡ x). absurd (false≢true (sym not ∙ ap (λ (n : ℕ). get_or marks n false) e ∙ t)))
    (taken_cases listed i x lt has)

-- a mark stands at a code
marked_within : (marks : List Bool) (l : ℕ) → get_or marks l false ≡ true → l < length marks
marked_within [] l e = absurd (false≢true e)
marked_within (b ∷ bs) zero e = omega arith
marked_within (b ∷ bs) (suc l) e = let z = marked_within bs l e in omega arith

-- a clause of the chain's literals is of codes, and implied
pub derived : (n : ℕ) (gs cs : List (List ℕ)) (first : ℕ) (ss : List Step) (c : List ℕ) → All (λ (x : List ℕ). All (λ (l : ℕ). l < n) x) cs → All (Implies gs) cs → first < length cs → AreSteps n (length cs) ss
    → IsOf (chained cs (begun n (get_or cs first [])) ss) c → All (λ (l : ℕ). l < n) c × Implies gs c
derived n gs cs first ss c below implied inside are is =
    let marks : List Bool = begun n (get_or cs first []) in
    let size : length marks ≡ n = length_others n (get_or cs first []) (replicate n false) ∙ length-replicate n false in
    let whole : length (chained cs marks ss) ≡ n = length_chained cs marks ss ∙ size in (
      (λ k d lt. let z = marked_within (chained cs marks ss) (get_or c k d) (is.only k d lt) in omega (arith, z, whole)),
      (λ row sat. clause_true row (chained cs marks ss) c is
          (chained_true row gs cs marks ss sat (λ k d lt j e l. let z = below k d lt j e l in omega (arith, z, size)) implied (λ k d lt. let z = are k d lt in (omega (arith, z.0, size), z.1))
          (begun_true row n (get_or cs first []) (below first [] inside) (implied first [] inside row sat)))),
    )
