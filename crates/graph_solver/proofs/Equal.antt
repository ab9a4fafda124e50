-- What two refutations say of two literals of a graph.
use Rattle.std.proofs.Common.{◌≡◌, ◌∙◌, ◌<◌, ◌/◌, ◌%◌, ◌==◌, ◌∷◌, [], ◌⊎◌, inl, inr, not, ℕ, zero, suc, Bool, true, false, List, map, length, refl, ap, sym, subst, arith, eqb-true, eq-eqb, ne_eqb}
use Rattle.std.specs.List.{Any, range_with_len}
use Rattle.std.proofs.lemmas.Bool.{eqb-false}
use Rattle.std.proofs.lemmas.List.FromFn.{get_or-map-range_with_len}
use Rattle.circ_model.specs.Meaning.{is_odd, literal, literal_value, negated, signed}
use Rattle.circ_model.proofs.Literals.{negated_value}
use Rattle.cnf_store.specs.Codes.{MakesTrue, Satisfies, neg}
use Rattle.implied_clauses.specs.Implied.{Implies}
use Rattle.and_graph.specs.declared.node.Node.{Node}
use Rattle.and_graph.specs.Graphs.{AllEqual, AreEqual, AreEqualWhere, Obeys}
use Rattle.kept_solver.specs.declared.solver.Outcome.{Outcome}
use Rattle.kept_solver.specs.declared.solver.Outcome.TheVariants.{Refuted, Model, Unknown}
use Rattle.kept_solver.specs.Outcomes.{IsOutcome}
use Rattle.graph_solver.specs.Known.{IsBothWays, IsKept, IsSettled, Known}
use Rattle.graph_solver.proofs.Clauses.{half_negated}

pub neg_negated : (l : ℕ) → neg l ≡ negated l
neg_negated l = at (is_odd l) refl
  where
    at : (s : Bool) → is_odd l ≡ s → neg l ≡ literal (l / 2) (not s)
    at true e = let h = eqb-true (l % 2) 1 e in omega arith
    at false e = let h = eqb-false (l % 2) 1 e in omega arith

-- the values of the first so many nodes
abbrev row_of : (ℕ → Bool) → ℕ → List Bool
row_of v n = map v (range_with_len 0 n)

-- a literal that is true under a valuation is true in that row, and the other way round
even : (l : ℕ) (s : Bool) → is_odd l ≡ s → (l % 2 == 0) ≡ not s
even l true e = ne_eqb (l % 2) 0 (let h = eqb-true (l % 2) 1 e in omega arith)
even l false e = eq-eqb (l % 2) 0 (let h = eqb-false (l % 2) 1 e in omega arith)

turned : (s b : Bool) → signed s b ≡ true → b ≡ not s
turned true true e = sym e
turned true false e = refl
turned false b e = e

turned_back : (s b : Bool) → b ≡ not s → signed s b ≡ true
turned_back true b e = ap not e
turned_back false b e = e

makes_true : (v : ℕ → Bool) (n l : ℕ) → l / 2 < n → literal_value v l ≡ true → MakesTrue (row_of v n) l
makes_true v n l lt e = get_or-map-range_with_len v 0 n (l / 2) (l / 2) false lt (omega arith) ∙ turned (is_odd l) (v (l / 2)) e ∙ sym (even l (is_odd l) refl)

made_true : (v : ℕ → Bool) (n l : ℕ) → l / 2 < n → MakesTrue (row_of v n) l → literal_value v l ≡ true
made_true v n l lt e = turned_back (is_odd l) (v (l / 2)) (sym (get_or-map-range_with_len v 0 n (l / 2) (l / 2) false lt (omega arith)) ∙ e ∙ even l (is_odd l) refl)

-- all clauses are satisfied by the row of a valuation under which the facts hold
satisfied : (nodes : List Node) (known : Known) (v : ℕ → Bool) → IsKept nodes known → Obeys nodes v → AllEqual v known.facts → Satisfies (row_of v (length nodes)) known.clauses
satisfied nodes known v kept obeys equal k d lt =
    let is = kept.all k d lt in
    let (i, l, within, at, holds) = is.holds v obeys equal in
    (i, l, within, at, makes_true v (length nodes) l (subst (λ (x : ℕ). x / 2 < length nodes) at (is.within i l within)) holds)

-- one of two literals is true that are the complements of two
either : (nodes : List Node) (known : Known) (x y : ℕ) → x / 2 < length nodes → y / 2 < length nodes → IsKept nodes known → Implies known.clauses (neg x ∷ neg y ∷ []) → (v : ℕ → Bool) → Obeys nodes v → AllEqual v known.facts
    → (not (literal_value v x) ≡ true) ⊎ (not (literal_value v y) ≡ true)
either nodes known x y first second kept implied v obeys equal =
    go (implied (row_of v (length nodes)) (satisfied nodes known v kept obeys equal))
  where
    n : ℕ
    n = length nodes

    half_neg : (l : ℕ) → neg l / 2 ≡ l / 2
    half_neg l = omega arith

    denied : (l : ℕ) → l / 2 < n → MakesTrue (row_of v n) (neg l) → not (literal_value v l) ≡ true
    denied l lt is = sym (negated_value v l) ∙ ap (literal_value v) (sym (neg_negated l)) ∙ made_true v n (neg l) (subst (λ (m : ℕ). m < n) (sym (half_neg l)) lt) is

    go : Any (MakesTrue (row_of v n)) (neg x ∷ neg y ∷ []) → (not (literal_value v x) ≡ true) ⊎ (not (literal_value v y) ≡ true)
    go (zero, l, lt, at, is) = inl (denied x first (subst (MakesTrue (row_of v n)) (sym at) is))
    go (suc zero, l, lt, at, is) = inr (denied y second (subst (MakesTrue (row_of v n)) (sym at) is))
    go (suc (suc k), l, lt, at, is) = absurd (omega arith)

-- two values of which neither is true without the other
one_value : (a b : Bool) → (not a ≡ true) ⊎ (b ≡ true) → (a ≡ true) ⊎ (not b ≡ true) → a ≡ b
one_value true true f g = refl
one_value false false f g = refl
one_value true false (inl e) g = sym e
one_value true false (inr e) g = sym e
one_value false true f (inl e) = e
one_value false true f (inr e) = e

twice : (v : ℕ → Bool) (l : ℕ) → not (literal_value v (negated l)) ≡ literal_value v l
twice v l = ap not (negated_value v l) ∙ back (literal_value v l)
  where
    back : (b : Bool) → not (not b) ≡ b
    back true = refl
    back false = refl

equal_where : (nodes : List Node) (known : Known) (x y : ℕ) → x / 2 < length nodes → y / 2 < length nodes → negated x / 2 < length nodes → negated y / 2 < length nodes → IsKept nodes known → IsBothWays known.clauses x y Refuted → AreEqualWhere nodes known.facts x y
equal_where nodes known x y first second third fourth kept (forth, back) v obeys equal =
    one_value (literal_value v x) (literal_value v y)
    (subst (λ (b : Bool). (not (literal_value v x) ≡ true) ⊎ (b ≡ true)) (twice v y) (either nodes known x (negated y) first fourth kept forth v obeys equal))
    (subst (λ (b : Bool). (b ≡ true) ⊎ (not (literal_value v y) ≡ true)) (twice v x) (either nodes known (negated x) y third second kept back v obeys equal))

-- both calls, as the code makes them
both_ways : (given : List (List ℕ)) (x y : ℕ) (outcome : Outcome) → Implies given (neg x ∷ neg (negated y) ∷ []) → IsOutcome given (negated x) y outcome → IsBothWays given x y outcome
both_ways given x y Refuted first second = (first, second)
both_ways given x y Model first second = second
both_ways given x y Unknown first second = second

pub asked : (given again : List (List ℕ)) (x y nx ny a b c d : ℕ) (outcome second : Outcome) → nx ≡ negated x → ny ≡ negated y → a ≡ x → b ≡ ny → c ≡ nx → d ≡ y → again ≡ given → outcome ≡ Refuted
    → IsOutcome given a b outcome → IsOutcome again c d second → IsBothWays given x y second
asked given again x y nx ny a b c d outcome second enx eny ea eb ec ed same is first other =
    both_ways given x y second
    (subst (λ (l : ℕ). IsOutcome given x l Refuted) (eb ∙ eny) (subst (λ (l : ℕ). IsOutcome given l b Refuted) ea (subst (IsOutcome given a b) is first)))
    (subst (λ (l : ℕ). IsOutcome given (negated x) l second) ed (subst (λ (l : ℕ). IsOutcome given l d second) (ec ∙ enx) (subst (λ (g : List (List ℕ)). IsOutcome g c d second) same other)))

-- of literals that are equal to canonical ones
pub settled : (nodes : List Node) (known : Known) (facts : List (ℕ × ℕ)) (clauses : List (List ℕ)) (a b x y : ℕ) (outcome : Outcome) → x / 2 < length nodes → y / 2 < length nodes → AreEqual nodes a x → AreEqual nodes b y → IsKept nodes known → known.clauses ≡ clauses → known.facts ≡ facts
    → IsBothWays clauses x y outcome → IsSettled nodes facts a b outcome
settled nodes known facts clauses a b x y Refuted first second left right kept same old both =
    let under : (l : ℕ) → l / 2 < length nodes → negated l / 2 < length nodes = λ l lt. subst (λ (h : ℕ). h < length nodes) (sym (half_negated l)) lt in
    λ v obeys equal. left v obeys
    ∙ equal_where nodes known x y first second (under x first) (under y second) kept (subst (λ (g : List (List ℕ)). IsBothWays g x y Refuted) (sym same) both) v obeys (subst (AllEqual v) (sym old) equal)
    ∙ sym (right v obeys)
settled nodes known facts clauses a b x y Model first second left right kept same old both = both
settled nodes known facts clauses a b x y Unknown first second left right kept same old both = both
