-- Questions over cones: what is laid is one, and what is found to stand.
use Rattle.std.proofs.Common.{◌≡◌, ◌≢◌, ◌∙◌, ◌<◌, ◌/◌, ◌+◌, ℕ, suc, ℤ, pos, Bool, true, false, not, true≢false, List, [], ◌∷◌, length, get_or, map, refl, sym, ap, ap₂, subst, arith, ⊎_elim, ◌&&◌, ◌⊎◌, inl, inr, Option, Some, None, IfNone}
use Rattle.std.proofs.lemmas.Bool.{and_from, cases_eq}
use Rattle.circ_model.specs.Meaning.{bit, is_odd, literal_value, negated, signed}
use Rattle.circ_model.proofs.Literals.{negated_value}
use Rattle.sat_log.proofs.Soundness.{true_some}
use Rattle.std.proofs.lemmas.List.{get_or_default}
use Rattle.cnf_store.specs.Clauses.{Formula, clause_true, literal_true, satisfies}
use Rattle.and_graph.specs.declared.node.Node.{Node}
use Rattle.and_graph.specs.Graphs.{Agrees, AreEqual, IsGraph, product_of}
use Rattle.and_graph.specs.Cones.{AreWithin, IsCone, Shows, member_at}
use Rattle.and_graph.specs.Lemmas.{Extends, GivenHold, SomeHolds}
use Rattle.and_graph.specs.Questions.{IsQuestion}
use Rattle.and_graph.proofs.ConeMembers.{cone_refutes, values_show}
use Rattle.and_graph.proofs.Learning.{given_hold}

-- a cone with the two clauses that say that two literals differ
pub laid : (nodes : List Node) (members : List ℕ) (old new : Formula) (x y left right : ℕ) (s t : Bool) → IsCone nodes members old → new.vars ≡ old.vars → Extends old.clauses new.clauses
    → left < length members → member_at members left ≡ x / 2 → right < length members → member_at members right ≡ y / 2 → s ≡ is_odd x → t ≡ is_odd y
    → ((asg : List Bool) → satisfies asg old.clauses ≡ true → signed s (bit asg left) ≡ not (signed t (bit asg right)) → satisfies asg new.clauses ≡ true) → IsQuestion nodes members new x y (length old.clauses)
laid nodes members old new x y left right s t is vars on in_left at_left in_right at_right odd_x odd_y adds = record {
  vars = vars ∙ is.vars;
  within = is.within;
  part = on.size;
  hold = given_hold nodes members old new.clauses is on.same;
  refutes = cone_refutes nodes members old new x y left right is in_left at_left in_right at_right
      (λ asg was apart. adds asg was (ap (λ (b : Bool). signed b (bit asg left)) odd_x ∙ apart ∙ ap (λ (b : Bool). not (signed b (bit asg right))) (sym odd_y)));
}

satisfied_by : (a : List Bool) (cs : List (List ℤ)) → ((h : ℕ) → h < length cs → clause_true a (get_or cs h []) ≡ true) → satisfies a cs ≡ true
satisfied_by a [] each = refl
satisfied_by a (c ∷ cs) each = and_from (clause_true a c) (satisfies a cs) (each 0 (omega arith)) (satisfied_by a cs (λ h lt. each (suc h) (omega arith)))

same_or_not : (x y : Bool) → (x ≡ y) ⊎ (x ≡ not y)
same_or_not true true = inl refl
same_or_not true false = inr refl
same_or_not false true = inr refl
same_or_not false false = inl refl

-- what is found to hold, with two clauses that say that two literals differ, is a question
pub found : (nodes : List Node) (members : List ℕ) (formula : Formula) (x y given : ℕ) → formula.vars ≡ length members → AreWithin (length nodes) members → length formula.clauses ≡ given + 2 → GivenHold nodes members formula.clauses given
    → ((v : ℕ → Bool) (a : List Bool) → Shows members v a → literal_value v x ≡ not (literal_value v y) → clause_true a (get_or formula.clauses given []) ≡ true)
    → ((v : ℕ → Bool) (a : List Bool) → Shows members v a → literal_value v x ≡ not (literal_value v y) → clause_true a (get_or formula.clauses (given + 1) []) ≡ true) → IsQuestion nodes members formula x y given
found nodes members formula x y given vars within size hold first last = record {
  vars = vars;
  within = within;
  part = omega arith;
  hold = hold;
  refutes = λ refuted v obeys.
      let a : List Bool = map v members in
      let shown = values_show members v in
      ⊎_elim (λ (e : literal_value v x ≡ literal_value v y). e)
      (λ (apart : literal_value v x ≡ not (literal_value v y)). absurd (true≢false (sym (satisfied_by a formula.clauses
      (λ h lt. ⊎_elim
      (λ (e : h ≡ given). subst (λ (k : ℕ). clause_true a (get_or formula.clauses k []) ≡ true) (sym e) (first v a shown apart))
      (λ (ne : h ≢ given). ⊎_elim
      (λ (e : h ≡ given + 1). subst (λ (k : ℕ). clause_true a (get_or formula.clauses k []) ≡ true) (sym e) (last v a shown apart))
      (λ (nf : h ≢ given + 1). hold h (omega arith) v a obeys shown)
      (cases_eq h (given + 1)))
      (cases_eq h given))) ∙ refuted a)))
      (same_or_not (literal_value v x) (literal_value v y));
}

-- a clause holds by one of its literals
pub holds_at : (a : List Bool) (clause : List ℤ) (k : ℕ) → k < length clause → literal_true a (get_or clause k (pos 0)) ≡ true → clause_true a clause ≡ true
holds_at a clause k lt holds =
    let l : ℤ = get_or clause k (pos 0) in
    true_some a clause l (k, lt, get_or_default clause k l (pos 0) lt) holds

either : (b : Bool) → (b ≡ true) ⊎ (b ≡ false)
either true = inl refl
either false = inr refl

and_left : (x y : Bool) → (x && y) ≡ true → x ≡ true
and_left true y e = refl
and_left false y e = e

and_right : (x y : Bool) → (x && y) ≡ true → y ≡ true
and_right true y e = e
and_right false y e = absurd (true≢false (sym e))

-- a gate is true only where an operand is
pub operand_holds : (v : ℕ → Bool) (a : List Bool) (clause : List ℤ) (own other left right : ℕ) → length clause ≡ 2 → literal_value v own ≡ literal_true a (get_or clause 0 (pos 0)) → literal_value v other ≡ literal_true a (get_or clause 1 (pos 0))
    → is_odd own ≡ true → v (own / 2) ≡ product_of v left right → (other ≡ left) ⊎ (other ≡ right) → clause_true a clause ≡ true
operand_holds v a clause own other left right size at_own at_other odd gate is = ⊎_elim
    (λ (high : v (own / 2) ≡ true).
    let both : (literal_value v left && literal_value v right) ≡ true = sym gate ∙ high in
    holds_at a clause 1 (omega arith) (sym at_other ∙ ⊎_elim
    (λ (e : other ≡ left). ap (literal_value v) e ∙ and_left (literal_value v left) (literal_value v right) both)
    (λ (e : other ≡ right). ap (literal_value v) e ∙ and_right (literal_value v left) (literal_value v right) both) is))
    (λ (low : v (own / 2) ≡ false). holds_at a clause 0 (omega arith) (sym at_own ∙ ap₂ (λ (s b : Bool). signed s b) odd low))
    (either (v (own / 2)))

-- and it is where both are
pub gate_holds : (v : ℕ → Bool) (a : List Bool) (clause : List ℤ) (own x y left right : ℕ) → length clause ≡ 3 → literal_value v own ≡ literal_true a (get_or clause 0 (pos 0)) → literal_value v x ≡ literal_true a (get_or clause 1 (pos 0))
    → literal_value v y ≡ literal_true a (get_or clause 2 (pos 0)) → is_odd own ≡ false → v (own / 2) ≡ product_of v left right → (literal_value v x ≡ false → literal_value v y ≡ false → product_of v left right ≡ true) → clause_true a clause ≡ true
gate_holds v a clause own x y left right size at_own at_x at_y odd gate is = ⊎_elim
    (λ (t : literal_value v x ≡ true). holds_at a clause 1 (omega arith) (sym at_x ∙ t))
    (λ (f : literal_value v x ≡ false). ⊎_elim
    (λ (t : literal_value v y ≡ true). holds_at a clause 2 (omega arith) (sym at_y ∙ t))
    (λ (g : literal_value v y ≡ false). holds_at a clause 0 (omega arith) (sym at_own ∙ ap₂ (λ (s b : Bool). signed s b) odd (gate ∙ is f g)))
    (either (literal_value v y)))
    (either (literal_value v x))

low_literal : (x : ℕ) (v : ℕ → Bool) → literal_value v (negated x) ≡ false → literal_value v x ≡ true
low_literal x v f = flip (literal_value v x) (sym (negated_value v x) ∙ f)
  where
    flip : (b : Bool) → not b ≡ false → b ≡ true
    flip true e = refl
    flip false e = sym e

-- two literals are the complements of two
pub complements_low : (v : ℕ → Bool) (a b left right : ℕ) → ((a ≡ negated left) × (b ≡ negated right)) ⊎ ((a ≡ negated right) × (b ≡ negated left)) → literal_value v a ≡ false → literal_value v b ≡ false → product_of v left right ≡ true
complements_low v a b left right is low_a low_b = ⊎_elim
    (λ (e : (a ≡ negated left) × (b ≡ negated right)). and_from (literal_value v left) (literal_value v right) (low_literal left v (ap (literal_value v) (sym e.0) ∙ low_a)) (low_literal right v (ap (literal_value v) (sym e.1) ∙ low_b)))
    (λ (e : (a ≡ negated right) × (b ≡ negated left)). and_from (literal_value v left) (literal_value v right) (low_literal left v (ap (literal_value v) (sym e.1) ∙ low_b)) (low_literal right v (ap (literal_value v) (sym e.0) ∙ low_a)))
    is

-- a lemma's clause
pub lemma_holds : (v : ℕ → Bool) (a : List Bool) (clause : List ℤ) (lemma : List ℕ) → length clause ≡ length lemma → ((k : ℕ) → k < length clause → literal_true a (get_or clause k (pos 0)) ≡ literal_value v (get_or lemma k 0)) → SomeHolds v lemma → clause_true a clause ≡ true
lemma_holds v a clause lemma size each some =
    let w = some.within in
    let lt : some.at < length clause = omega arith in
    holds_at a clause some.at lt (each some.at lt ∙ some.holds)

-- two literals that differ are not both false
pub both_hold : (v : ℕ → Bool) (a : List Bool) (clause : List ℤ) (x y : ℕ) → length clause ≡ 2 → literal_value v x ≡ literal_true a (get_or clause 0 (pos 0)) → literal_value v y ≡ literal_true a (get_or clause 1 (pos 0)) → literal_value v x ≡ not (literal_value v y) → clause_true a clause ≡ true
both_hold v a clause x y size at_x at_y apart = ⊎_elim
    (λ (t : literal_value v y ≡ true). holds_at a clause 1 (omega arith) (sym at_y ∙ t))
    (λ (f : literal_value v y ≡ false). holds_at a clause 0 (omega arith) (sym at_x ∙ apart ∙ ap not f))
    (either (literal_value v y))

pub apart_negated : (v : ℕ → Bool) (x y : ℕ) → literal_value v x ≡ not (literal_value v y) → literal_value v (negated x) ≡ not (literal_value v (negated y))
apart_negated v x y apart = negated_value v x ∙ ap not apart ∙ ap not (sym (negated_value v y))

-- what canonical literals are equal, literals are
equal_between : (nodes : List Node) (a b x y : ℕ) → IsGraph nodes → ((v : ℕ → Bool) → Agrees nodes v → literal_value v x ≡ literal_value v a) → ((v : ℕ → Bool) → Agrees nodes v → literal_value v y ≡ literal_value v b) → AreEqual nodes x y → AreEqual nodes a b
equal_between nodes a b x y is at_x at_y equal v obeys = sym (at_x v (is.agree v obeys)) ∙ equal v obeys ∙ at_y v (is.agree v obeys)

pub none_between : {X : Type 0} (o : Option X) (nodes : List Node) (a b x y : ℕ) → IsGraph nodes → ((v : ℕ → Bool) → Agrees nodes v → literal_value v x ≡ literal_value v a) → ((v : ℕ → Bool) → Agrees nodes v → literal_value v y ≡ literal_value v b)
    → IfNone o (AreEqual nodes x y) → IfNone o (AreEqual nodes a b)
none_between (Some p) nodes a b x y is at_x at_y none = none
none_between None nodes a b x y is at_x at_y none = equal_between nodes a b x y is at_x at_y none
