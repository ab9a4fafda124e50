-- Cones node by node: what their clauses say of the values of a valuation.
use Rattle.std.proofs.Common.{◌≡◌, ◌∙◌, ◌<◌, ◌/◌, ◌&&◌, ◌⊎◌, ⊎_elim, inl, inr, ℕ, Bool, true, false, not, true≢false, List, [], length, map, get_or, refl, ap, ap₂, sym, subst, arith}
use Rattle.std.proofs.lemmas.List.{get_or-map}
use Rattle.circ_model.specs.Meaning.{bit, is_odd, literal, literal_value, signed}
use Rattle.circ_model.proofs.Literals.{half_literal, odd_literal}
use Rattle.cnf_store.specs.Clauses.{Formula, satisfies}
use Rattle.and_graph.specs.declared.node.Node.{Node}
use Rattle.and_graph.specs.Graphs.{AreEqual, IsGate, IsGraph, IsLeaf, Obeys, node_at, product_of}
use Rattle.and_graph.specs.Cones.{AreWithin, GoesOn, IsCone, Shows, member_at}
use Rattle.and_graph.proofs.Nodes.{read_is}

pub goes_on_same : (a : List ℕ) → GoesOn a a
goes_on_same a = record { size = omega arith; same = λ j lt. refl }

pub goes_on_twice : (a b c : List ℕ) → GoesOn a b → GoesOn b c → GoesOn a c
goes_on_twice a b c first last = let s = first.size in let t = last.size in record { size = omega arith; same = λ j lt. last.same j (omega arith) ∙ first.same j lt }

pub goes_on_to : (a b c : List ℕ) → GoesOn a b → c ≡ b → GoesOn a c
goes_on_to a b c on same = subst (GoesOn a) (sym same) on

shows_before : (members more : List ℕ) (v : ℕ → Bool) (a : List Bool) → GoesOn members more → Shows more v a → Shows members v a
shows_before members more v a on shown = let s = on.size in record { bits = λ j lt. shown.bits j (omega arith) ∙ ap v (on.same j lt) }

pub member_bit : (members : List ℕ) (v : ℕ → Bool) (a : List Bool) (j n : ℕ) → Shows members v a → j < length members → member_at members j ≡ n → bit a j ≡ v n
member_bit members v a j n shown lt at = shown.bits j lt ∙ ap v at

-- a cone with more members and clauses, which hold where those before do
pub cone_more : (nodes : List Node) (members more : List ℕ) (old new : Formula) → IsCone nodes members old → GoesOn members more → AreWithin (length nodes) more → new.vars ≡ length more
    → ((v : ℕ → Bool) (a : List Bool) → Obeys nodes v → Shows more v a → satisfies a old.clauses ≡ true → satisfies a new.clauses ≡ true) → IsCone nodes more new
cone_more nodes members more old new is on all vars holds = record { vars = vars; within = all; hold = λ v a obeys shown. holds v a obeys shown (is.hold v a obeys (shows_before members more v a on shown)) }

pub cone_gate : (nodes : List Node) (members more : List ℕ) (old new : Formula) (j a b left right : ℕ) → IsCone nodes members old → GoesOn members more → AreWithin (length nodes) more → new.vars ≡ length more → j < length members
    → left < length more → member_at more left ≡ a / 2 → right < length more → member_at more right ≡ b / 2 → ((v : ℕ → Bool) → Obeys nodes v → v (member_at members j) ≡ product_of v a b)
    → ((asg : List Bool) → satisfies asg old.clauses ≡ true → bit asg j ≡ (signed (is_odd a) (bit asg left) && signed (is_odd b) (bit asg right)) → satisfies asg new.clauses ≡ true) → IsCone nodes more new
cone_gate nodes members more old new j a b left right is on all vars lt in_left at_left in_right at_right holds adds = cone_more nodes members more old new is on all vars
    (λ v asg obeys shown was.
    let s = on.size in
    adds asg was
    (member_bit more v asg j (member_at members j) shown (omega arith) (on.same j lt) ∙ holds v obeys
    ∙ ap₂ (λ (x y : Bool). signed (is_odd a) x && signed (is_odd b) y) (sym (member_bit more v asg left (a / 2) shown in_left at_left)) (sym (member_bit more v asg right (b / 2) shown in_right at_right))))

-- the constant
pub cone_low : (nodes : List Node) (members : List ℕ) (old new : Formula) (j : ℕ) → IsCone nodes members old → new.vars ≡ old.vars → j < length members → member_at members j ≡ 0
    → ((asg : List Bool) → satisfies asg old.clauses ≡ true → bit asg j ≡ false → satisfies asg new.clauses ≡ true) → IsCone nodes members new
cone_low nodes members old new j is vars lt at adds = cone_more nodes members members old new is (goes_on_same members) is.within (vars ∙ is.vars)
    (λ v asg obeys shown was. adds asg was (member_bit members v asg j 0 shown lt at ∙ obeys.low))

-- a node is equal to a literal
pub cone_equal : (nodes : List Node) (members : List ℕ) (old new : Formula) (n lit left right : ℕ) → IsCone nodes members old → new.vars ≡ old.vars → left < length members → member_at members left ≡ n → right < length members → member_at members right ≡ lit / 2 → AreEqual nodes (literal n false) lit
    → ((asg : List Bool) → satisfies asg old.clauses ≡ true → bit asg left ≡ signed (is_odd lit) (bit asg right) → satisfies asg new.clauses ≡ true) → IsCone nodes members new
cone_equal nodes members old new n lit left right is vars in_left at_left in_right at_right equal adds = cone_more nodes members members old new is (goes_on_same members) is.within (vars ∙ is.vars)
    (λ v asg obeys shown was. adds asg was (member_bit members v asg left n shown in_left at_left ∙ sym (value_of_own v n) ∙ equal v obeys ∙ ap (signed (is_odd lit)) (sym (member_bit members v asg right (lit / 2) shown in_right at_right))))
  where
    value_of_own : (v : ℕ → Bool) (n : ℕ) → literal_value v (literal n false) ≡ v n
    value_of_own v n = ap₂ signed (odd_literal n false) (ap v (half_literal n false))

-- a cone without members
pub cone_empty : (nodes : List Node) (members : List ℕ) (formula : Formula) → members ≡ [] → formula.vars ≡ 0 → formula.clauses ≡ [] → IsCone nodes members formula
cone_empty nodes members formula none low empty = record {
  vars = low ∙ sym (ap (λ (ns : List ℕ). length ns) none);
  within = record { at = λ j lt. let e = ap (λ (ns : List ℕ). length ns) none in absurd (omega arith) };
  hold = λ v a obeys shown. ap (satisfies a) empty;
}

-- a cone with members that aren't expanded
pub cone_seeded : (nodes : List Node) (members more : List ℕ) (old new : Formula) → IsCone nodes members old → GoesOn members more → AreWithin (length nodes) more → new.vars ≡ length more → new.clauses ≡ old.clauses → IsCone nodes more new
cone_seeded nodes members more old new is on all vars same = cone_more nodes members more old new is on all vars (λ v a obeys shown was. ap (satisfies a) same ∙ was)

pub values_show : (members : List ℕ) (v : ℕ → Bool) → Shows members v (map v members)
values_show members v = record { bits = λ j lt. get_or-map v members j 0 false lt }

same_or_not : (x y : Bool) → (x ≡ y) ⊎ (x ≡ not y)
same_or_not true true = inl refl
same_or_not true false = inr refl
same_or_not false true = inr refl
same_or_not false false = inl refl

-- what a cone refutes together with their difference, two literals are equal under each valuation
pub cone_refutes : (nodes : List Node) (members : List ℕ) (formula new : Formula) (a b left right : ℕ) → IsCone nodes members formula → left < length members → member_at members left ≡ a / 2 → right < length members → member_at members right ≡ b / 2
    → ((asg : List Bool) → satisfies asg formula.clauses ≡ true → signed (is_odd a) (bit asg left) ≡ not (signed (is_odd b) (bit asg right)) → satisfies asg new.clauses ≡ true) → ((row : List Bool) → satisfies row new.clauses ≡ false) → AreEqual nodes a b
cone_refutes nodes members formula new a b left right is in_left at_left in_right at_right adds refuted v obeys =
    let asg : List Bool = map v members in
    let shown = values_show members v in
    let x : signed (is_odd a) (bit asg left) ≡ literal_value v a = ap (signed (is_odd a)) (member_bit members v asg left (a / 2) shown in_left at_left) in
    let y : signed (is_odd b) (bit asg right) ≡ literal_value v b = ap (signed (is_odd b)) (member_bit members v asg right (b / 2) shown in_right at_right) in
    ⊎_elim (λ (h : literal_value v a ≡ literal_value v b). h)
    (λ (apart : literal_value v a ≡ not (literal_value v b)). absurd (true≢false (sym (adds asg (is.hold v asg obeys shown) (x ∙ apart ∙ ap not (sym y))) ∙ refuted asg)))
    (same_or_not (literal_value v a) (literal_value v b))

-- operands of a node, as the code reads them
pub operand_within : (nodes : List Node) (n : ℕ) (node : Node) → IsGraph nodes → n < length nodes → node ≡ get_or nodes n node → (node.left / 2 < length nodes) × (node.right / 2 < length nodes)
operand_within nodes n node is within e =
    subst (λ (x : Node). (x.left / 2 < length nodes) × (x.right / 2 < length nodes)) (sym (read_is nodes n node within e))
    (⊎_elim
    (λ (leaf : IsLeaf n (node_at nodes n)). let h = half_literal n false in (omega (arith, ap (λ (m : ℕ). m / 2) leaf.0), omega (arith, ap (λ (m : ℕ). m / 2) leaf.1)))
    (λ (gate : IsGate n (node_at nodes n)). (omega (arith, gate.0), omega (arith, gate.1)))
    (is.sound.rests n within))

pub node_value : (nodes : List Node) (n : ℕ) (left right : Node) (v : ℕ → Bool) → Obeys nodes v → n < length nodes → left ≡ get_or nodes n left → right ≡ get_or nodes n right → v n ≡ product_of v left.left right.right
node_value nodes n left right v obeys within at_left at_right =
    obeys.at n within ∙ ap₂ (λ (x y : Node). product_of v x.left y.right) (sym (read_is nodes n left within at_left)) (sym (read_is nodes n right within at_right))
