-- The values of the leaves: each has a valuation, and no more than one. Gates stand after their operands, so that values are
-- found one after another.
use Rattle.std.proofs.Common.{◌≡◌, ◌≢◌, ◌∙◌, ◌<◌, ◌/◌, ◌&&◌, ⊎_elim, ℕ, zero, suc, Bool, true, false, List, length, refl, ap, ap₂, sym, arith, if◌then◌else◌}
use Rattle.std.specs.Prelude.{nat_lt}
use Rattle.std.proofs.lemmas.Bool.{lt-ltb, le-ltb, cases_eq}
use Rattle.circ_model.specs.Meaning.{is_odd, signed}
use Rattle.circ_model.proofs.Literals.{half_literal}
use Rattle.and_graph.specs.declared.node.Node.{Node}
use Rattle.and_graph.specs.Graphs.{AreSound, HasOneValuation, HasValuations, IsGate, IsGraph, IsLeaf, Obeys, node_at, product_of}
use Rattle.and_graph.proofs.Nodes.{own_value}

-- the value of a node, looked for so many steps down
unfoldable value_by : List Node → (ℕ → Bool) → ℕ → ℕ → Bool
value_by nodes leaf zero n = false
value_by nodes leaf (suc steps) zero = false
value_by nodes leaf (suc steps) (suc m) =
    if nat_lt ((node_at nodes (suc m)).left / 2) (suc m) then product_of (value_by nodes leaf steps) (node_at nodes (suc m)).left (node_at nodes (suc m)).right else leaf (suc m)

low_value : (nodes : List Node) (leaf : ℕ → Bool) (steps : ℕ) → value_by nodes leaf steps 0 ≡ false
unfolding value_by
low_value nodes leaf zero = refl
low_value nodes leaf (suc steps) = refl

gate_value : (nodes : List Node) (leaf : ℕ → Bool) (steps n : ℕ) → IsGate n (node_at nodes n) → value_by nodes leaf (suc steps) n ≡ product_of (value_by nodes leaf steps) (node_at nodes n).left (node_at nodes n).right
unfolding value_by
gate_value nodes leaf steps zero gate = absurd (let below = gate.0 in omega arith)
gate_value nodes leaf steps (suc m) gate = let e = lt-ltb ((node_at nodes (suc m)).left / 2) (suc m) gate.0 in rw (e, value_by) refl

leaf_value : (nodes : List Node) (leaf : ℕ → Bool) (steps n : ℕ) → 0 < n → IsLeaf n (node_at nodes n) → value_by nodes leaf (suc steps) n ≡ leaf n
unfolding value_by
leaf_value nodes leaf steps zero some is = absurd (omega arith)
leaf_value nodes leaf steps (suc m) some is = let e = le-ltb ((node_at nodes (suc m)).left / 2) (suc m) (omega (arith, half_literal (suc m) false, ap (λ (k : ℕ). k / 2) is.0)) in rw (e, value_by) refl

product_same : (f g : ℕ → Bool) (a b : ℕ) → f (a / 2) ≡ g (a / 2) → f (b / 2) ≡ g (b / 2) → product_of f a b ≡ product_of g a b
product_same f g a b left right = ap₂ (λ (x y : Bool). signed (is_odd a) x && signed (is_odd b) y) left right

-- steps enough to come to the leaves give one value
stable : (nodes : List Node) (leaf : ℕ → Bool) (bound n s t : ℕ) → AreSound nodes → n < length nodes → n < bound → n < s → n < t → value_by nodes leaf s n ≡ value_by nodes leaf t n
stable nodes leaf zero n s t sound within below in_s in_t = absurd (omega arith)
stable nodes leaf (suc bound) n zero t sound within below in_s in_t = absurd (omega arith)
stable nodes leaf (suc bound) n (suc s) zero sound within below in_s in_t = absurd (omega arith)
stable nodes leaf (suc bound) n (suc s) (suc t) sound within below in_s in_t =
    ⊎_elim
    (λ (is : IsLeaf n (node_at nodes n)).
    ⊎_elim
    (λ (e : n ≡ 0). rw e (low_value nodes leaf (suc s) ∙ sym (low_value nodes leaf (suc t))))
    (λ (ne : n ≢ 0). leaf_value nodes leaf s n (omega arith) is ∙ sym (leaf_value nodes leaf t n (omega arith) is))
    (cases_eq n 0))
    (λ (is : IsGate n (node_at nodes n)).
    let l = is.0 in
    let r = is.1 in
    gate_value nodes leaf s n is
    ∙ product_same (value_by nodes leaf s) (value_by nodes leaf t) (node_at nodes n).left (node_at nodes n).right
    (stable nodes leaf bound ((node_at nodes n).left / 2) s t sound (omega arith) (omega arith) (omega arith) (omega arith))
    (stable nodes leaf bound ((node_at nodes n).right / 2) s t sound (omega arith) (omega arith) (omega arith) (omega arith))
    ∙ sym (gate_value nodes leaf t n is))
    (sound.rests n within)

-- the value of a node
abbrev value_of : List Node → (ℕ → Bool) → ℕ → Bool
value_of nodes leaf n = value_by nodes leaf (suc n) n

both_same : (b : Bool) → b ≡ (b && b)
both_same true = refl
both_same false = refl

-- a leaf is the product of its own literals, whatever its value is
leaf_obeys : (v : ℕ → Bool) (n : ℕ) (node : Node) → IsLeaf n node → v n ≡ product_of v node.left node.right
leaf_obeys v n node is = both_same (v n) ∙ ap₂ (λ (x y : Bool). x && y) (own_value v n node.left is.0) (own_value v n node.right is.1)

gate_obeys : (nodes : List Node) (leaf : ℕ → Bool) (n : ℕ) → AreSound nodes → n < length nodes → IsGate n (node_at nodes n) → value_of nodes leaf n ≡ product_of (value_of nodes leaf) (node_at nodes n).left (node_at nodes n).right
gate_obeys nodes leaf n sound within is =
    let l = is.0 in
    let r = is.1 in
    let down : (q : ℕ) → q < n → value_by nodes leaf n q ≡ value_of nodes leaf q = λ q lt. stable nodes leaf (suc q) q n (suc q) sound (omega arith) (omega arith) lt (omega arith) in
    gate_value nodes leaf n n is
    ∙ product_same (value_by nodes leaf n) (value_of nodes leaf) (node_at nodes n).left (node_at nodes n).right (down ((node_at nodes n).left / 2) l) (down ((node_at nodes n).right / 2) r)

pub has_valuations : (nodes : List Node) → IsGraph nodes → HasValuations nodes
has_valuations nodes is leaf = (
  value_of nodes leaf,
  record {
    low = low_value nodes leaf 1;
    at = λ n within.
        ⊎_elim
        (λ (leaf_is : IsLeaf n (node_at nodes n)). leaf_obeys (value_of nodes leaf) n (node_at nodes n) leaf_is)
        (λ (gate_is : IsGate n (node_at nodes n)). gate_obeys nodes leaf n is.sound within gate_is)
        (is.sound.rests n within);
  },
  λ n some within leaf_is. leaf_value nodes leaf n n some leaf_is,
)

one_below : (nodes : List Node) (v w : ℕ → Bool) → AreSound nodes → Obeys nodes v → Obeys nodes w → ((n : ℕ) → 0 < n → n < length nodes → IsLeaf n (node_at nodes n) → v n ≡ w n) → (bound n : ℕ) → n < bound → n < length nodes → v n ≡ w n
one_below nodes v w sound in_v in_w same zero n below within = absurd (omega arith)
one_below nodes v w sound in_v in_w same (suc bound) n below within =
    ⊎_elim
    (λ (is : IsLeaf n (node_at nodes n)).
    ⊎_elim
    (λ (e : n ≡ 0). rw e (in_v.low ∙ sym in_w.low))
    (λ (ne : n ≢ 0). same n (omega arith) within is)
    (cases_eq n 0))
    (λ (is : IsGate n (node_at nodes n)).
    let l = is.0 in
    let r = is.1 in
    in_v.at n within
    ∙ product_same v w (node_at nodes n).left (node_at nodes n).right
    (one_below nodes v w sound in_v in_w same bound ((node_at nodes n).left / 2) (omega arith) (omega arith))
    (one_below nodes v w sound in_v in_w same bound ((node_at nodes n).right / 2) (omega arith) (omega arith))
    ∙ sym (in_w.at n within))
    (sound.rests n within)

pub has_one_valuation : (nodes : List Node) → IsGraph nodes → HasOneValuation nodes
has_one_valuation nodes is v w in_v in_w same n within = one_below nodes v w is.sound in_v in_w same (suc n) n (omega arith) within
