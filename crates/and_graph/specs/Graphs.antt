-- An and-inverter graph that knows nothing of what it is made from: nodes, and what the values of its nodes obey.
use Rattle.std.specs.Prelude.{◌≡◌, ℕ, ◌/◌, ◌<◌, ◌≤◌, ◌^◌, ◌⊎◌, List, All, length, Bool, false, ◌&&◌, slice_index_or}
use Rattle.circ_model.specs.Meaning.{literal, literal_value}
use Rattle.and_graph.specs.declared.node.Node.{Node}

-- node n; past the end a constant
abbrev pub node_at : List Node → ℕ → Node
node_at nodes n = slice_index_or nodes n (record { left = 0; right = 0; canonical = 0 })

-- the product of two literals where the nodes have these values
abbrev pub product_of : (ℕ → Bool) → ℕ → ℕ → Bool
product_of v a b = literal_value v a && literal_value v b

-- a valuation: node 0 is false, and each node is the product of its operands. A leaf has itself as both, so it is free.
pub record Obeys (nodes : List Node) (v : ℕ → Bool) : Type 0 where
  pub low : v 0 ≡ false
  pub at : (n : ℕ) → n < length nodes → v n ≡ product_of v (node_at nodes n).left (node_at nodes n).right

-- values of the nodes agree with the canonical literals
pub record Agrees (nodes : List Node) (v : ℕ → Bool) : Type 0 where
  pub low : v 0 ≡ false
  pub at : (n : ℕ) → n < length nodes → v n ≡ literal_value v (node_at nodes n).canonical

-- two literals have one value under each valuation
abbrev pub AreEqual : List Node → ℕ → ℕ → Type 0
AreEqual nodes a b = (v : ℕ → Bool) → Obeys nodes v → literal_value v a ≡ literal_value v b

-- the literals of each pair have one value
abbrev pub AllEqual : (ℕ → Bool) → List (ℕ × ℕ) → Type 0
AllEqual v pairs = All (λ (p : ℕ × ℕ). literal_value v p.0 ≡ literal_value v p.1) pairs

-- two literals have one value under each valuation under which those of each pair do
abbrev pub AreEqualWhere : List Node → List (ℕ × ℕ) → ℕ → ℕ → Type 0
AreEqualWhere nodes pairs a b = (v : ℕ → Bool) → Obeys nodes v → AllEqual v pairs → literal_value v a ≡ literal_value v b

-- a node is a leaf, or a gate over nodes before it; its canonical literal doesn't stand after it
abbrev pub IsLeaf : ℕ → Node → Type 0
IsLeaf n node = (node.left ≡ literal n false) × (node.right ≡ literal n false)

abbrev pub IsGate : ℕ → Node → Type 0
IsGate n node = (node.left / 2 < n) × (node.right / 2 < n)

pub record AreSound (nodes : List Node) : Type 0 where
  pub rests : (n : ℕ) → n < length nodes → IsLeaf n (node_at nodes n) ⊎ IsGate n (node_at nodes n)
  pub lower : (n : ℕ) → n < length nodes → (node_at nodes n).canonical / 2 ≤ n

pub record IsGraph (nodes : List Node) : Type 0 where
  pub some : 0 < length nodes
  pub few : length nodes < 2 ^ 31
  pub sound : AreSound nodes
  pub agree : (v : ℕ → Bool) → Obeys nodes v → Agrees nodes v

-- more nodes, with those that there were in front: each valuation is one of what there was
pub record GrowsTo (nodes more : List Node) : Type 0 where
  pub size : length nodes ≤ length more
  pub same : (n : ℕ) → n < length nodes → node_at more n ≡ node_at nodes n

-- some valuation has any values at the leaves. Node 0, the constant, is none of them.
abbrev pub HasValuations : List Node → Type 0
HasValuations nodes = (leaf : ℕ → Bool) → (v : ℕ → Bool) × Obeys nodes v × ((n : ℕ) → 0 < n → n < length nodes → IsLeaf n (node_at nodes n) → v n ≡ leaf n)

-- two valuations with the same values at the leaves have the same values at all nodes
abbrev pub HasOneValuation : List Node → Type 0
HasOneValuation nodes = (v w : ℕ → Bool) → Obeys nodes v → Obeys nodes w → ((n : ℕ) → 0 < n → n < length nodes → IsLeaf n (node_at nodes n) → v n ≡ w n) → (n : ℕ) → n < length nodes → v n ≡ w n
