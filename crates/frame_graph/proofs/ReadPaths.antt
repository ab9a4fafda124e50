-- Some valuation of a graph has the bits of a path at the leaves.
use Rattle.std.proofs.Common.{◌≡◌, ◌∙◌, ◌<◌, ◌/◌, ◌%◌, ◌+◌, ◌-◌, ◌*◌, nat_lt, ℕ, Bool, if◌then◌else◌, List, length, ap, ap₂, arith}
use Rattle.std.proofs.Math.Nat.{mul_comm}
use Rattle.std.proofs.lemmas.Bool.{le-ltb, lt-ltb}
use Rattle.std.proofs.lemmas.Nat.{div-mul-add, mod-mul-add, mul-add-lt}
use Rattle.circ_model.specs.Meaning.{Path, bit, inputs_at, latches_of}
use Rattle.and_graph.specs.declared.node.Node.{Node}
use Rattle.and_graph.specs.Graphs.{IsGraph, Obeys}
use Rattle.and_graph.proofs.Valuations.{has_valuations}
use Rattle.frame_graph.specs.Leaves.{AreLeaves, Leaves, Reads, input_node, latch_node}

-- the bit that a node is to have, were it a leaf: a latch's, or else that of an input of a frame
input_bit : Leaves → Path → ℕ → Bool
input_bit l path j = bit (inputs_at path (j / length l.pair.left.inputs)) (j % length l.pair.left.inputs)

leaf_bit : Leaves → Path → ℕ → Bool
leaf_bit l path n = if nat_lt n (l.first + latches_of l.pair) then bit path.start (n - l.first) else input_bit l path (n - (l.first + latches_of l.pair))

at_latch : (l : Leaves) (path : Path) (j : ℕ) → j < latches_of l.pair → leaf_bit l path (latch_node l j) ≡ bit path.start j
unfolding leaf_bit
at_latch l path j lt =
    let n : ℕ = latch_node l j in
    let e : n - l.first ≡ j = omega arith in
    ap (λ (b : Bool). if b then bit path.start (n - l.first) else input_bit l path (n - (l.first + latches_of l.pair))) (lt-ltb n (l.first + latches_of l.pair) (omega arith)) ∙ ap (bit path.start) e

at_input : (l : Leaves) (path : Path) (t i : ℕ) → i < length l.pair.left.inputs → leaf_bit l path (input_node l t i) ≡ bit (inputs_at path t) i
unfolding leaf_bit input_bit
at_input l path t i lt =
    let n : ℕ = input_node l t i in
    let w : ℕ = length l.pair.left.inputs in
    let e : n - (l.first + latches_of l.pair) ≡ t * w + i = omega arith in
    ap (λ (b : Bool). if b then bit path.start (n - l.first) else input_bit l path (n - (l.first + latches_of l.pair))) (le-ltb n (l.first + latches_of l.pair) (omega arith))
    ∙ ap₂ (λ (s q : ℕ). bit (inputs_at path s) q) (ap (λ (m : ℕ). m / w) e ∙ div-mul-add t w i lt) (ap (λ (m : ℕ). m % w) e ∙ mod-mul-add t w i lt)

-- an input of a frame is one of the leaves
pub input_within : (w t i frames : ℕ) → t < frames → i < w → t * w + i < frames * w
input_within w t i frames frame lt = let h = mul-add-lt t w i frames frame lt in let c = mul_comm frames w in omega arith

pub each_path_is_read : (nodes : List Node) (l : Leaves) (path : Path) → IsGraph nodes → AreLeaves nodes l → (v : ℕ → Bool) × Obeys nodes v × Reads l path v
each_path_is_read nodes l path is leaves =
    let (v, obeys, at) = has_valuations nodes is (leaf_bit l path) in
    let some = leaves.some in
    let room = leaves.room in (
      v,
      obeys,
      record {
        start = λ j lt. at (latch_node l j) (omega arith) (omega arith) (leaves.each j (omega arith)) ∙ at_latch l path j lt;
        inputs = λ t i frame lt.
            let less = input_within (length l.pair.left.inputs) t i l.frames frame lt in
            at (input_node l t i) (omega arith) (omega arith) (leaves.each (latches_of l.pair + (t * length l.pair.left.inputs + i)) (omega arith)) ∙ at_input l path t i lt;
      },
    )
