-- What a node stands for among the leaves.
use Rattle.std.specs.Prelude.{◌≡◌, ◌⊎◌, ℕ, ◌+◌, ◌*◌, ◌<◌, ◌≤◌, length, Option, Some, None}
use Rattle.circ_model.specs.Meaning.{latches_of}
use Rattle.frame_graph.specs.declared.leaf.Leaf.{Leaf}
use Rattle.frame_graph.specs.declared.leaf.Leaf.TheVariants.{Latch, Input}
use Rattle.frame_graph.specs.Leaves.{Leaves, input_node, latch_node, leaf_count}

-- a latch, or an input of a frame, has this node; or none of them has
abbrev pub StandsFor : Leaves → ℕ → Option Leaf → Type 0
StandsFor l n None = (n < l.first) ⊎ (l.first + leaf_count l ≤ n)
StandsFor l n (Some (Latch j)) = (j < latches_of l.pair) × (n ≡ latch_node l j)
StandsFor l n (Some (Input t i)) = (t < l.frames) × (i < length l.pair.left.inputs) × (n ≡ input_node l t i)

-- an input of a frame, by a position among those of so many frames
abbrev pub IsInputOf : ℕ → ℕ → ℕ → Option Leaf → Type 0
IsInputOf inputs frames k None = frames * inputs ≤ k
IsInputOf inputs frames k (Some (Latch j)) = ⊥
IsInputOf inputs frames k (Some (Input t i)) = (t < frames) × (i < inputs) × (k ≡ t * inputs + i)
