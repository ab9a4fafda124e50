-- One frame, as its places are mapped.
use Rattle.std.specs.Prelude.{◌≡◌, ℕ, ◌<◌, List, length, Bool, false, IsTrue}
use Rattle.circ_model.specs.Meaning.{Path, IsPath, IsRun, places_of, row_at}
use Rattle.class_partition.specs.Classes.{Classes, HoldIn}
use Rattle.and_graph.specs.declared.node.Node.{Node}
use Rattle.and_graph.specs.Graphs.{Obeys}
use Rattle.frame_graph.specs.declared.frame.Frame.{Frame}
use Rattle.frame_graph.specs.declared.frame.LeafRange.{LeafRange}
use Rattle.frame_graph.specs.Leaves.{Leaves, Reads}
use Rattle.frame_graph.specs.Maps.{Shows}

-- a frame by its number, of paths from reset or from any state
pub record FrameOf : Type 0 where
  pub leaves : Leaves
  pub from_reset : Bool
  pub number : ℕ

-- it is a frame of a path, whose bits the leaves have, and the literals so far have the values of their places
pub record Stands (f : FrameOf) (literals : List ℕ) (path : Path) (v : ℕ → Bool) : Type 0 where
  pub is_path : IsPath f.leaves.pair path
  pub frame : f.number < length path.inputs
  pub reset : IsTrue f.from_reset → IsRun f.leaves.pair path
  pub low : v 0 ≡ false
  pub reads : Reads f.leaves path v
  pub shows : Shows f.leaves.pair literals path v

-- as the code has leaves, and a frame
abbrev pub leaves_of : LeafRange → Leaves
leaves_of l = record { pair = l.product.now; frames = l.frames; first = l.first }

abbrev pub frame_of : Frame → FrameOf
frame_of f = record { leaves = record { pair = f.product.now; frames = f.frames; first = f.first }; from_reset = f.from_reset; number = f.number }

-- more literals: they have the values of their places wherever those before have, on each path
pub record GoesOn (f : FrameOf) (nodes : List Node) (before after : List ℕ) : Type 0 where
  pub stands : (path : Path) (v : ℕ → Bool) → Obeys nodes v → Stands f before path v → Stands f after path v

-- or on each on which the classes hold in this frame
pub record GoesOnWith (f : FrameOf) (classes : Classes) (nodes : List Node) (before after : List ℕ) : Type 0 where
  pub stands : (path : Path) (v : ℕ → Bool) → Obeys nodes v → HoldIn (places_of f.leaves.pair) classes (row_at f.leaves.pair path f.number) → Stands f before path v → Stands f after path v
