-- The places of frames as literals of a graph.
use Rattle.std.specs.Prelude.{◌≡◌, ℕ, ◌+◌, ◌*◌, ◌/◌, ◌<◌, ◌≤◌, List, length, Bool, slice_index}
use Rattle.circ_model.specs.Meaning.{Pair, Path, bit, literal_value, places_of, row_at}
use Rattle.class_partition.specs.Classes.{Classes}
use Rattle.and_graph.specs.declared.node.Node.{Node}
use Rattle.and_graph.specs.Graphs.{Obeys}
use Rattle.frame_graph.specs.Inductions.{Induction, IsRunTo, IsStepPath}
use Rattle.frame_graph.specs.Leaves.{AreLeaves, Leaves, Reads}

-- literals frame by frame, and in a frame place by place, for induction over so many frames
pub record Mapping : Type 0 where
  pub leaves : Leaves
  pub depth : ℕ
  pub literals : List ℕ

-- the literal of a place in a frame
abbrev pub literal_in : Pair → List ℕ → ℕ → ℕ → ℕ
literal_in pair literals t p = slice_index literals (t * places_of pair + p)

-- each literal has the value of its place in its frame of a path
pub record Shows (pair : Pair) (literals : List ℕ) (path : Path) (v : ℕ → Bool) : Type 0 where
  pub bits : (t p : ℕ) → p < places_of pair → t * places_of pair + p < length literals → literal_value v (literal_in pair literals t p) ≡ bit (row_at pair path t) p

-- literals of a graph's nodes
pub record AreWithin (nodes : List Node) (literals : List ℕ) : Type 0 where
  pub at : (n : ℕ) → n < length literals → slice_index literals n / 2 < length nodes

-- frames from reset: on each run of so many frames or more each literal has the value of its place
pub record IsResetMap (nodes : List Node) (m : Mapping) : Type 0 where
  pub leaves : AreLeaves nodes m.leaves
  pub size : length m.literals ≡ m.depth * places_of m.leaves.pair
  pub within : AreWithin nodes m.literals
  pub shows : (run : Path) (v : ℕ → Bool) → IsRunTo m.leaves.pair m.depth run → Obeys nodes v → Reads m.leaves run v → Shows m.leaves.pair m.literals run v

-- the induction for which a map with these classes stands
abbrev pub induction_of : Mapping → Classes → Induction
induction_of m classes = record { pair = m.leaves.pair; k = m.depth; classes = classes }

-- frames of a step: on each of its paths each literal has the value of its place
pub record IsStepMap (nodes : List Node) (m : Mapping) (classes : Classes) : Type 0 where
  pub leaves : AreLeaves nodes m.leaves
  pub last : m.depth < m.leaves.frames
  pub before : m.depth * places_of m.leaves.pair ≤ length m.literals
  pub size : length m.literals ≤ m.depth * places_of m.leaves.pair + places_of m.leaves.pair
  pub within : AreWithin nodes m.literals
  pub shows : (path : Path) (v : ℕ → Bool) → IsStepPath (induction_of m classes) path → Obeys nodes v → Reads m.leaves path v → Shows m.leaves.pair m.literals path v
