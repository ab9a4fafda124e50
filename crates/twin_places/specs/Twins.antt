-- Classes no two literals of which are outside the greatest correspondence, whatever other literals may be.
use Rattle.std.specs.Prelude.{ℕ, ◌/◌, ◌<◌}
use Rattle.circ_model.specs.Meaning.{Pair, places_of}
use Rattle.circ_model.specs.Correspondence.{Corresponds}
use Rattle.class_partition.specs.Classes.{Classes, ArePartition, Pairs}

-- what they pair corresponds, by induction over one frame
pub record AreTwins (pair : Pair) (classes : Classes) : Type 0 where
  pub partition : ArePartition (places_of pair) classes
  pub correspond : (a b : ℕ) → a / 2 < places_of pair → b / 2 < places_of pair → Pairs classes a b → Corresponds pair 1 a b
