-- What a walk along a path writes on.
use Rattle.std.specs.Prelude.{◌≡◌, List, Bool, length}
use Rattle.circ_model.specs.Meaning.{Pair, latches_of, places_of}

-- the state of a frame, and its values
pub record Frame : Type 0 where
  pub state : List Bool
  pub values : List Bool

-- it has the lengths of the pair's rows
pub record FitsPair (pair : Pair) (frame : Frame) : Type 0 where
  pub state : length frame.state ≡ latches_of pair
  pub values : length frame.values ≡ places_of pair
