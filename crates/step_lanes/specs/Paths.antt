-- Simulation of 64 paths from any states, frame by frame, and on which of them the classes held in the first k frames.
use Rattle.std.specs.Prelude.{◌≡◌, ℕ, suc, ◌<◌, List, length, Bool, IsTrue}
use Rattle.circ_model.specs.Meaning.{Pair, IsSoundPair, Path, IsPath, latches_of, places_of, row_at, state_at}
use Rattle.class_partition.specs.Classes.{Classes, ArePartition, HoldIn}
use Rattle.sim_words.specs.Lanes.{lane, lane_bit}

-- classes that are assumed in the first k frames; how many frames there were; a mask of lanes; a word for each place in the last of the
-- frames, and for each latch in the next
pub record LaneFrames : Type 0 where
  pub pair : Pair
  pub k : ℕ
  pub classes : Classes
  pub frames : ℕ
  pub mask : ℕ
  pub words : List ℕ
  pub state : List ℕ

-- a lane is a path: the row of its last frame and the state after it; it is kept exactly where the classes held in each frame before that
-- is one of the first k
pub record IsPathLane (pair : Pair) (k : ℕ) (classes : Classes) (frames : ℕ) (kept : Bool) (bits state : List Bool) : Type 0 where
  pub path : Path
  pub is_path : IsPath pair path
  pub rows : length path.inputs ≡ frames
  pub next : state ≡ state_at pair path frames
  pub row : (t : ℕ) → frames ≡ suc t → bits ≡ row_at pair path t
  pub hold : IsTrue kept → (t : ℕ) → t < k → suc t < frames → HoldIn (places_of pair) classes (row_at pair path t)
  pub all : ((t : ℕ) → t < k → suc t < frames → HoldIn (places_of pair) classes (row_at pair path t)) → IsTrue kept

pub record AreLanes (s : LaneFrames) : Type 0 where
  pub pair : IsSoundPair s.pair
  pub classes : ArePartition (places_of s.pair) s.classes
  pub places : length s.words ≡ places_of s.pair
  pub latches : length s.state ≡ latches_of s.pair
  pub lanes : (b : ℕ) → b < 64 → IsPathLane s.pair s.k s.classes s.frames (lane_bit b s.mask) (lane b s.words) (lane b s.state)
