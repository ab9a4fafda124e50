-- Simulation of 64 runs of a pair of netlists, frame by frame.
use Rattle.std.specs.Prelude.{◌≡◌, ℕ, ◌+◌, ◌-◌, ◌^◌, ◌<◌, nat_lt, ◌&&◌, not, if◌then◌else◌, List, [], length, take, Bool, true, false, slice_index_or, Option, Some, None, count_by}
use Rattle.circ_model.specs.declared.netlist.Reset.{Reset}
use Rattle.circ_model.specs.declared.netlist.Reset.TheVariants.{Zero, One, Free}
use Rattle.circ_model.specs.Meaning.{bit, is_free, own_resets, Pair, Path, IsRun, latches_of, places_of, resets, row_at, state_at}
use Rattle.sim_words.specs.Lanes.{lane}

-- the pair; the frame whose words stand, if there is one; a word for each place in that frame; and a word for each latch in the next
pub record Simulation : Type 0 where
  pub pair : Pair
  pub frame : Option ℕ
  pub words : List ℕ
  pub state : List ℕ

-- there is a frame
abbrev pub HasFrame : Option ℕ → Type 0
HasFrame None = ⊥
HasFrame (Some t) = Unit {0}

-- the next frame, and that its number fits a word
abbrev pub next_frame : Option ℕ → ℕ
next_frame None = 0
next_frame (Some t) = t + 1

abbrev pub HasNext : Option ℕ → Type 0
HasNext frame = next_frame frame < 2 ^ 64

-- bits are the row of frame t, the last one, of a run, and the state is that after it
pub record IsLastFrame (pair : Pair) (t : ℕ) (state bits : List Bool) : Type 0 where
  pub run : Path
  pub is_run : IsRun pair run
  pub rows : length run.inputs ≡ t + 1
  pub row : bits ≡ row_at pair run t
  pub next : state ≡ state_at pair run (t + 1)

-- a lane: a state in which a run starts, or the last frame of a run
abbrev pub IsLane : Pair → Option ℕ → List Bool → List Bool → Type 0
IsLane pair None state bits = IsRun pair (record { start = state; inputs = [] })
IsLane pair (Some t) state bits = IsLastFrame pair t state bits

-- each lane of the words and of the state is one
pub record IsSimulation (s : Simulation) : Type 0 where
  pub places : length s.words ≡ places_of s.pair
  pub latches : length s.state ≡ latches_of s.pair
  pub lanes : (b : ℕ) → b < 64 → IsLane s.pair s.frame (lane b s.state) (lane b s.words)

-- how many words a reset takes: one for each free latch (AIGER 1.9: uninitialized), in a tied pair for those of the left netlist alone
abbrev pub free_count : Pair → ℕ
free_count pair = count_by is_free (if pair.tied then own_resets pair.left else resets pair)

-- the word of a latch of the state: that with the number of free latches before it, on its own side where the pair is tied, so
-- that partners have one word
abbrev pub free_before : Pair → ℕ → ℕ
free_before pair i = if pair.tied && not (nat_lt i (length pair.left.latches)) then count_by is_free (take (i - length pair.left.latches) (own_resets pair.right)) else count_by is_free (take i (resets pair))

-- what a latch starts with where it has this reset and this bit of its own
abbrev pub start_bit : Reset → Bool → Bool
start_bit Zero b = false
start_bit One b = true
start_bit Free b = b

-- a state after a reset: each free latch has its bit, in the order of the state
pub record IsStart (pair : Pair) (free state : List Bool) : Type 0 where
  pub size : length state ≡ latches_of pair
  pub bits : (i : ℕ) → i < latches_of pair → bit state i ≡ start_bit (slice_index_or (resets pair) i Free) (bit free (free_before pair i))

-- how many free latches are counted on the way to a latch, where the count begins anew with the right netlist of a tied pair
abbrev pub counted_before : Pair → ℕ → ℕ
counted_before pair i = if pair.tied && nat_lt (length pair.left.latches) i then count_by is_free (take (i - length pair.left.latches) (own_resets pair.right)) else count_by is_free (take i (resets pair))
