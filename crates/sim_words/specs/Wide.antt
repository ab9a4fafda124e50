-- Simulation of 512 runs of a pair of netlists: eight words for each place, one after another, and bit b of word j belongs to run 64 * j + b.
use Rattle.std.specs.Prelude.{◌≡◌, ℕ, ◌+◌, ◌*◌, ◌<◌, List, length, map, Bool, slice_index_or, Option}
use Rattle.std.specs.List.{range_with_len}
use Rattle.circ_model.specs.Meaning.{Pair, latches_of, places_of}
use Rattle.sim_words.specs.Lanes.{lane_bit}
use Rattle.sim_words.specs.Simulation.{Simulation, IsSimulation}

-- word j of each of the first n eights
unfoldable pub stripe : ℕ → ℕ → List ℕ → List ℕ
stripe n j words = map (λ i. slice_index_or words (8 * i + j) 0) (range_with_len 0 n)

-- bit b of word j of eight
abbrev pub wide_bit : List ℕ → ℕ → ℕ → ℕ → Bool
wide_bit words j b i = lane_bit b (slice_index_or words (8 * i + j) 0)

-- the pair; the frame whose words stand, if there is one; eight words for each place in that frame; and eight for each latch in the next
pub record WideSimulation : Type 0 where
  pub pair : Pair
  pub frame : Option ℕ
  pub words : List ℕ
  pub state : List ℕ

-- the 64 runs of the words j
abbrev pub narrow : WideSimulation → ℕ → Simulation
narrow s j = record { pair = s.pair; frame = s.frame; words = stripe (places_of s.pair) j s.words; state = stripe (latches_of s.pair) j s.state }

-- there are eight words for each place and latch, and those of one number are a simulation of 64 runs
pub record IsWide (s : WideSimulation) : Type 0 where
  pub places : length s.words ≡ 8 * places_of s.pair
  pub latches : length s.state ≡ 8 * latches_of s.pair
  pub runs : (j : ℕ) → j < 8 → IsSimulation (narrow s j)
