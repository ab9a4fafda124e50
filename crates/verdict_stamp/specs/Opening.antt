-- The opening: what the first 16 frames of 512 runs tell apart.
use Rattle.std.specs.Prelude.{◌≡◌, ◌↔◌, ℕ, ◌+◌, ◌*◌, ◌<◌, List, length, map, Bool, MatchBool, slice_index_or, count_by}
use Rattle.std.specs.List.{range_with_len}
use Rattle.rand_core.specs.Pcg32Seed.{pcg32_seed}
use Rattle.rand_core.specs.Steps.{first_words}
use Rattle.rand_pcg.specs.Lcg.{Lcg}
use Rattle.rand_pcg.specs.Pcg.{pcg64, pcg64_of_seed}
use Rattle.circ_model.specs.declared.netlist.Reset.TheVariants.{Free}
use Rattle.circ_model.specs.Meaning.{Pair, Path, bit, signed, latches_of, places_of, resets, row_at}
use Rattle.circ_model.specs.Runs.{phases}
use Rattle.class_partition.specs.Classes.{Classes, ArePartition, AreTogether}
use Rattle.sim_words.specs.Lanes.{lane}
use Rattle.sim_words.specs.Simulation.{free_before, free_count, start_bit}
use Rattle.sim_words.specs.Stimulus.{after_words}
use Rattle.sim_words.specs.Wide.{stripe}

-- the generator of a stimulus with seed 1
unfoldable pub seeded : Lcg
seeded = pcg64_of_seed (pcg32_seed 32 1)

-- its words: first eight for each free latch, in the order of the state and in a tied pair for the left netlist alone, then for
-- each frame eight for each input
abbrev pub free_words : Pair → List ℕ
free_words pair = first_words pcg64 (8 * free_count pair) seeded

abbrev pub input_words : Pair → ℕ → List ℕ
input_words pair t = first_words pcg64 (8 * length pair.left.inputs) (after_words (8 * free_count pair + t * (8 * length pair.left.inputs)) seeded)

-- the 512 runs are named by two numbers: run j b, for j below 8 and b below 64, has bit b of word j of each eight. What a latch
-- starts with in it: a free one with its bit, which in a tied pair is its partner's
abbrev pub start_in : Pair → ℕ → ℕ → ℕ → Bool
start_in pair j b i = start_bit (slice_index_or (resets pair) i Free) (bit (lane b (stripe (free_count pair) j (free_words pair))) (free_before pair i))

-- the inputs of its frame t
abbrev pub inputs_in : Pair → ℕ → ℕ → ℕ → List Bool
inputs_in pair j b t = lane b (stripe (length pair.left.inputs) j (input_words pair t))

-- and the run
unfoldable pub opening_run : Pair → ℕ → ℕ → Path
opening_run pair j b = record { start = map (start_in pair j b) (range_with_len 0 (latches_of pair)); inputs = map (inputs_in pair j b) (range_with_len 0 16) }

-- a place's bit in frame t of run j b, complemented by its phase
abbrev pub phased_bit : Pair → ℕ → ℕ → ℕ → ℕ → Bool
phased_bit pair j b t p = signed (bit (phases pair) p) (bit (row_at pair (opening_run pair j b) t) p)

-- two places are equal, each with its phase, in frame t of all 512 runs; and in all of the first n frames
abbrev pub EqualIn : Pair → ℕ → ℕ → ℕ → Type 0
EqualIn pair t p q = (j b : ℕ) → j < 8 → b < 64 → phased_bit pair j b t p ≡ phased_bit pair j b t q

abbrev pub EqualBelow : Pair → ℕ → ℕ → ℕ → Type 0
EqualBelow pair n p q = (t : ℕ) → t < n → EqualIn pair t p q

-- the classes of the places that are equal in the first n frames
pub record AreOpened (pair : Pair) (n : ℕ) (classes : Classes) : Type 0 where
  pub partition : ArePartition (places_of pair) classes
  pub phase : classes.phase ≡ phases pair
  pub together : (p q : ℕ) → p < places_of pair → q < places_of pair → AreTogether classes p q ↔ EqualBelow pair n p q

-- frame t adds classes: it tells two places apart that are equal in all frames before it
abbrev pub AddsClasses : Pair → ℕ → Type 0
AddsClasses pair t = (p q : ℕ) × (p < places_of pair) × (q < places_of pair) × EqualBelow pair t p q × (EqualIn pair t p q → ⊥)

-- so many of the first n frames add classes
abbrev pub AreFramesThatAdd : Pair → ℕ → ℕ → Type 0
AreFramesThatAdd pair n number =
    (adds : List Bool) × (length adds ≡ n)
    × ((t : ℕ) → t < n → MatchBool (bit adds t) (AddsClasses pair t) (AddsClasses pair t → ⊥))
    × (count_by (λ b. b) adds ≡ number)
