-- The answers of a run, in the order of the list.
use Rattle.std.specs.Prelude.{◌≡◌, ℕ, ◌<◌, List, length, slice_index_or, replicate, Option, None, IfSome}
use Rattle.circ_model.specs.Meaning.{Pair}
use Rattle.pair_pool.specs.declared.outcome.Outcome.{Outcome}
use Rattle.pair_pool.specs.declared.slots.Solved.{Solved}
use Rattle.pair_pool.specs.Outcomes.{IsOutcomeAt}

-- so many empty slots
abbrev pub AreEmpty : ℕ → List (Option Outcome) → Type 0
AreEmpty count slots = slots ≡ replicate count None

-- a slot for each pair of the list; what is in it is the pair's outcome
pub record AreSlots (pairs : List Pair) (k : ℕ) (slots : List (Option Outcome)) : Type 0 where
  pub count : length slots ≡ length pairs
  pub each : (i : ℕ) (d : Option Outcome) → i < length slots → IfSome (slice_index_or slots i d) (IsOutcomeAt pairs k i)

-- an answer for each of the first pairs of the list, in its order: the place of the pair, and its outcome
abbrev pub AreInOrder : List Pair → ℕ → List Solved → Type 0
AreInOrder pairs k solved = (i : ℕ) (d : Solved) → i < length solved → ((slice_index_or solved i d).index ≡ i) × IsOutcomeAt pairs k i (slice_index_or solved i d).outcome

-- and one for each pair
pub record AreOutcomes (pairs : List Pair) (k : ℕ) (solved : List Solved) : Type 0 where
  pub count : length solved ≡ length pairs
  pub each : AreInOrder pairs k solved
