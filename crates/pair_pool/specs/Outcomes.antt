-- What a pair comes to, as its verdict.
use Rattle.std.specs.Prelude.{ℕ, ◌<◌, List, length}
use Rattle.std.specs.List.{HoldsAt}
use Rattle.circ_model.specs.Meaning.{Pair}
use Rattle.circ_model.specs.Verdict.{Verdict, Different, Equivalent, Undecided, IsVerdict}
use Rattle.pair_pool.specs.declared.outcome.Outcome.{Outcome}
use Rattle.pair_pool.specs.declared.outcome.Outcome.TheVariants as outcomes

abbrev pub verdict_of : Outcome → Verdict
verdict_of (outcomes.Different frame output) = Different frame output
verdict_of (outcomes.Equivalent classes) = Equivalent classes
verdict_of (outcomes.Undecided classes unpaired) = Undecided classes unpaired

-- the verdict with induction over k frames and differences below frame k
abbrev pub IsOutcome : Pair → ℕ → Outcome → Type 0
IsOutcome pair k o = IsVerdict pair k k (verdict_of o)

-- that of the pair at a place of a list
abbrev pub IsOutcomeAt : List Pair → ℕ → ℕ → Outcome → Type 0
IsOutcomeAt pairs k at o = (at < length pairs) × HoldsAt (λ (pair : Pair). IsOutcome pair k o) pairs at
