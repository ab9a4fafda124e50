-- Outputs of both sides in one row of values.
use Rattle.std.specs.Prelude.{◌≡◌, ℕ, ◌<◌, List, Bool, Option, Some, None}
use Rattle.circ_model.specs.Meaning.{Pair, outputs_of, value_in}
use Rattle.product_machine.specs.States.{output_pair}

-- output j has one value on both sides
abbrev pub AgreesIn : Pair → List Bool → ℕ → Type 0
AgreesIn pair row j = value_in row (output_pair pair j).0 ≡ value_in row (output_pair pair j).1

-- the least output that differs, or none
abbrev pub FirstInRow : Pair → List Bool → Option ℕ → Type 0
FirstInRow pair row (Some j) = (j < outputs_of pair) × (AgreesIn pair row j → ⊥) × ((i : ℕ) → i < j → AgreesIn pair row i)
FirstInRow pair row None = (i : ℕ) → i < outputs_of pair → AgreesIn pair row i
