-- What evaluating a pair takes: a state and a row of inputs.
use Rattle.std.specs.Prelude.{◌≡◌, ◌+◌, ℕ, List, length, Bool}
use Rattle.product_machine.specs.declared.cell.Cell.{Cell}
use Rattle.product_machine.specs.declared.cell.Cell.TheVariants.{Low, Given, Held, Product}
use Rattle.circ_model.specs.Meaning.{Pair, bit}

-- a bit for each latch, the left netlist's first, and a bit for each input
pub record IsFrame (pair : Pair) (state inputs : List Bool) : Type 0 where
  pub state_length : length state ≡ length pair.left.latches + length pair.right.latches
  pub input_length : length inputs ≡ length pair.left.inputs

-- the places of inputs and latches have their bits
abbrev pub Ready : List Bool → List Bool → ℕ → Cell → Type 0
Ready values r p Low = Unit {0}
Ready values r p Given = bit values p ≡ bit r p
Ready values r p (Held start next) = bit values p ≡ bit r p
Ready values r p (Product a b) = Unit {0}
