-- Signals and gates by their places.
use Rattle.std.specs.Prelude.{ℕ, slice_index_or}
use Rattle.circ_model.specs.declared.netlist.Signal.{Signal}
use Rattle.circ_model.specs.declared.netlist.Signal.TheVariants.{Const}
use Rattle.circ_model.specs.Meaning.{Pair}
use Rattle.product_machine.specs.declared.cell.Cell.{Cell}
use Rattle.product_machine.specs.declared.cell.Cell.TheVariants.{Low, Given, Held, Product}
use Rattle.product_machine.specs.Cells.{cells, signals}

-- the signal at a place
abbrev pub signal_at : Pair → ℕ → Signal
signal_at pair p = slice_index_or (signals pair) p Const

-- what stands there
abbrev pub cell_at : Pair → ℕ → Cell
cell_at pair p = slice_index_or (cells pair) p Low

abbrev pub IsGate : Cell → Type 0
IsGate Low = ⊥
IsGate Given = ⊥
IsGate (Held start next) = ⊥
IsGate (Product a b) = Unit {0}
