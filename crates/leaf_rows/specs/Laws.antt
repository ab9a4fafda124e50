-- The laws of rows and their leaves, as statements.
use Rattle.std.specs.Prelude.{◌≡◌, ℕ, List, Bool}
use Rattle.circ_model.specs.Correspondence.{MaySplit}
use Rattle.circ_model.specs.Meaning.{Pair, IsSoundPair, row}
use Rattle.leaf_rows.specs.Rows.{IsRowOf, leaves_in, row_by}
use Rattle.product_machine.specs.declared.cell.Cell.{Cell}
use Rattle.product_machine.specs.Cells.{cells, IsArranged}
use Rattle.product_machine.specs.Eval.{IsFrame}

-- a row that obeys the cells is the one that its leaves determine
abbrev pub LeavesDetermine : Type 0
LeavesDetermine = (cs : List Cell) (bits : List Bool) → IsArranged cs → IsRowOf cs bits → row_by cs (leaves_in cs bits) ≡ bits

-- the row of any frame obeys the cells of its pair
abbrev pub FramesAreRows : Type 0
FramesAreRows = (pair : Pair) (state inputs : List Bool) → IsSoundPair pair → IsFrame pair state inputs → IsRowOf (cells pair) (row pair state inputs)

-- and so does a row that may split classes
abbrev pub SplitRowsAreRows : Type 0
SplitRowsAreRows = (pair : Pair) (k : ℕ) (bits : List Bool) → IsSoundPair pair → MaySplit pair k bits → IsRowOf (cells pair) bits
