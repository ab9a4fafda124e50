-- The laws of rows that may split, as statements.
use Rattle.std.specs.Prelude.{ℕ, ◌<◌, ◌≤◌, List, length, map, Bool}
use Rattle.circ_model.specs.Meaning.{Pair, IsSoundPair, Path, IsPath, IsInputRow, row, row_at, value_in}
use Rattle.circ_model.specs.Correspondence.{AgreesWithGreatest, MaySplit}
use Rattle.product_machine.specs.States.{nexts}

-- the row of the frame after one with this row
abbrev pub row_after : Pair → List Bool → List Bool → List Bool
row_after pair bits inputs = row pair (map (value_in bits) (nexts pair)) inputs

-- after a row that may split comes one that may split, whatever the inputs
abbrev pub RowsGoOn : Type 0
RowsGoOn = (pair : Pair) (k : ℕ) (bits inputs : List Bool) → IsSoundPair pair → MaySplit pair k bits → IsInputRow pair inputs → MaySplit pair k (row_after pair bits inputs)

-- every frame from frame k on may split, of a path in whose first k frames the greatest correspondence holds
abbrev pub LaterRowsMaySplit : Type 0
LaterRowsMaySplit = (pair : Pair) (k : ℕ) (path : Path) → IsPath pair path → ((t : ℕ) → t < k → AgreesWithGreatest pair k (row_at pair path t)) → (t : ℕ) → k ≤ t → t < length path.inputs → MaySplit pair k (row_at pair path t)
