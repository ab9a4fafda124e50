-- Rows of a frame, and the bits of their leaves: the inputs and latches, by which the gates are determined. (Van Eijk, IEEE TCAD
-- 19(7), 2000: the signals of a product machine are functions of its inputs and its state.)
use Rattle.std.specs.Prelude.{◌≡◌, ℕ, ◌+◌, List, [], ◌∷◌, ◌++◌, length, drop, map, count_by, Bool, false, true, ◌&&◌, if◌then◌else◌}
use Rattle.circ_model.specs.Meaning.{bit, literal_value}
use Rattle.product_machine.specs.declared.cell.Cell.{Cell}
use Rattle.product_machine.specs.declared.cell.Cell.TheVariants.{Low, Given, Held, Product}
use Rattle.product_machine.specs.Cells.{EachAt}

-- a leaf is an input or a latch
abbrev pub is_leaf : Cell → Bool
is_leaf Low = false
is_leaf Given = true
is_leaf (Held start next) = true
is_leaf (Product a b) = false

abbrev pub leaf_count : List Cell → ℕ
leaf_count cs = count_by is_leaf cs

-- the places of the leaves, where the first cell stands at place p
unfoldable pub leaf_places : ℕ → List Cell → List ℕ
leaf_places p [] = []
leaf_places p (c ∷ cs) = if is_leaf c then p ∷ leaf_places (p + 1) cs else leaf_places (p + 1) cs

-- the bits of a row's leaves in the order of their places
abbrev pub leaves_in : List Cell → List Bool → List Bool
leaves_in cs row = map (bit row) (leaf_places 0 cs)

-- a row obeys a cell at its place, and a leaf has either bit
abbrev pub ObeysAt : List Bool → ℕ → Cell → Type 0
ObeysAt row p Low = bit row p ≡ false
ObeysAt row p Given = Unit {0}
ObeysAt row p (Held start next) = Unit {0}
ObeysAt row p (Product a b) = bit row p ≡ (literal_value (bit row) a && literal_value (bit row) b)

-- a bit for each cell, which obeys it
pub record IsRowOf (cs : List Cell) (row : List Bool) : Type 0 where
  pub size : length row ≡ length cs
  pub obeys : EachAt (ObeysAt row) 0 cs

-- the bit of a cell, from the row of the places before it and from its leaf's bit, if it is a leaf
abbrev pub cell_value : List Bool → Bool → Cell → Bool
cell_value row leaf Low = false
cell_value row leaf Given = leaf
cell_value row leaf (Held start next) = leaf
cell_value row leaf (Product a b) = literal_value (bit row) a && literal_value (bit row) b

-- the leaves that are left after a cell: a leaf takes the first
abbrev pub leaves_after : Cell → List Bool → List Bool
leaves_after c leaves = if is_leaf c then drop 1 leaves else leaves

-- the row so far, and then the bit of each cell that is left, from the leaves that are left
unfoldable pub row_on : List Bool → List Bool → List Cell → List Bool
row_on row leaves [] = row
row_on row leaves (c ∷ cs) = row_on (row ++ (cell_value row (bit leaves 0) c ∷ [])) (leaves_after c leaves) cs

-- the row that leaves determine, place by place
abbrev pub row_by : List Cell → List Bool → List Bool
row_by cs leaves = row_on [] leaves cs
