-- What the entries of a journal do to the classes.
use Rattle.std.specs.Prelude.{◌≡◌, ℕ, List, length}
use Rattle.circ_model.specs.Meaning.{Pair}
use Rattle.class_partition.specs.Classes.{Classes, split_of}
use Rattle.refine_board.specs.declared.journal.Step.{Step}
use Rattle.refine_board.specs.declared.journal.Step.TheVariants.{Split}
use Rattle.refine_board.specs.declared.journal.Entry.{Entry}
use Rattle.refine_board.specs.States.{State}
use Rattle.refine_board.specs.Schedules.{Leads}

-- a split's row has a bit for each place
abbrev pub HasRow : ℕ → Step → Type 0
HasRow places (Split bits n) = length bits ≡ places
HasRow places s = Unit {0}

-- a split splits the classes; the rest leaves them
abbrev pub replayed : Step → Classes → Classes
replayed (Split bits n) classes = split_of (length classes.least) classes bits
replayed s classes = classes

-- the rest of a journal leads from a board with these classes
abbrev pub IsReplayed : Pair → ℕ → Classes → List Entry → State → Type 0
IsReplayed pair k classes rest state = (middle : State) × (middle.classes ≡ classes) × Leads pair k middle rest state
