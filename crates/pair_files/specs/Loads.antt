-- The names whose loads failed.
use Rattle.std.specs.Prelude.{List, [], ◌∷◌, ℕ, Result, Ok, Err}
use Rattle.circ_model.specs.Netlist.{Netlist}
use Rattle.circ_model.specs.Meaning.{Pair}
use Rattle.pair_files.specs.declared.fault.Side.TheVariants.{Left, Right}
use Rattle.pair_files.specs.declared.fault.Unpaired.{Unpaired}
use Rattle.pair_files.specs.declared.fault.Unpaired.TheVariants as unpaired
use Rattle.pair_files.specs.declared.fault.Unread.{Unread}
use Rattle.pair_files.specs.declared.fault.Unread.TheVariants as unread

-- of one file
abbrev pub failed_load : Result Netlist Unread → List ℕ → List (List ℕ)
failed_load (Err unread.Failed) name = name ∷ []
failed_load (Err (unread.Refused f)) name = []
failed_load (Err unread.Memory) name = []
failed_load (Ok net) name = []

-- of two, where there is no pair
abbrev pub failed_side : List ℕ → List ℕ → Unpaired → List (List ℕ)
failed_side left right (unpaired.LoadFailed Left) = left ∷ []
failed_side left right (unpaired.LoadFailed Right) = right ∷ []
failed_side left right unpaired.Memory = []
failed_side left right (unpaired.Refused side f) = []
failed_side left right (unpaired.InputsDiffer a b) = []
failed_side left right (unpaired.OutputsDiffer a b) = []
failed_side left right (unpaired.FreeDiffer a b) = []

abbrev pub failed_loads : List ℕ → List ℕ → Result Pair Unpaired → List (List ℕ)
failed_loads left right (Ok pair) = []
failed_loads left right (Err u) = failed_side left right u
