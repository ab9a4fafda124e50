-- What is told where there is no pair, and its status.
use Rattle.std.specs.Prelude.{◌≡◌, ℕ, ◌⊎◌, List, Option, codes}
use Rattle.sec_base.specs.Faults.{Rose, appended, IsCutShort}
use Rattle.pair_files.specs.declared.fault.Side.{Side}
use Rattle.pair_files.specs.declared.fault.Side.TheVariants.{Left, Right}
use Rattle.pair_files.specs.declared.fault.Unpaired.{Unpaired}
use Rattle.pair_files.specs.declared.fault.Unpaired.TheVariants as unpaired
use Rattle.run_texts.specs.Texts.{fault_text, differ_text, read_failed_text, memory_text}

-- the sink took the text, or failed and took a part from its front
abbrev pub IsTold : Option (List ℕ) → ℕ → List ℕ → Option (List ℕ) → ℕ → Type 0
IsTold before faults text after now = (after ≡ appended before text) ⊎ (Rose faults now × IsCutShort before text after)

abbrev pub name_of_side : List ℕ → List ℕ → Side → List ℕ
name_of_side left right Left = left
name_of_side left right Right = right

-- the status where there is no pair, and what is told
abbrev pub unpaired_status : Unpaired → ℕ
unpaired_status unpaired.Memory = 7
unpaired_status (unpaired.LoadFailed side) = 5
unpaired_status (unpaired.Refused side f) = 4
unpaired_status (unpaired.InputsDiffer a b) = 4
unpaired_status (unpaired.OutputsDiffer a b) = 4
unpaired_status (unpaired.FreeDiffer a b) = 4

abbrev pub unpaired_text : List ℕ → List ℕ → Unpaired → List ℕ
unpaired_text left right unpaired.Memory = memory_text
unpaired_text left right (unpaired.LoadFailed side) = read_failed_text (name_of_side left right side)
unpaired_text left right (unpaired.Refused side f) = fault_text (name_of_side left right side) f
unpaired_text left right (unpaired.InputsDiffer a b) = differ_text (codes "inputs") a b
unpaired_text left right (unpaired.OutputsDiffer a b) = differ_text (codes "outputs") a b
unpaired_text left right (unpaired.FreeDiffer a b) = differ_text (codes "free latches") a b
