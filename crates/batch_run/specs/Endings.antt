-- How a batch ends: with the answers of all pairs of its list, or with why there are none.
use Rattle.std.specs.Prelude.{◌≡◌, ℕ, ◌<◌, ◌≤◌, List, [], ◌∷◌, length, HoldsAt, false, Option, IsSomeAnd, Result, Ok, Err}
use Rattle.aiger_codec.specs.Lines.{fault}
use Rattle.aiger_codec.specs.declared.fault.NetKind.TheVariants as kinds
use Rattle.pair_files.specs.declared.fault.Side.{Side}
use Rattle.pair_files.specs.declared.fault.Unpaired.TheVariants as unpaired
use Rattle.pair_files.specs.Pairs.{IsLoadFailed, IsNoPair}
use Rattle.sec_base.specs.declared.fault.LoadFault.{LoadFault}
use Rattle.sec_base.specs.declared.fault.LoadFault.TheVariants as loads
use Rattle.pair_list.specs.declared.fault.ListError.{ListError}
use Rattle.pair_list.specs.declared.fault.ListError.TheVariants as errors
use Rattle.pair_list.specs.KindNames.{name_of}
use Rattle.pair_list.specs.Readings.{Reads}
use Rattle.run_texts.specs.Texts.{fault_text, line_fault_text, memory_text, read_failed_text}
use Rattle.run_texts.specs.Told.{name_of_side}
use Rattle.batch_run.specs.declared.ending.Unanswered.{Unanswered}
use Rattle.batch_run.specs.declared.ending.Unanswered.TheVariants as unanswered
use Rattle.batch_run.specs.declared.batch.Batch.{Batch}
use Rattle.batch_run.specs.declared.loading.Stop.{Stop}
use Rattle.batch_run.specs.Loads.{AreAnswerable}
use Rattle.batch_run.specs.Answers.{IsBatch}

-- no list is longer
abbrev pub longest_list : ℕ
longest_list = 67108864

-- a file of this pair of the list couldn't be loaded, and the pairs before it were answerable
pub record IsFileFailed (file : List ℕ → Option (List ℕ)) (list : List (List ℕ × List ℕ)) (names : List ℕ × List ℕ) (side : Side) : Type 0 where
  pub at : ℕ
  pub within : at < length list
  pub names_are : HoldsAt (λ (n : List ℕ × List ℕ). n ≡ names) list at
  pub before : AreAnswerable file list at
  pub none : IsNoPair false (file names.0) (file names.1) (unpaired.LoadFailed side)

-- how the batch of a list ends that was read
abbrev pub EndsList : (List ℕ → Option (List ℕ)) → ℕ → List (List ℕ × List ℕ) → Result Batch Unanswered → Type 0
EndsList file k list (Ok b) = IsBatch file k list b.text.items b.status
EndsList file k list (Err (unanswered.FileFailed names side)) = IsFileFailed file list names side
EndsList file k list (Err unanswered.Memory) = Unit {0}
EndsList file k list (Err unanswered.ListFailed) = ⊥
EndsList file k list (Err unanswered.ListTooLong) = ⊥
EndsList file k list (Err (unanswered.ListRefused f)) = ⊥

-- and of these bytes
abbrev pub EndsBytes : (List ℕ → Option (List ℕ)) → ℕ → List ℕ → Result Batch Unanswered → Type 0
EndsBytes file k bytes (Ok b) = (list : List (List ℕ × List ℕ)) × Reads bytes (Ok list) × EndsList file k list (Ok b)
EndsBytes file k bytes (Err (unanswered.ListRefused f)) = Reads bytes (Err f)
EndsBytes file k bytes (Err (unanswered.FileFailed names side)) = (list : List (List ℕ × List ℕ)) × Reads bytes (Ok list) × EndsList file k list (Err (unanswered.FileFailed names side))
EndsBytes file k bytes (Err unanswered.Memory) = Unit {0}
EndsBytes file k bytes (Err unanswered.ListFailed) = ⊥
EndsBytes file k bytes (Err unanswered.ListTooLong) = ⊥

-- and of a list in a file
abbrev pub IsBatchEnding : (List ℕ → Option (List ℕ)) → ℕ → List ℕ → Result Batch Unanswered → Type 0
IsBatchEnding file k list (Err unanswered.Memory) = Unit {0}
IsBatchEnding file k list (Err unanswered.ListFailed) = Unit {0}
IsBatchEnding file k list (Err unanswered.ListTooLong) = IsSomeAnd (file list) (λ bytes. longest_list < length bytes)
IsBatchEnding file k list (Err (unanswered.ListRefused f)) = IsSomeAnd (file list) (λ bytes. (length bytes ≤ longest_list) × EndsBytes file k bytes (Err (unanswered.ListRefused f)))
IsBatchEnding file k list (Err (unanswered.FileFailed names side)) = IsSomeAnd (file list) (λ bytes. (length bytes ≤ longest_list) × EndsBytes file k bytes (Err (unanswered.FileFailed names side)))
IsBatchEnding file k list (Ok b) = IsSomeAnd (file list) (λ bytes. (length bytes ≤ longest_list) × EndsBytes file k bytes (Ok b))

-- the list was read
abbrev pub IsListRead : Result Batch Unanswered → Type 0
IsListRead (Ok b) = Unit {0}
IsListRead (Err unanswered.Memory) = Unit {0}
IsListRead (Err (unanswered.FileFailed names side)) = Unit {0}
IsListRead (Err (unanswered.ListRefused f)) = Unit {0}
IsListRead (Err unanswered.ListFailed) = ⊥
IsListRead (Err unanswered.ListTooLong) = ⊥

-- why a batch answers nothing whose list wasn't loaded
abbrev pub unanswered_by : LoadFault → Unanswered
unanswered_by loads.Failed = unanswered.ListFailed
unanswered_by loads.TooLong = unanswered.ListTooLong
unanswered_by loads.Memory = unanswered.Memory

-- and whose list wasn't read
abbrev pub unanswered_of : ListError → Unanswered
unanswered_of (errors.Refused f) = unanswered.ListRefused f
unanswered_of errors.Memory = unanswered.Memory

-- a load failed
abbrev pub IsFailed : Unanswered → Type 0
IsFailed unanswered.ListFailed = Unit {0}
IsFailed (unanswered.FileFailed names side) = Unit {0}
IsFailed unanswered.Memory = ⊥
IsFailed unanswered.ListTooLong = ⊥
IsFailed (unanswered.ListRefused f) = ⊥

-- the names whose loads failed
abbrev pub failed_of : List ℕ → Unanswered → List (List ℕ)
failed_of list unanswered.ListFailed = list ∷ []
failed_of list (unanswered.FileFailed names side) = name_of_side names.0 names.1 side ∷ []
failed_of list unanswered.Memory = []
failed_of list unanswered.ListTooLong = []
failed_of list (unanswered.ListRefused f) = []

abbrev pub failed_in_batch : List ℕ → Result Batch Unanswered → List (List ℕ)
failed_in_batch list (Ok b) = []
failed_in_batch list (Err u) = failed_of list u

-- the status of a batch that answers nothing, and what is told of it
abbrev pub unanswered_status : Unanswered → ℕ
unanswered_status unanswered.Memory = 7
unanswered_status unanswered.ListFailed = 5
unanswered_status unanswered.ListTooLong = 4
unanswered_status (unanswered.ListRefused f) = 4
unanswered_status (unanswered.FileFailed names side) = 5

abbrev pub unanswered_text : List ℕ → Unanswered → List ℕ
unanswered_text list unanswered.Memory = memory_text
unanswered_text list unanswered.ListFailed = read_failed_text list
unanswered_text list unanswered.ListTooLong = fault_text list (fault kinds.Limit longest_list)
unanswered_text list (unanswered.ListRefused f) = line_fault_text list (name_of f.kind) f.line
unanswered_text list (unanswered.FileFailed names side) = read_failed_text (name_of_side names.0 names.1 side)

-- loading stopped at this place of the list: a file of the pair failed, or else memory
abbrev pub IsStopOf : List (List ℕ × List ℕ) → Stop → Unanswered → Type 0
IsStopOf list s (unanswered.FileFailed names side) = (s.why ≡ unpaired.LoadFailed side) × HoldsAt (λ (n : List ℕ × List ℕ). n ≡ names) list s.at
IsStopOf list s unanswered.Memory = IsLoadFailed s.why → ⊥
IsStopOf list s unanswered.ListFailed = ⊥
IsStopOf list s unanswered.ListTooLong = ⊥
IsStopOf list s (unanswered.ListRefused f) = ⊥
