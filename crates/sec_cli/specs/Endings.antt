-- How a run ends, before anything of it is written.
use Rattle.std.specs.Prelude.{◌≡◌, ◌≢◌, ℕ, ◌<◌, ◌≤◌, ◌⊎◌, List, [], ◌∷◌, length, Bool, IsTrue, false, Option, None, is_some, IsSomeAnd, Result, Ok, Err}
use Rattle.circ_model.specs.Netlist.{Netlist}
use Rattle.circ_model.specs.Meaning.{Pair}
use Rattle.corr_certificate.specs.Certificate.{IsChecked}
use Rattle.corr_certificate.specs.declared.fault.Checked.TheVariants.{No}
use Rattle.trace_witness.specs.declared.fault.TraceError.{TraceError}
use Rattle.trace_witness.specs.declared.fault.TraceError.TheVariants as errors
use Rattle.trace_witness.specs.Lines.{lines_of}
use Rattle.trace_witness.specs.Texts.{trace_of}
use Rattle.refine_board.specs.Running.{Written}
use Rattle.sec_cli.specs.Answers.{IsCheckAnswer, IsReplayAnswer, IsVerifyAnswer, IsDemoAnswer, is_refined}
use Rattle.sec_cli.specs.Climbs.{IsClimbAnswer}
use Rattle.sec_cli.specs.Reductions.{IsReduceAnswer}
use Rattle.command_line.specs.Asked.{Asked, ForCheck, ForReplay, ForVerify, ForDemo, ForClimb, ForReduce, ForBatch, BatchAsked, OptionsAsked, ClimbAsked, ReduceAsked}
use Rattle.command_line.specs.declared.command.Demo.{Demo}
use Rattle.sec_cli.specs.declared.ending.Reply.{Reply}
use Rattle.sec_cli.specs.declared.ending.Refusal.{Refusal}
use Rattle.sec_cli.specs.declared.ending.Refusal.TheVariants as refusals
use Rattle.batch_run.specs.Endings.{IsBatchEnding, IsFailed, failed_of}
use Rattle.pair_files.specs.declared.fault.Side.TheVariants.{Left, Right}
use Rattle.pair_files.specs.declared.fault.Unpaired.{Unpaired}
use Rattle.pair_files.specs.declared.fault.Unpaired.TheVariants as unpaired
use Rattle.pair_files.specs.Files.{IsAccepted, IsRefused}
use Rattle.pair_files.specs.Pairs.{ArePair, IsNoPair, IsLoadFailed}
use Rattle.pair_files.specs.Loads.{failed_side}

-- how a run ends, before anything of it is written: an answer, or a refusal
abbrev pub Ending : Type 0
Ending = Result Reply Refusal

-- no trace's or certificate's file is longer
abbrev pub longest_third : ℕ
longest_third = 1099511627776

-- the names of a command's files
abbrev pub left_name : Asked → List ℕ
left_name (ForCheck c) = c.left
left_name (ForReplay c) = c.left
left_name (ForVerify c) = c.left
left_name (ForDemo d) = []
left_name (ForClimb c) = c.left
left_name (ForReduce r) = r.net
left_name (ForBatch b) = []

abbrev pub right_name : Asked → List ℕ
right_name (ForCheck c) = c.right
right_name (ForReplay c) = c.right
right_name (ForVerify c) = c.right
right_name (ForDemo d) = []
right_name (ForClimb c) = c.right
right_name (ForReduce r) = []
right_name (ForBatch b) = []

abbrev pub third_name : Asked → List ℕ
third_name (ForCheck c) = []
third_name (ForReplay c) = c.trace
third_name (ForVerify c) = c.cert
third_name (ForDemo d) = []
third_name (ForClimb c) = []
third_name (ForReduce r) = []
third_name (ForBatch b) = b.list

-- how the check of two files ends
abbrev pub IsCheckEnding : Option (List ℕ) → Option (List ℕ) → OptionsAsked → Ending → Type 0
IsCheckEnding left right c (Err refusals.Memory) = Unit {0}
IsCheckEnding left right c (Err (refusals.Unpaired u)) = IsNoPair c.tied left right u
IsCheckEnding left right c (Ok a) = (pair : Pair) × ArePair c.tied left right pair × IsCheckAnswer pair c a
IsCheckEnding left right c (Err refusals.ThirdFailed) = ⊥
IsCheckEnding left right c (Err refusals.ThirdTooLong) = ⊥
IsCheckEnding left right c (Err (refusals.TraceRefused f)) = ⊥
IsCheckEnding left right c (Err (refusals.CertRefused f)) = ⊥
IsCheckEnding left right c (Err (refusals.Unanswered u)) = ⊥

-- how a climb over two files ends
abbrev pub IsClimbEnding : Option (List ℕ) → Option (List ℕ) → ClimbAsked → Ending → Type 0
IsClimbEnding left right c (Err refusals.Memory) = Unit {0}
IsClimbEnding left right c (Err (refusals.Unpaired u)) = IsNoPair false left right u
IsClimbEnding left right c (Ok a) = (pair : Pair) × ArePair false left right pair × IsClimbAnswer pair c a
IsClimbEnding left right c (Err refusals.ThirdFailed) = ⊥
IsClimbEnding left right c (Err refusals.ThirdTooLong) = ⊥
IsClimbEnding left right c (Err (refusals.TraceRefused f)) = ⊥
IsClimbEnding left right c (Err (refusals.CertRefused f)) = ⊥
IsClimbEnding left right c (Err (refusals.Unanswered u)) = ⊥

-- why there is no netlist of a file
abbrev pub IsNoNetlist : Option (List ℕ) → Unpaired → Type 0
IsNoNetlist file unpaired.Memory = Unit {0}
IsNoNetlist file (unpaired.LoadFailed Left) = Unit {0}
IsNoNetlist file (unpaired.Refused Left f) = IsRefused file f
IsNoNetlist file (unpaired.LoadFailed Right) = ⊥
IsNoNetlist file (unpaired.Refused Right f) = ⊥
IsNoNetlist file (unpaired.InputsDiffer a b) = ⊥
IsNoNetlist file (unpaired.OutputsDiffer a b) = ⊥
IsNoNetlist file (unpaired.FreeDiffer a b) = ⊥

-- how the reduction of a file's netlist ends
abbrev pub IsReduceEnding : Option (List ℕ) → ReduceAsked → Ending → Type 0
IsReduceEnding file r (Err refusals.Memory) = Unit {0}
IsReduceEnding file r (Err (refusals.Unpaired u)) = IsNoNetlist file u
IsReduceEnding file r (Ok a) = (net : Netlist) × IsAccepted file net × IsReduceAnswer net r a
IsReduceEnding file r (Err refusals.ThirdFailed) = ⊥
IsReduceEnding file r (Err refusals.ThirdTooLong) = ⊥
IsReduceEnding file r (Err (refusals.TraceRefused f)) = ⊥
IsReduceEnding file r (Err (refusals.CertRefused f)) = ⊥
IsReduceEnding file r (Err (refusals.Unanswered u)) = ⊥

-- and how the replay of a third file on them ends
abbrev pub IsReplayEnding : Bool → Option (List ℕ) → Option (List ℕ) → Option (List ℕ) → Ending → Type 0
IsReplayEnding tied left right trace (Err refusals.Memory) = Unit {0}
IsReplayEnding tied left right trace (Err (refusals.Unpaired u)) = IsNoPair tied left right u
IsReplayEnding tied left right trace (Err refusals.ThirdFailed) = (pair : Pair) × ArePair tied left right pair
IsReplayEnding tied left right trace (Err refusals.ThirdTooLong) = (pair : Pair) × ArePair tied left right pair × IsSomeAnd trace (λ bytes. longest_third < length bytes)
IsReplayEnding tied left right trace (Err (refusals.TraceRefused f)) = (pair : Pair) × ArePair tied left right pair × IsSomeAnd trace (λ bytes. (length bytes ≤ longest_third) × (trace_of pair (lines_of bytes) ≡ Err f))
IsReplayEnding tied left right trace (Err (refusals.CertRefused f)) = ⊥
IsReplayEnding tied left right trace (Err (refusals.Unanswered u)) = ⊥
IsReplayEnding tied left right trace (Ok a) = (pair : Pair) × ArePair tied left right pair × IsSomeAnd trace (λ bytes. (length bytes ≤ longest_third) × IsReplayAnswer pair bytes a)

-- and how the reading of a certificate for them ends
abbrev pub IsVerifyEnding : Bool → Option (List ℕ) → Option (List ℕ) → Option (List ℕ) → Ending → Type 0
IsVerifyEnding tied left right cert (Err refusals.Memory) = Unit {0}
IsVerifyEnding tied left right cert (Err (refusals.Unpaired u)) = IsNoPair tied left right u
IsVerifyEnding tied left right cert (Err refusals.ThirdFailed) = (pair : Pair) × ArePair tied left right pair
IsVerifyEnding tied left right cert (Err refusals.ThirdTooLong) = (pair : Pair) × ArePair tied left right pair × IsSomeAnd cert (λ bytes. longest_third < length bytes)
IsVerifyEnding tied left right cert (Err (refusals.TraceRefused f)) = ⊥
IsVerifyEnding tied left right cert (Err (refusals.CertRefused f)) = (pair : Pair) × ArePair tied left right pair × IsSomeAnd cert (λ bytes. (length bytes ≤ longest_third) × IsChecked pair bytes (No f))
IsVerifyEnding tied left right cert (Err (refusals.Unanswered u)) = ⊥
IsVerifyEnding tied left right cert (Ok a) = (pair : Pair) × ArePair tied left right pair × IsSomeAnd cert (λ bytes. (length bytes ≤ longest_third) × IsVerifyAnswer pair bytes a)

-- a demo has no files: it answers, but for want of memory
abbrev pub IsDemoEnding : Demo → Ending → Type 0
IsDemoEnding d (Err refusals.Memory) = Unit {0}
IsDemoEnding d (Ok a) = IsDemoAnswer d a
IsDemoEnding d (Err (refusals.Unpaired u)) = ⊥
IsDemoEnding d (Err refusals.ThirdFailed) = ⊥
IsDemoEnding d (Err refusals.ThirdTooLong) = ⊥
IsDemoEnding d (Err (refusals.TraceRefused f)) = ⊥
IsDemoEnding d (Err (refusals.CertRefused f)) = ⊥
IsDemoEnding d (Err (refusals.Unanswered u)) = ⊥

-- how a batch over these files ends: no file is stored, and there is no journal
abbrev pub IsBatchEnded : (List ℕ → Option (List ℕ)) → BatchAsked → Ending → Type 0
IsBatchEnded file b (Err refusals.Memory) = Unit {0}
IsBatchEnded file b (Err (refusals.Unanswered u)) = IsBatchEnding file b.k b.list (Err u)
IsBatchEnded file b (Ok a) = IsBatchEnding file b.k b.list (Ok (record { text = a.text; status = a.status }))
IsBatchEnded file b (Err (refusals.Unpaired u)) = ⊥
IsBatchEnded file b (Err refusals.ThirdFailed) = ⊥
IsBatchEnded file b (Err refusals.ThirdTooLong) = ⊥
IsBatchEnded file b (Err (refusals.TraceRefused f)) = ⊥
IsBatchEnded file b (Err (refusals.CertRefused f)) = ⊥

-- the status of a command's answer; a batch answers 4 where that is the greatest status of its pairs
abbrev pub IsAnswerStatus : Asked → ℕ → Type 0
IsAnswerStatus (ForBatch b) status = (status ≤ 2) ⊎ (status ≡ 4)
IsAnswerStatus (ForCheck c) status = status ≤ 2
IsAnswerStatus (ForReplay c) status = status ≤ 2
IsAnswerStatus (ForVerify c) status = status ≤ 2
IsAnswerStatus (ForDemo d) status = status ≤ 2
IsAnswerStatus (ForClimb c) status = status ≤ 2
IsAnswerStatus (ForReduce r) status = status ≤ 2

-- an answer of this status has a journal where it comes from a refinement; a climb may have refined before it came to a difference
abbrev pub HasJournal : Asked → ℕ → Option Written → Type 0
HasJournal (ForCheck c) status journal = is_some journal ≡ is_refined status
HasJournal (ForReplay c) status journal = journal ≡ None
HasJournal (ForVerify c) status journal = journal ≡ None
HasJournal (ForDemo d) status journal = is_some journal ≡ is_refined status
HasJournal (ForClimb c) status journal = status ≢ 1 → IsTrue (is_some journal)
HasJournal (ForReduce r) status journal = IsTrue (is_some journal)
HasJournal (ForBatch b) status journal = journal ≡ None

abbrev pub journal_of : Ending → Option Written
journal_of (Ok a) = a.journal
journal_of (Err r) = None

abbrev pub failed_names : List ℕ → List ℕ → List ℕ → Ending → List (List ℕ)
failed_names left right trace (Err (refusals.Unpaired u)) = failed_side left right u
failed_names left right trace (Err refusals.ThirdFailed) = trace ∷ []
failed_names left right trace (Err refusals.Memory) = []
failed_names left right trace (Err refusals.ThirdTooLong) = []
failed_names left right trace (Err (refusals.TraceRefused f)) = []
failed_names left right trace (Err (refusals.CertRefused f)) = []
failed_names left right trace (Err (refusals.Unanswered u)) = failed_of trace u
failed_names left right trace (Ok a) = []

-- a load failed
abbrev pub IsLoadEnding : Ending → Type 0
IsLoadEnding (Err (refusals.Unpaired u)) = IsLoadFailed u
IsLoadEnding (Err refusals.ThirdFailed) = Unit {0}
IsLoadEnding (Err refusals.Memory) = ⊥
IsLoadEnding (Err refusals.ThirdTooLong) = ⊥
IsLoadEnding (Err (refusals.TraceRefused f)) = ⊥
IsLoadEnding (Err (refusals.CertRefused f)) = ⊥
IsLoadEnding (Err (refusals.Unanswered u)) = IsFailed u
IsLoadEnding (Ok a) = ⊥

-- why a run answers nothing whose trace wasn't read
abbrev pub refusal_of : TraceError → Refusal
refusal_of (errors.Refused f) = refusals.TraceRefused f
refusal_of errors.Memory = refusals.Memory

-- how the replay of a trace's file on a pair ends
abbrev pub IsReplayedAs : Pair → List ℕ → Ending → Type 0
IsReplayedAs pair bytes (Err refusals.Memory) = Unit {0}
IsReplayedAs pair bytes (Err (refusals.TraceRefused f)) = trace_of pair (lines_of bytes) ≡ Err f
IsReplayedAs pair bytes (Ok a) = IsReplayAnswer pair bytes a
IsReplayedAs pair bytes (Err (refusals.Unpaired u)) = ⊥
IsReplayedAs pair bytes (Err refusals.ThirdFailed) = ⊥
IsReplayedAs pair bytes (Err refusals.ThirdTooLong) = ⊥
IsReplayedAs pair bytes (Err (refusals.CertRefused f)) = ⊥
IsReplayedAs pair bytes (Err (refusals.Unanswered u)) = ⊥

abbrev pub IsReplayed : Pair → Option (List ℕ) → Ending → Type 0
IsReplayed pair file (Err refusals.Memory) = Unit {0}
IsReplayed pair file (Err refusals.ThirdFailed) = Unit {0}
IsReplayed pair file (Err refusals.ThirdTooLong) = IsSomeAnd file (λ bytes. longest_third < length bytes)
IsReplayed pair file (Err (refusals.TraceRefused f)) = IsSomeAnd file (λ bytes. (length bytes ≤ longest_third) × (trace_of pair (lines_of bytes) ≡ Err f))
IsReplayed pair file (Ok a) = IsSomeAnd file (λ bytes. (length bytes ≤ longest_third) × IsReplayAnswer pair bytes a)
IsReplayed pair file (Err (refusals.CertRefused f)) = ⊥
IsReplayed pair file (Err (refusals.Unanswered u)) = ⊥
IsReplayed pair file (Err (refusals.Unpaired u)) = ⊥

-- and how the reading of a certificate's file for it ends
abbrev pub IsVerifiedAs : Pair → List ℕ → Ending → Type 0
IsVerifiedAs pair bytes (Err refusals.Memory) = Unit {0}
IsVerifiedAs pair bytes (Err (refusals.CertRefused f)) = IsChecked pair bytes (No f)
IsVerifiedAs pair bytes (Err (refusals.Unanswered u)) = ⊥
IsVerifiedAs pair bytes (Ok a) = IsVerifyAnswer pair bytes a
IsVerifiedAs pair bytes (Err (refusals.Unpaired u)) = ⊥
IsVerifiedAs pair bytes (Err refusals.ThirdFailed) = ⊥
IsVerifiedAs pair bytes (Err refusals.ThirdTooLong) = ⊥
IsVerifiedAs pair bytes (Err (refusals.TraceRefused f)) = ⊥

abbrev pub IsVerified : Pair → Option (List ℕ) → Ending → Type 0
IsVerified pair file (Err refusals.Memory) = Unit {0}
IsVerified pair file (Err refusals.ThirdFailed) = Unit {0}
IsVerified pair file (Err refusals.ThirdTooLong) = IsSomeAnd file (λ bytes. longest_third < length bytes)
IsVerified pair file (Err (refusals.CertRefused f)) = IsSomeAnd file (λ bytes. (length bytes ≤ longest_third) × IsChecked pair bytes (No f))
IsVerified pair file (Err (refusals.Unanswered u)) = ⊥
IsVerified pair file (Ok a) = IsSomeAnd file (λ bytes. (length bytes ≤ longest_third) × IsVerifyAnswer pair bytes a)
IsVerified pair file (Err (refusals.TraceRefused f)) = ⊥
IsVerified pair file (Err (refusals.Unpaired u)) = ⊥

-- the ending isn't that there is no pair, or no list of pairs
abbrev pub IsOfPair : Ending → Type 0
IsOfPair (Err (refusals.Unpaired u)) = ⊥
IsOfPair (Err refusals.Memory) = Unit {0}
IsOfPair (Err refusals.ThirdFailed) = Unit {0}
IsOfPair (Err refusals.ThirdTooLong) = Unit {0}
IsOfPair (Err (refusals.TraceRefused f)) = Unit {0}
IsOfPair (Err (refusals.CertRefused f)) = Unit {0}
IsOfPair (Err (refusals.Unanswered u)) = ⊥
IsOfPair (Ok a) = Unit {0}

-- why the file of a trace or a certificate gives no bytes, where its shelf tells its files or not
abbrev pub IsUnloaded : Bool → Option (List ℕ) → Refusal → Type 0
IsUnloaded tells file refusals.Memory = Unit {0}
IsUnloaded tells file refusals.ThirdFailed = Unit {0}
IsUnloaded tells file refusals.ThirdTooLong = IsTrue tells → IsSomeAnd file (λ bytes. longest_third < length bytes)
IsUnloaded tells file (refusals.Unpaired u) = ⊥
IsUnloaded tells file (refusals.TraceRefused f) = ⊥
IsUnloaded tells file (refusals.CertRefused f) = ⊥
IsUnloaded tells file (refusals.Unanswered u) = ⊥

-- the name of such a file, where its load failed
abbrev pub failed_third : {A : Type 0} → List ℕ → Result A Refusal → List (List ℕ)
failed_third trace (Err refusals.ThirdFailed) = trace ∷ []
failed_third trace (Err (refusals.Unpaired u)) = []
failed_third trace (Err refusals.Memory) = []
failed_third trace (Err refusals.ThirdTooLong) = []
failed_third trace (Err (refusals.TraceRefused f)) = []
failed_third trace (Err (refusals.CertRefused f)) = []
failed_third trace (Err (refusals.Unanswered u)) = []
failed_third trace (Ok a) = []
