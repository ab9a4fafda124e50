-- What a run writes, and the status that it ends with.
use Rattle.std.specs.Prelude.{◌≡◌, ◌≢◌, ℕ, ◌==◌, ◌⊎◌, if◌then◌else◌, Bool, IsTrue, List, Option, None, Some, Ok, Err}
use Rattle.sec_base.specs.Faults.{Rose, appended, IsCutShort}
use Rattle.aiger_codec.specs.Lines.{fault}
use Rattle.aiger_codec.specs.declared.fault.NetKind.TheVariants as kinds
use Rattle.sec_cli.specs.declared.ending.Reply.{Reply}
use Rattle.sec_cli.specs.declared.ending.Refusal.{Refusal}
use Rattle.sec_cli.specs.declared.ending.Refusal.TheVariants as refusals
use Rattle.command_line.specs.Asked.{Asked, ForCheck, ForReplay, ForVerify, ForDemo, ForClimb, ForReduce, ForBatch}
use Rattle.sec_cli.specs.Endings.{Ending, longest_third, left_name, right_name, third_name}
use Rattle.batch_run.specs.Endings.{unanswered_status, unanswered_text}
use Rattle.run_texts.specs.Texts.{fault_text, read_failed_text, store_failed_text, write_failed_text, memory_text}
use Rattle.run_texts.specs.Told.{IsTold, unpaired_status, unpaired_text}
use Rattle.sec_cli.specs.Texts.{trace_fault_text, cert_fault_text}

-- the status of a refusal, and what is told of it
abbrev pub refusal_status : Refusal → ℕ
refusal_status refusals.Memory = 7
refusal_status (refusals.Unpaired u) = unpaired_status u
refusal_status refusals.ThirdFailed = 5
refusal_status refusals.ThirdTooLong = 4
refusal_status (refusals.TraceRefused f) = 4
refusal_status (refusals.CertRefused f) = 4
refusal_status (refusals.Unanswered u) = unanswered_status u

abbrev pub refusal_text : List ℕ → List ℕ → List ℕ → Refusal → List ℕ
refusal_text left right trace refusals.Memory = memory_text
refusal_text left right trace (refusals.Unpaired u) = unpaired_text left right u
refusal_text left right trace refusals.ThirdFailed = read_failed_text trace
refusal_text left right trace refusals.ThirdTooLong = fault_text trace (fault kinds.Limit longest_third)
refusal_text left right trace (refusals.TraceRefused f) = trace_fault_text trace f
refusal_text left right trace (refusals.CertRefused f) = cert_fault_text trace f
refusal_text left right trace (refusals.Unanswered u) = unanswered_text trace u

abbrev pub told_of : Asked → Refusal → List ℕ
told_of c r = refusal_text (left_name c) (right_name c) (third_name c) r

-- the name under which the command stores the file of an answer of this status, if any
abbrev pub store_name : Asked → ℕ → Option (List ℕ)
store_name (ForCheck c) status = if status == 1 then c.options.trace else if status == 0 then c.options.cert else None
store_name (ForReplay c) status = None
store_name (ForVerify c) status = None
store_name (ForDemo d) status = None
store_name (ForClimb c) status = None
store_name (ForReduce r) status = if status == 0 then Some r.out else None
store_name (ForBatch b) status = None

-- all files but this one stay
abbrev pub OthersStay : (List ℕ → Option (List ℕ)) → (List ℕ → Option (List ℕ)) → List ℕ → Type 0
OthersStay before after name = (other : List ℕ) → other ≢ name → after other ≡ before other

-- the text is stored under the name, where there is one, and all other files stay
abbrev pub IsStored : Bool → (List ℕ → Option (List ℕ)) → (List ℕ → Option (List ℕ)) → Option (List ℕ) → List ℕ → Type 0
IsStored tells before after None text = after ≡ before
IsStored tells before after (Some name) text = (IsTrue tells → after name ≡ Some text) × OthersStay before after name

-- files, sinks and counts of faults, as they stand
pub record World : Type 0 where
  pub files : List ℕ → Option (List ℕ)
  pub store_faults : ℕ
  pub out : Option (List ℕ)
  pub out_faults : ℕ
  pub err : Option (List ℕ)
  pub err_faults : ℕ

-- the world of these, in the order of its fields
abbrev pub world_of : (List ℕ → Option (List ℕ)) → ℕ → Option (List ℕ) → ℕ → Option (List ℕ) → ℕ → World
world_of files store_faults out out_faults err err_faults = record { files = files; store_faults = store_faults; out = out; out_faults = out_faults; err = err; err_faults = err_faults }

abbrev pub IsToldIn : World → World → List ℕ → Type 0
IsToldIn before after text = IsTold before.err before.err_faults text after.err after.err_faults

-- the file of an answer was stored, where it has a name, and its text printed
pub record IsPrinted (tells : Bool) (name : Option (List ℕ)) (a : Reply) (before after : World) : Type 0 where
  pub stored : IsStored tells before.files after.files name a.file.items
  pub printed : after.out ≡ appended before.out a.text.items
  pub quiet : after.err ≡ before.err

-- it was stored, and its printing failed
pub record IsUnprinted (tells : Bool) (name : Option (List ℕ)) (a : Reply) (before after : World) : Type 0 where
  pub stored : IsStored tells before.files after.files name a.file.items
  pub rose : Rose before.out_faults after.out_faults
  pub cut : IsCutShort before.out a.text.items after.out
  pub told : IsToldIn before after write_failed_text

-- its storing failed, and nothing was printed
pub record IsUnstored (name : List ℕ) (before after : World) : Type 0 where
  pub others : OthersStay before.files after.files name
  pub rose : Rose before.store_faults after.store_faults
  pub kept : after.out ≡ before.out
  pub told : IsToldIn before after (store_failed_text name)

-- nothing was stored or printed, and this was told
pub record IsOnlyTold (text : List ℕ) (before after : World) : Type 0 where
  pub files : after.files ≡ before.files
  pub kept : after.out ≡ before.out
  pub told : IsToldIn before after text

abbrev pub IsUnstoredAs : Option (List ℕ) → World → World → Type 0
IsUnstoredAs None before after = ⊥
IsUnstoredAs (Some name) before after = IsUnstored name before after

-- what became of an answer: it was printed, or 6: storing or printing failed, or 7: there was no memory to store it
abbrev pub IsDelivery : Bool → Option (List ℕ) → Reply → World → World → ℕ → Type 0
IsDelivery tells name a before after status =
    ((status ≡ a.status) × IsPrinted tells name a before after)
    ⊎ ((status ≡ 6) × (IsUnprinted tells name a before after ⊎ IsUnstoredAs name before after))
    ⊎ ((status ≡ 7) × IsOnlyTold memory_text before after)

-- what became of an ending
abbrev pub IsReport : Bool → Asked → Ending → World → World → ℕ → Type 0
IsReport tells c (Ok a) before after status = IsDelivery tells (store_name c a.status) a before after status
IsReport tells c (Err r) before after status = (status ≡ refusal_status r) × IsOnlyTold (told_of c r) before after
