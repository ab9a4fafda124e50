-- What a run of words that mean a command says, for each kind of status: the command, the files, and what was written.
use Rattle.std.specs.Prelude.{◌≡◌, ℕ, ◌⊎◌, Bool, IsTrue, List, Option, None, Some, Ok, Err}
use Rattle.sec_base.specs.Faults.{appended}
use Rattle.refine_board.specs.Running.{Written}
use Rattle.sec_cli.specs.declared.ending.Reply.{Reply}
use Rattle.sec_cli.specs.declared.ending.Refusal.{Refusal}
use Rattle.command_line.specs.Asked.{Asked, ForCheck, ForReplay, ForVerify, ForDemo, ForClimb, ForReduce, ForBatch}
use Rattle.sec_cli.specs.Endings.{Ending, IsCheckEnding, IsReplayEnding, IsVerifyEnding, IsDemoEnding, IsClimbEnding, IsReduceEnding, IsBatchEnded, HasJournal, journal_of, left_name, right_name, third_name, failed_names}
use Rattle.run_texts.specs.Told.{IsTold}
use Rattle.sec_cli.specs.Reports.{World, IsStored, IsUnprinted, IsUnstoredAs, store_name, refusal_status, told_of}

-- how the command ended over these files, where the shelf tells them; a demo reads none
abbrev pub Ended : Bool → (List ℕ → Option (List ℕ)) → Asked → Ending → Type 0
Ended tells file (ForCheck c) e = IsTrue tells → IsCheckEnding (file c.left) (file c.right) c.options e
Ended tells file (ForReplay c) e = IsTrue tells → IsReplayEnding c.tied (file c.left) (file c.right) (file c.trace) e
Ended tells file (ForVerify c) e = IsTrue tells → IsVerifyEnding c.tied (file c.left) (file c.right) (file c.cert) e
Ended tells file (ForDemo d) e = IsDemoEnding d e
Ended tells file (ForClimb c) e = IsTrue tells → IsClimbEnding (file c.left) (file c.right) c e
Ended tells file (ForReduce r) e = IsTrue tells → IsReduceEnding (file r.net) r e
Ended tells file (ForBatch b) e = IsTrue tells → IsBatchEnded file b e

-- the journal is that of the command's answer, and there is none where the command answered nothing
abbrev pub IsJournalOfEnding : Bool → (List ℕ → Option (List ℕ)) → Asked → Option Written → Type 0
IsJournalOfEnding tells file c journal = (e : Ending) × Ended tells file c e × (journal ≡ journal_of e)

-- the journal of words is that of an ending of the command that they mean, and there is none where they mean none
abbrev pub IsJournalOfWords : Bool → (List ℕ → Option (List ℕ)) → Option Asked → Option Written → Type 0
IsJournalOfWords tells file None journal = journal ≡ None
IsJournalOfWords tells file (Some c) journal = IsJournalOfEnding tells file c journal

-- the answer of the command was printed, its file stored where the command has a name for it, and its journal returned; and it is true of the files
pub record IsAnswered (tells : Bool) (c : Asked) (status : ℕ) (journal : Option Written) (before after : World) : Type 0 where
  pub answer : Reply
  pub ended : Ended tells before.files c (Ok answer)
  pub status_is : answer.status ≡ status
  pub journal_is : answer.journal ≡ journal
  pub refined : HasJournal c status journal
  pub stored : IsStored tells before.files after.files (store_name c answer.status) answer.file.items
  pub printed : after.out ≡ appended before.out answer.text.items

-- a refusal was told, and is true of the files; nothing was printed
pub record IsRefused (tells : Bool) (c : Asked) (before after : World) : Type 0 where
  pub refusal : Refusal
  pub ended : Ended tells before.files c (Err refusal)
  pub status_is : refusal_status refusal ≡ 4
  pub told : IsTold before.err before.err_faults (told_of c refusal) after.err after.err_faults
  pub kept : after.out ≡ before.out

-- the command is a batch
abbrev pub IsBatchCommand : Asked → Type 0
IsBatchCommand (ForBatch b) = Unit {0}
IsBatchCommand (ForCheck c) = ⊥
IsBatchCommand (ForReplay c) = ⊥
IsBatchCommand (ForVerify c) = ⊥
IsBatchCommand (ForDemo d) = ⊥
IsBatchCommand (ForClimb c) = ⊥
IsBatchCommand (ForReduce r) = ⊥

-- a batch was answered, with a pair that has no product; nothing was told
pub record IsPartlyRefused (tells : Bool) (c : Asked) (journal : Option Written) (before after : World) : Type 0 where
  pub batch : IsBatchCommand c
  pub answered : IsAnswered tells c 4 journal before after
  pub quiet : after.err ≡ before.err

-- a file could not be loaded: its name was added to those whose loads failed, and told; what stands before it in the order was accepted
pub record IsUnread (tells : Bool) (c : Asked) (names names_after : Option (List (List ℕ))) (before after : World) : Type 0 where
  pub refusal : Refusal
  pub ended : Ended tells before.files c (Err refusal)
  pub status_is : refusal_status refusal ≡ 5
  pub name : names_after ≡ appended names (failed_names (left_name c) (right_name c) (third_name c) (Err refusal))
  pub told : IsTold before.err before.err_faults (told_of c refusal) after.err after.err_faults

-- the answer of the command could not be stored, or not be printed; its journal is returned
pub record IsUnwritten (tells : Bool) (c : Asked) (journal : Option Written) (before after : World) : Type 0 where
  pub answer : Reply
  pub ended : Ended tells before.files c (Ok answer)
  pub journal_is : answer.journal ≡ journal
  pub refined : HasJournal c answer.status journal
  pub failed : IsUnprinted tells (store_name c answer.status) answer before after ⊎ IsUnstoredAs (store_name c answer.status) before after

-- with status 4 a command is refused; a batch may be answered too
abbrev pub IsRefusedOrBatch : Bool → Asked → Option Written → World → World → Type 0
IsRefusedOrBatch tells c journal before after = IsRefused tells c before after ⊎ IsPartlyRefused tells c journal before after
