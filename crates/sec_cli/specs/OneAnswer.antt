-- With `--least`, and without `--stats`, a check and a climb have one answer: what is printed, and the trace of a difference, are one function of the
-- files and the words, however many workers there are and however their steps fall.
use Rattle.std.specs.Prelude.{◌≡◌, ℕ, Bool, IsTrue, true, false, List, Option, Ok}
use Rattle.sec_base.specs.Faults.{appended}
use Rattle.command_line.specs.Asked.{Asked, OptionsAsked, ClimbAsked, ForCheck, ForReplay, ForVerify, ForDemo, ForClimb, ForReduce, ForBatch}
use Rattle.sec_cli.specs.declared.ending.Reply.{Reply}
use Rattle.sec_cli.specs.Endings.{IsCheckEnding, IsClimbEnding}
use Rattle.sec_cli.specs.Reports.{World, IsStored}

-- two answers of a check are the same: their statuses and texts, and of differences the traces
pub record AreSame (a b : Reply) : Type 0 where
  pub status : a.status ≡ b.status
  pub text : a.text.items ≡ b.text.items
  pub trace : a.status ≡ 1 → a.file.items ≡ b.file.items

-- all answers to the same files and words are
abbrev pub OneAnswer : Type 0
OneAnswer = (left right : Option (List ℕ)) (c : OptionsAsked) (a b : Reply) → c.least ≡ true → c.stats ≡ false → IsCheckEnding left right c (Ok a) → IsCheckEnding left right c (Ok b) → AreSame a b

-- and those of a climb
abbrev pub OneClimb : Type 0
OneClimb = (left right : Option (List ℕ)) (c : ClimbAsked) (a b : Reply) → c.least ≡ true → IsClimbEnding left right c (Ok a) → IsClimbEnding left right c (Ok b) → AreSame a b

-- this status, what was printed and the trace that was stored are those of each answer to the files and the words
pub record IsOf (tells : Bool) (c : OptionsAsked) (status : ℕ) (before after : World) (answer : Reply) : Type 0 where
  pub status_is : answer.status ≡ status
  pub printed : after.out ≡ appended before.out answer.text.items
  pub stored : status ≡ 1 → IsStored tells before.files after.files c.trace answer.file.items

-- the same of a climb, which stores nothing
pub record IsOfClimb (status : ℕ) (before after : World) (answer : Reply) : Type 0 where
  pub status_is : answer.status ≡ status
  pub printed : after.out ≡ appended before.out answer.text.items

abbrev pub IsOneAnswer : Bool → Asked → ℕ → World → World → Type 0
IsOneAnswer tells (ForCheck c) status before after =
    IsTrue tells → c.options.least ≡ true → c.options.stats ≡ false → (answer : Reply) → IsCheckEnding (before.files c.left) (before.files c.right) c.options (Ok answer) → IsOf tells c.options status before after answer
IsOneAnswer tells (ForReplay c) status before after = Unit {0}
IsOneAnswer tells (ForVerify c) status before after = Unit {0}
IsOneAnswer tells (ForDemo d) status before after = Unit {0}
IsOneAnswer tells (ForClimb c) status before after =
    IsTrue tells → c.least ≡ true → (answer : Reply) → IsClimbEnding (before.files c.left) (before.files c.right) c (Ok answer) → IsOfClimb status before after answer
IsOneAnswer tells (ForReduce r) status before after = Unit {0}
IsOneAnswer tells (ForBatch b) status before after = Unit {0}
