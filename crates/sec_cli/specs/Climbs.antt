-- The answer of a climb: that of the least depth of the induction that decides, or of the greatest that is tried.
use Rattle.std.specs.Prelude.{◌≡◌, ℕ, ◌<◌, ◌≤◌, ◌+◌, false, List, Option, None, Some}
use Rattle.circ_model.specs.Meaning.{Pair}
use Rattle.circ_model.specs.Verdict.{AgreeBelow, Undecided, IsVerdict}
use Rattle.refine_board.specs.Running.{Written}
use Rattle.command_line.specs.Asked.{OptionsAsked, ClimbAsked}
use Rattle.split_workers.specs.Refined.{IsEarlierFor}
use Rattle.sec_cli.specs.declared.checking.Reached.{Reached}
use Rattle.sec_cli.specs.declared.ending.Reply.{Reply}
use Rattle.sec_cli.specs.Answers.{IsCheckAnswer, IsJournalOf}

-- the check with induction over k frames, and a search for a difference in the first k: no class lines, no numbers of entries, no stored files, no ties
abbrev pub check_of_climb : ClimbAsked → ℕ → OptionsAsked
check_of_climb c k = record { k = k; depth = k; workers = c.workers; classes = false; stats = false; trace = None; cert = None; tied = false; least = c.least }

-- the outputs agree in the first frames, and what earlier checks left is for k
abbrev pub IsReached : Pair → ℕ → Reached → Type 0
IsReached pair k r = AgreeBelow pair r.agreed × IsEarlierFor pair k r.earlier

-- induction over k frames, and a search for a difference in the first k, decide nothing
abbrev pub IsOpen : Pair → ℕ → Type 0
IsOpen pair k = (classes : ℕ) × (unpaired : List ℕ) × IsVerdict pair k k (Undecided classes unpaired)

-- k is the least depth that decides, or where none up to the greatest does, the greatest
pub record IsLastTried (pair : Pair) (most k status : ℕ) : Type 0 where
  pub some : 0 < k
  pub few : k ≤ most
  pub below : (j : ℕ) → 0 < j → j < k → IsOpen pair j
  pub ends : status ≡ 2 → k ≡ most

-- with a difference comes the journal of the refinement before it, if there was one
abbrev pub IsJournalBefore : Pair → ClimbAsked → ℕ → Option Written → Type 0
IsJournalBefore pair c k None = k ≡ 1
IsJournalBefore pair c k (Some journal) = (j : ℕ) × (0 < j) × (k ≡ j + 1) × IsJournalOf pair (check_of_climb c j) journal.entries

-- the answer of the check with the last depth that is tried
abbrev pub IsClimbAnswer : Pair → ClimbAsked → Reply → Type 0
IsClimbAnswer pair c a = (k : ℕ) × IsLastTried pair c.most k a.status × IsCheckAnswer pair (check_of_climb c k) a × (a.status ≡ 1 → IsJournalBefore pair c k a.journal)
