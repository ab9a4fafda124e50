-- What is true of a run whenever its lock is free, and of its end.
use Rattle.std.specs.Prelude.{◌≡◌, ℕ, ◌+◌, ◌*◌, ◌<◌, ◌≤◌, List, Bool}
use Rattle.std.specs.List.{All}
use Rattle.circ_model.specs.Meaning.{Pair}
use Rattle.class_partition.specs.Classes.{AreOfGreatest}
use Rattle.verdict_stamp.specs.Published.{Stamped}
use Rattle.verdict_stamp.specs.Versions.{Standing}
use Rattle.refine_board.specs.declared.journal.Step.{Step}
use Rattle.refine_board.specs.declared.journal.Step.TheVariants as step
use Rattle.refine_board.specs.declared.journal.Entry.{Entry}
use Rattle.refine_board.specs.States.{State}
use Rattle.refine_board.specs.Schedules.{Leads}
use Rattle.refine_board.specs.Tallies.{offered_entries}
use Rattle.refine_board.specs.Answers.{kept_step, cut_step}
use Rattle.refine_board.specs.declared.answers.Kept.{Kept}
use Rattle.refine_board.specs.declared.answers.Cut.{Cut}
use Rattle.refine_board.specs.Running.{Running, AnswersAt, Claiming, IsStampedAs}
use Rattle.verdict_stamp.specs.declared.used.Used.{Used}
use Rattle.work_desk.specs.Tallies.{dones, ends, weights, answers}
use Rattle.work_desk.specs.Seats.{Seated, Calling, Totals}
use Rattle.work_desk.specs.declared.desk.Asked.{Asked}
use Rattle.work_desk.specs.declared.desk.Asked.TheVariants.{Work, Idle, Moved, Awaited, Ended, Stopped}

-- the board of a run, and whether memory ran out
pub record Held : Type 0 where
  pub board : Running
  pub stopped : Bool

abbrev pub held : Running → Bool → Held
held board stopped = record { board = board; stopped = stopped }

-- no vector is foreign, no offer is given back, and nobody is told to wait for one that is out
abbrev pub IsLawful : Step → Type 0
IsLawful step.Foreign = ⊥
IsLawful (step.Back p) = ⊥
IsLawful step.Idle = ⊥
IsLawful (step.Offered p) = Unit {0}
IsLawful step.Done = Unit {0}
IsLawful (step.Counted p w) = Unit {0}
IsLawful (step.Stale p) = Unit {0}
IsLawful (step.Split bits n) = Unit {0}
IsLawful (step.Already bits) = Unit {0}

-- and each entry is a worker's
abbrev pub AreLawful : ℕ → List Entry → Type 0
AreLawful workers entries = All (λ (e : Entry). (e.worker < workers) × IsLawful e.step) entries

-- the ledgers tell the ends and the answers; once a worker ended, the classes are those of the greatest correspondence; so many offers at most aren't answered
pub record IsDesk (pair : Pair) (k workers : ℕ) (board : Running) (t : Totals) (out : ℕ) : Type 0 where
  pub greatest : 0 < t.ends → AreOfGreatest pair k board.state.classes
  pub lawful : AreLawful workers board.entries
  pub weights_are : t.weights ≡ weights workers board.entries
  pub ends_are : t.ends ≡ ends workers board.entries
  pub answers_are : t.answered ≡ answers board.entries
  pub answered : offered_entries board.entries ≤ answers board.entries + out

-- between the calls none is open
pub record IsRun (pair : Pair) (k workers : ℕ) (board : Running) (t : Totals) (end_parts seat_parts : ℕ) : Type 0 where
  pub desk : IsDesk pair k workers board t 0
  pub some : 0 < workers
  pub few : workers ≤ 64
  pub end_parts_are : end_parts ≡ workers
  pub seat_parts_are : seat_parts ≡ workers * 2

-- the version that was published last isn't that of this stamp, or it isn't the board's any more
abbrev pub HasMoved : Running → Stamped → Type 0
HasMoved board stamp = IsStampedAs board.current stamp → ⊥

-- what comes of a verdict, and of a vector, on a claimed pair
abbrev pub IsKeptAt : ℕ → Running → Running → Claiming → Used → Type 0
IsKeptAt places before after c w = (r : Kept) × AnswersAt places before after c (kept_step r c.pair w)

abbrev pub IsCutAt : ℕ → Running → Running → Claiming → List Bool → Type 0
IsCutAt places before after c bits = (r : Cut) × AnswersAt places before after c (cut_step r bits)

-- a worker that is given a pass is in its seat, and one that is told the end has ended
abbrev pub IsAskedOf : {L : Type 0} → Seated → Seated → Asked L → Type 0
IsAskedOf before after (Work pass) = (pass.party ≡ before.party) × (after ≡ before)
IsAskedOf before after (Idle word) = after ≡ before
IsAskedOf before after Moved = after ≡ before
IsAskedOf before after Awaited = after ≡ before
IsAskedOf before after Ended = after ≡ record before { ended = 1 }
IsAskedOf before after Stopped = after ≡ before

-- the same of a worker in its seat, whose claims stay
abbrev pub IsCalled : {L : Type 0} → ℕ → Calling → Calling → Asked L → Type 0
IsCalled workers before after (Work pass) = (pass.party ≡ before.party) × (pass.party < workers) × (after ≡ before)
IsCalled workers before after (Idle word) = after ≡ before
IsCalled workers before after Moved = after ≡ before
IsCalled workers before after Awaited = after ≡ before
IsCalled workers before after Ended = after ≡ record before { ended = 1 }
IsCalled workers before after Stopped = after ≡ before

-- how a run ends: with the classes of the greatest correspondence, and a legal journal that leads to them from the opening; each worker was told once
-- that each pair is counted, and there are no more offers than answers
pub record IsOutcome (pair : Pair) (k workers : ℕ) (opening : State) (version : Standing) (entries : List Entry) : Type 0 where
  pub pair_is : version.pair ≡ pair
  pub k_is : version.k ≡ k
  pub greatest : AreOfGreatest pair k version.classes
  pub lawful : AreLawful workers entries
  pub leads : (state : State) × Leads pair k opening entries state × (state.classes ≡ version.classes)
  pub ended : (p : ℕ) → p < workers → dones entries p ≡ 1
  pub answered : offered_entries entries ≤ answers entries
