-- What a run of workers comes to.
use Rattle.std.specs.Prelude.{◌≡◌, ℕ, List, IfSome}
use Rattle.circ_model.specs.Meaning.{Pair}
use Rattle.verdict_stamp.specs.Versions.{Standing, IsVersion}
use Rattle.verdict_stamp.specs.Opening.{AreOpened, AreFramesThatAdd}
use Rattle.refine_board.specs.declared.journal.Entry.{Entry}
use Rattle.refine_board.specs.Schedules.{opened}
use Rattle.split_workers.specs.declared.earlier.Earlier.{Earlier}
use Rattle.prover_table.specs.Tables.{IsKnownFor, IsMemoryFor}
use Rattle.work_desk.specs.Desks.{IsOutcome}

-- the version that simulation leaves: its classes and number are those of 16 frames of 512 runs
pub record IsOpening (pair : Pair) (k : ℕ) (first : Standing) : Type 0 where
  pub version : IsVersion first
  pub pair_is : first.pair ≡ pair
  pub k_is : first.k ≡ k
  pub classes : AreOpened pair 16 first.classes
  pub number : AreFramesThatAdd pair 16 first.number

-- the classes of the greatest correspondence, and a legal journal that leads to them from the opening
pub record IsRefined (pair : Pair) (k workers : ℕ) (version : Standing) (entries : List Entry) : Type 0 where
  pub first : Standing
  pub opening : IsOpening pair k first
  pub outcome : IsOutcome pair k workers (opened pair workers first.classes first.number) version entries

-- what is known of the pair before a run, if anything
abbrev pub IsEarlierFor : Pair → ℕ → Earlier → Type 0
IsEarlierFor pair k e = IfSome e.known (IsKnownFor pair k) × IfSome e.memory (IsMemoryFor pair k)
