use Rattle.std.proofs.Common.{◌≡◌, length, drop}
use Rattle.circ_model.specs.Meaning.{places_of}
use Rattle.refine_board.specs.States.{State}
use Rattle.refine_board.specs.Schedules.{Leads, opened}
use Rattle.refine_board.specs.Replays.{IsReplayed}
use Rattle.refine_board.proofs.history.replay.Given as goal

abbrev pub invariant-loop-i : goal.invariant-loop-i
invariant-loop-i l = record {
  places : length l.classes.least ≡ places_of l.first.pair;
  replayed : (state : State) → Leads l.first.pair l.first.k (opened l.first.pair l.fn.workers l.first.classes l.first.number) l.journal.entries state
      → IsReplayed l.first.pair l.first.k l.classes (drop l.i l.journal.entries) state;
}
