use Rattle.refine_board.specs.Schedules.{opened}
use Rattle.split_workers.proofs.running.refine_from.Given as goal

abbrev pub ghosts-refine_named-L-Ledger : goal.ghosts-refine_named-L-Ledger
ghosts-refine_named-L-Ledger g a = record { name = a.blanks.entries.name; parts = a.blanks.entries.parts }

abbrev pub ghosts-refine_named-L-Run : goal.ghosts-refine_named-L-Run
ghosts-refine_named-L-Run g a = record { pair = a.beginning.first.pair; k = a.beginning.first.k; workers = a.beginning.workers; opening = opened a.beginning.first.pair a.beginning.workers a.beginning.first.classes a.beginning.first.number; list = a.beginning.versions.now; word = a.beginning.word.now }

abbrev pub ghosts-refine_named-E-Ledger : goal.ghosts-refine_named-E-Ledger
ghosts-refine_named-E-Ledger g a = record { name = a.blanks.ends.name; parts = a.blanks.ends.parts }

abbrev pub ghosts-refine_named-O-Ledger : goal.ghosts-refine_named-O-Ledger
ghosts-refine_named-O-Ledger g a = record { name = a.blanks.seats.name; parts = a.blanks.seats.parts }
