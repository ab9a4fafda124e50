use Rattle.refine_board.specs.Schedules.{opened}
use Rattle.pool_tests.proofs.waking.stop_wakes.Given as goal

abbrev pub ghosts-run_that_stops-L-Ledger : goal.ghosts-run_that_stops-L-Ledger
ghosts-run_that_stops-L-Ledger g a = record { name = a.blanks.entries.name; parts = a.blanks.entries.parts }

abbrev pub ghosts-run_that_stops-L-Run : goal.ghosts-run_that_stops-L-Run
ghosts-run_that_stops-L-Run g a = record { pair = a.first.pair; k = a.first.k; workers = 2; opening = opened a.first.pair 2 a.first.classes a.first.number; list = a.versions.now; word = a.word.0.now }

abbrev pub ghosts-run_that_stops-E-Ledger : goal.ghosts-run_that_stops-E-Ledger
ghosts-run_that_stops-E-Ledger g a = record { name = a.blanks.ends.name; parts = a.blanks.ends.parts }

abbrev pub ghosts-run_that_stops-O-Ledger : goal.ghosts-run_that_stops-O-Ledger
ghosts-run_that_stops-O-Ledger g a = record { name = a.blanks.seats.name; parts = a.blanks.seats.parts }
