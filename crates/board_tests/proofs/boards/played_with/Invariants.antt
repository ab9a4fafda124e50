use Rattle.refine_board.specs.Schedules.{opened}
use Rattle.board_tests.proofs.boards.played_with.Given as goal

abbrev pub ghosts-play_from-L-Ledger : goal.ghosts-play_from-L-Ledger
ghosts-play_from-L-Ledger g a = record { name = a.blank.name; parts = a.blank.parts }

abbrev pub ghosts-play_from-L-Run : goal.ghosts-play_from-L-Run
ghosts-play_from-L-Run g a = record { pair = a.first.pair; k = a.first.k; workers = 3; opening = opened a.first.pair 3 a.first.classes a.first.number; list = a.versions.now; word = a.word.0.now }
