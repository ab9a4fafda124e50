use Rattle.std.proofs.Common.{◌≡◌, ◌≤◌, ◌⊎◌, ℕ, List, Option}
use Rattle.batch_run.specs.Answers.{AreAnswered}
use Rattle.batch_run.specs.Loads.{AreLoaded}
use Rattle.batch_run.proofs.answering.write_answers.Given as goal

abbrev pub invariant-loop-at : goal.invariant-loop-at
invariant-loop-at l =
    ((l.status ≤ 2) ⊎ (l.status ≡ 4))
    × ((file : List ℕ → Option (List ℕ)) → AreLoaded file l.settled.products.now l.list l.loaded → AreAnswered file l.settled.k l.list l.at l.text.items l.status)
