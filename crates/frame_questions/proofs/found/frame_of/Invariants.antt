use Rattle.std.proofs.Common.{◌<◌, ◌≤◌, ◌+◌, ℕ}
use Rattle.frame_questions.specs.Found.{EqualIn}
use Rattle.frame_questions.proofs.found.frame_of.Given as goal

abbrev pub invariant-loop-i : goal.invariant-loop-i
invariant-loop-i l = (t : ℕ) → l.first ≤ t → t < l.first + l.i → EqualIn l.n l.row t l.a l.b
