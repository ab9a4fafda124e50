use Rattle.std.proofs.Common.{◌≡◌, ◌+◌, ◌*◌, ℕ, [], length, drop}
use Rattle.cnf_store.specs.Clauses.{AreClauses}
use Rattle.log_check.specs.Marks.{AreMarks}
use Rattle.log_check.specs.FirstBad.{FollowTo, clauses_before}
use Rattle.log_check.proofs.whole_log.count_following.Given as goal

abbrev pub invariant-loop-i : goal.invariant-loop-i
invariant-loop-i l = record {
  ways : (n : ℕ) → FollowTo l.formula.vars (clauses_before l.formula l.log l.i) (drop l.i l.log) n → FollowTo l.formula.vars l.formula.clauses l.log (l.i + n);
  within : AreClauses l.formula.vars (clauses_before l.formula l.log l.i);
  marks : AreMarks l.marks [];
  assumed : l.assumed.items ≡ [];
  size : length l.marks ≡ 2 * l.formula.vars + 2;
}
