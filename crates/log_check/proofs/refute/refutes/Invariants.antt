use Rattle.std.proofs.Common.{◌≡◌, length, drop}
use Rattle.sat_log.specs.Derivations.{Refutes}
use Rattle.log_check.specs.Marks.{AreMarks}
use Rattle.log_check.specs.FirstBad.{clauses_before}
use Rattle.log_check.proofs.Scanning.{Same}
use Rattle.log_check.proofs.refute.refutes.Given as goal

abbrev pub invariant-loop-j : goal.invariant-loop-j
invariant-loop-j l = record {
  marks : AreMarks l.marks l.assumed.items;
  size : length l.marks ≡ length l.initial.marks;
  ways : Same (Refutes (clauses_before l.formula l.log l.i) l.assumed.items (drop l.j l.hints)) (Refutes (clauses_before l.formula l.log l.i) l.initial.assumed.items l.hints);
}
