use Rattle.std.proofs.Common.{◌≡◌, ◌++◌}
use Rattle.frame_unroll.specs.Frames.{literal_in, class_clauses}
use Rattle.frame_unroll.proofs.equalities.add_classes.Given as goal

abbrev pub invariant-loop-t : goal.invariant-loop-t
invariant-loop-t l = (l.cnf.vars ≡ l.initial.cnf.vars) × (l.cnf.clauses ≡ l.initial.cnf.clauses ++ class_clauses (literal_in l.n) l.t l.needed)
