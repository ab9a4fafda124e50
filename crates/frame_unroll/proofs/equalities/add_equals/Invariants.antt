use Rattle.std.proofs.Common.{◌≡◌, ◌++◌, take}
use Rattle.std.specs.Prelude.{flat_map}
use Rattle.frame_unroll.specs.Frames.{literal_in, equal_clauses}
use Rattle.frame_unroll.proofs.equalities.add_equals.Given as goal

abbrev pub invariant-loop-i : goal.invariant-loop-i
invariant-loop-i l = (l.cnf.vars ≡ l.initial.cnf.vars) × (l.cnf.clauses ≡ l.initial.cnf.clauses ++ flat_map (equal_clauses (literal_in l.frame.places) l.frame.number) (take l.i l.needed))
