use Rattle.std.proofs.Common.{◌≡◌, ◌++◌, take}
use Rattle.circ_model.specs.Meaning.{places_of}
use Rattle.frame_questions.specs.Assuming.{assumed_clauses}
use Rattle.frame_questions.proofs.assuming.add_assumed.Given as goal

abbrev pub invariant-loop-i : goal.invariant-loop-i
invariant-loop-i l = (l.cnf.vars ≡ l.initial.cnf.vars) × (l.cnf.clauses ≡ l.initial.cnf.clauses ++ assumed_clauses (places_of l.frames.pair) (take l.i l.assumed))
