use Rattle.std.proofs.Common.{◌≡◌, ◌++◌, ◌+◌, take, length}
use Rattle.std.specs.Prelude.{flat_map}
use Rattle.std.specs.List.{range_with_len}
use Rattle.frame_unroll.specs.Frames.{literal_in, differ_clauses}
use Rattle.frame_unroll.proofs.question.add_differs.Given as goal

abbrev pub invariant-loop-i : goal.invariant-loop-i
invariant-loop-i l =
    (l.cnf.vars ≡ l.initial.cnf.vars)
    × (l.cnf.clauses ≡ l.initial.cnf.clauses ++ flat_map (λ i. differ_clauses (literal_in l.n) (l.fn.asked.first + i) (l.d + i) l.fn.asked.a l.fn.asked.b) (range_with_len 0 l.i))
    × (take (length l.initial.cnf.clauses) l.cnf.clauses ≡ l.initial.cnf.clauses)
