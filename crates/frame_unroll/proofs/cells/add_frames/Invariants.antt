use Rattle.std.proofs.Common.{◌≡◌, ◌++◌, length}
use Rattle.frame_unroll.specs.Frames.{literal_in, frames}
use Rattle.frame_unroll.proofs.cells.add_frames.Given as goal

abbrev pub invariant-loop-t : goal.invariant-loop-t
invariant-loop-t l = (l.n ≡ length l.cells) × (l.cnf.vars ≡ l.initial.cnf.vars) × (l.cnf.clauses ≡ l.initial.cnf.clauses ++ frames (literal_in (length l.cells)) l.from_reset l.cells l.t)
