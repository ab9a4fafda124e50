use Rattle.std.proofs.Common.{◌≡◌, ◌++◌, length, get_or}
use Rattle.std.specs.Prelude.{flat_map}
use Rattle.std.specs.List.{range_with_len}
use Rattle.product_machine.specs.declared.cell.Cell.TheVariants.{Low}
use Rattle.frame_unroll.specs.Frames.{literal_in, cell_clauses}
use Rattle.frame_unroll.proofs.cells.add_frame.Given as goal

abbrev pub invariant-loop-p : goal.invariant-loop-p
invariant-loop-p l =
    (l.cnf.vars ≡ l.initial.cnf.vars)
    × (l.cnf.clauses ≡ l.initial.cnf.clauses ++ flat_map (λ p. cell_clauses (literal_in (length l.cells)) l.from_reset l.frame.number p (get_or l.cells p Low)) (range_with_len 0 l.p))
