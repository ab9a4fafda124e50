use Rattle.std.proofs.Common.{◌≡◌, ◌≤◌, length, List}
use Rattle.std.specs.Arc.{arc_value}
use Rattle.std.specs.List.{All}
use Rattle.product_machine.specs.declared.cell.Cell.{Cell}
use Rattle.refine_board.proofs.journal.make_places.Given as goal

abbrev pub invariant-loop-made : goal.invariant-loop-made
invariant-loop-made l = record {
  own : All (λ (p : List Cell). p ≡ arc_value l.table) l.places.items;
  made : length l.places.items ≡ l._made;
  more : length l.fn.places.items ≤ l._made;
}
