use Rattle.std.proofs.Common.{◌≡◌, ◌<◌}
use Rattle.circ_model.specs.Meaning.{places_of}
use Rattle.class_partition.specs.Classes.{class_count}
use Rattle.refine_board.specs.Closings.{Closes}
use Rattle.refine_board.proofs.closing.finish.Given as goal

abbrev pub invariant-loop-round : goal.invariant-loop-round
invariant-loop-round g l = record {
  splits : l._round < class_count (places_of g.L.Run.pair) l.board.state.classes;
  closes : Closes (places_of g.L.Run.pair) l.fn.party l.fn.board l.board;
  ends : l._round-end ≡ places_of g.L.Run.pair;
}
