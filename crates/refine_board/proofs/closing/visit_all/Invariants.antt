use Rattle.std.proofs.Common.{◌≡◌}
use Rattle.circ_model.specs.Meaning.{places_of}
use Rattle.refine_board.specs.Running.{AreCountedBelow}
use Rattle.refine_board.specs.Closings.{Closes}
use Rattle.refine_board.proofs.closing.visit_all.Given as goal

abbrev pub invariant-loop-p : goal.invariant-loop-p
invariant-loop-p g l = record {
  below : AreCountedBelow (places_of g.L.Run.pair) l.board.state l.p;
  same : l.board.state.classes ≡ l.fn.board.state.classes;
  closes : Closes (places_of g.L.Run.pair) l.fn.party l.fn.board l.board;
  prover : l.prover ≡ l.initial.prover;
  ends : l.p-end ≡ places_of g.L.Run.pair;
}
