use Rattle.std.proofs.Common.{◌≡◌, ◌≤◌, ◌+◌, ◌*◌, length}
use Rattle.circ_model.specs.Meaning.{places_of}
use Rattle.and_graph.specs.Graphs.{GrowsTo}
use Rattle.frame_graph.specs.Frames.{GoesOn, frame_of}
use Rattle.frame_graph.specs.Maps.{AreWithin}
use Rattle.frame_graph.proofs.places.push_own_places.Given as goal

abbrev pub invariant-loop-p : goal.invariant-loop-p
invariant-loop-p l = record {
  size : length l.literals.items ≡ l.frame.number * places_of l.frame.product.now + l.p;
  part : length l.literals.items ≤ l.frame.number * places_of l.frame.product.now + places_of l.frame.product.now;
  more : length l.fn.literals.items ≤ length l.literals.items;
  on : GrowsTo l.fn.graph l.graph;
  within : AreWithin l.graph l.literals.items;
  goes : GoesOn (frame_of l.frame) l.graph l.fn.literals.items l.literals.items;
}
