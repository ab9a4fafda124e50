use Rattle.std.proofs.Common.{◌≡◌, ◌*◌, ℕ, Bool, length}
use Rattle.circ_model.specs.Meaning.{Path, places_of}
use Rattle.and_graph.specs.Graphs.{GrowsTo, Obeys}
use Rattle.frame_graph.specs.Frames.{leaves_of}
use Rattle.frame_graph.specs.Inductions.{IsStepPath}
use Rattle.frame_graph.specs.Leaves.{Reads}
use Rattle.frame_graph.specs.Maps.{AreWithin, Shows}
use Rattle.frame_graph.proofs.frames.push_step_frames.Given as goal

abbrev pub invariant-loop-number : goal.invariant-loop-number
invariant-loop-number l = record {
  size : length l.literals.items ≡ l.number * places_of l.leaves.product.now;
  on : GrowsTo l.fn.graph l.graph;
  within : AreWithin l.graph l.literals.items;
  shows : (path : Path) (v : ℕ → Bool) → IsStepPath (record { pair = l.leaves.product.now; k = l.k; classes = l.classes }) path → Obeys l.graph v → Reads (leaves_of l.leaves) path v
      → Shows l.leaves.product.now l.literals.items path v;
}
