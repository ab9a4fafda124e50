use Rattle.std.proofs.Common.{◌≡◌, length}
use Rattle.circ_model.specs.Meaning.{latches_of}
use Rattle.sim_words.proofs.Frames.{AreNext}
use Rattle.sim_words.proofs.kernel.next_words.Given as goal

abbrev pub invariant-loop-i : goal.invariant-loop-i
invariant-loop-i l = (length l.state ≡ latches_of l.product) × AreNext l.product l.words l.i l.state
