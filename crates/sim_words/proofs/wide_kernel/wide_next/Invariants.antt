use Rattle.std.proofs.Common.{◌≡◌, ◌*◌, length}
use Rattle.circ_model.specs.Meaning.{latches_of}
use Rattle.sim_words.proofs.Stripes.{AllNext}
use Rattle.sim_words.proofs.wide_kernel.wide_next.Given as goal

abbrev pub invariant-loop-i : goal.invariant-loop-i
invariant-loop-i l = (length l.state ≡ 8 * latches_of l.product) × AllNext l.product l.words l.i l.state
