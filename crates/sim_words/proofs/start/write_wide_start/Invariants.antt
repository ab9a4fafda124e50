use Rattle.std.proofs.Common.{◌≡◌, ◌*◌, length}
use Rattle.circ_model.specs.Meaning.{latches_of}
use Rattle.sim_words.specs.Simulation.{counted_before}
use Rattle.sim_words.proofs.Stripes.{AllStarted}
use Rattle.sim_words.proofs.start.write_wide_start.Given as goal

abbrev pub invariant-loop-i : goal.invariant-loop-i
invariant-loop-i l = (length l.state ≡ 8 * latches_of l.product) × (l.counted ≡ counted_before l.product l.i) × AllStarted l.product l.free l.i l.state
