use Rattle.sim_words.proofs.Frames.{IsFilled}
use Rattle.sim_words.proofs.kernel.fill.Given as goal

abbrev pub invariant-loop-p : goal.invariant-loop-p
invariant-loop-p l = IsFilled l.product l.initial.words l.p l.words
