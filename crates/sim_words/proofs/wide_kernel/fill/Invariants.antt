use Rattle.sim_words.proofs.Stripes.{AreFilled}
use Rattle.sim_words.proofs.wide_kernel.fill.Given as goal

abbrev pub invariant-loop-p : goal.invariant-loop-p
invariant-loop-p l = AreFilled l.product l.initial.words l.p l.words
