use Rattle.pair_pool.specs.Unpaired.{AreLeftOut}
use Rattle.pair_pool.proofs.solving.left_out.Given as goal

abbrev pub invariant-loop-j : goal.invariant-loop-j
invariant-loop-j l = AreLeftOut l.product l.classes l.j l.outputs.items
