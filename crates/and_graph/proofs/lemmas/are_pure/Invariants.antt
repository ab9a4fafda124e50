use Rattle.std.proofs.Common.{◌<◌, ℕ, get_or}
use Rattle.and_graph.specs.Lemmas.{IsPureHint}
use Rattle.and_graph.proofs.lemmas.are_pure.Given as goal

abbrev pub invariant-loop-hint : goal.invariant-loop-hint
invariant-loop-hint l = (j d : ℕ) → j < l.hint-index → IsPureHint l.pure l.given l.total (get_or l.hints j d)
