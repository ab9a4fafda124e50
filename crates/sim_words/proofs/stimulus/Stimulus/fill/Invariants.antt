use Rattle.std.proofs.Common.{◌≡◌}
use Rattle.sim_words.specs.Stimulus.{after_words}
use Rattle.sim_words.proofs.Words.{AreNextWords}
use Rattle.sim_words.proofs.stimulus.Stimulus.fill.Given as goal

abbrev pub invariant-loop-i : goal.invariant-loop-i
invariant-loop-i l = (l.self-inside.generator ≡ after_words l.i l.fn.self) × AreNextWords l.fn.self l.i l.words
