use Rattle.std.proofs.Common.{◌≡◌, ◌<◌, ◌+◌, ◌*◌, ℕ, length, get_or}
use Rattle.circ_model.specs.Meaning.{places_of}
use Rattle.sim_words.proofs.wide.WideState.write_words.Given as goal

abbrev pub invariant-loop-p : goal.invariant-loop-p
invariant-loop-p l = (length l.into ≡ places_of l.self.pair) × ((k : ℕ) → k < l.p → get_or l.into k 0 ≡ get_or l.self.words (8 * k + l.j) 0)
