use Rattle.std.proofs.Common.{◌≡◌, ◌<◌, ℕ, length, get_or}
use Rattle.circ_model.specs.Meaning.{bit, places_of}
use Rattle.sim_words.specs.Lanes.{lane_bit}
use Rattle.sim_words.proofs.sim.SimState.column.Given as goal

abbrev pub invariant-loop-p : goal.invariant-loop-p
invariant-loop-p l = (length l.into ≡ places_of l.self.pair) × ((k : ℕ) → k < l.p → bit l.into k ≡ lane_bit l.run (get_or l.self.words k 0))
