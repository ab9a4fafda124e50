use Rattle.std.proofs.Common.{◌≡◌, ◌≤◌, ◌+◌, length}
use Rattle.sim_words.specs.Simulation.{next_frame}
use Rattle.split_rows.proofs.rows.SplitRows.run_from_reset.Given as goal

abbrev pub invariant-loop-t : goal.invariant-loop-t
invariant-loop-t l = (l.self ≡ l.initial.self) × (l.sim.pair ≡ l.initial.sim.pair) × (next_frame l.sim.frame ≤ 1024 + l.t) × (length l.inputs.items ≡ length l.initial.inputs.items)
