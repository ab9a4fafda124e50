use Rattle.std.proofs.Common.{◌≡◌, ◌≤◌, length}
use Rattle.sim_words.specs.Simulation.{next_frame}
use Rattle.split_rows.proofs.rows.SplitRows.take_runs.Given as goal

abbrev pub invariant-loop-t : goal.invariant-loop-t
invariant-loop-t l = (l.self ≡ l.initial.self) × (l.sim.pair ≡ l.initial.sim.pair) × (next_frame l.sim.frame ≤ l.t)
