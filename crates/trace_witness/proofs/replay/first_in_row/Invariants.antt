use Rattle.std.proofs.Common.{◌<◌, ℕ}
use Rattle.trace_witness.specs.Replay.{AgreesIn}
use Rattle.trace_witness.proofs.replay.first_in_row.Given as goal

abbrev pub invariant-loop-j : goal.invariant-loop-j
invariant-loop-j l = (i : ℕ) → i < l.j → AgreesIn l.product l.row i
