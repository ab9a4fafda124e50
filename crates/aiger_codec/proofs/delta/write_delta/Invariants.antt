use Rattle.std.proofs.Common.{◌≤◌, ◌+◌, ◌-◌, ◌^◌, ◌*◌, ◌++◌, vec_len, vec_capacity}
use Rattle.aiger_codec.specs.Deltas.{shortest}
use Rattle.aiger_codec.proofs.DeltaSteps.{Writes}
use Rattle.aiger_codec.proofs.delta.write_delta.Given as goal

abbrev pub invariant-loop : goal.invariant-loop
invariant-loop l = record {
  written : Writes l.into.items l.counter l.rest (l.fn.into.items ++ shortest l.n);
  room : vec_len l.into + (5 - l.counter) ≤ vec_capacity l.into;
  small : l.rest * 128 ^ l.counter ≤ l.n;
}
