use Rattle.std.proofs.Common.{◌≤◌, vec_len}
use Rattle.sec_base.proofs.real.read_pieces.Given as goal

abbrev pub invariant-loop : goal.invariant-loop
invariant-loop g l = vec_len l.into ≤ l.limit
