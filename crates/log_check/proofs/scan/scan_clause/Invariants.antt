use Rattle.std.proofs.Common.{take}
use Rattle.log_check.proofs.Scanning.{Sees}
use Rattle.log_check.proofs.scan.scan_clause.Given as goal

abbrev pub invariant-loop-lit : goal.invariant-loop-lit
invariant-loop-lit l = Sees l.assumed (take l.lit-index l.clause) l.unit
