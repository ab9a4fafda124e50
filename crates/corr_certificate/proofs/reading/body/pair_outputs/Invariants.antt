use Rattle.std.proofs.Common.{◌<◌, ℕ}
use Rattle.class_partition.specs.Laws.{PairOutput}
use Rattle.corr_certificate.proofs.reading.body.pair_outputs.Given as goal

abbrev pub invariant-loop-j : goal.invariant-loop-j
invariant-loop-j l = (i : ℕ) → i < l.j → PairOutput l.product l.classes i
