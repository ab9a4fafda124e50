use Rattle.std.proofs.Common.{◌≡◌, ◌++◌, map, take}
use Rattle.std.specs.Prelude.{filter}
use Rattle.circ_model.specs.declared.netlist.Latch.{Latch}
use Rattle.net_reduce.specs.Reduced.{latch_with}
use Rattle.net_reduce.specs.Table.{through, stays_by}
use Rattle.net_reduce.proofs.copying.push_latches.Given as goal

abbrev pub invariant-loop-i : goal.invariant-loop-i
invariant-loop-i l = l.builder ≡ record l.initial.builder { latches = l.initial.builder.latches ++ map (latch_with (through l.table)) (filter (λ (x : Latch). stays_by l.table x.var) (take l.i l.latches)) }
