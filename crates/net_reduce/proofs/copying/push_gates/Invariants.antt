use Rattle.std.proofs.Common.{◌≡◌, ◌++◌, map, take}
use Rattle.std.specs.Prelude.{filter}
use Rattle.circ_model.specs.declared.netlist.Gate.{Gate}
use Rattle.net_reduce.specs.Reduced.{gate_with}
use Rattle.net_reduce.specs.Table.{through, stays_by}
use Rattle.net_reduce.proofs.copying.push_gates.Given as goal

abbrev pub invariant-loop-i : goal.invariant-loop-i
invariant-loop-i l = l.builder ≡ record l.initial.builder { gates = l.initial.builder.gates ++ map (gate_with (through l.table)) (filter (λ (g : Gate). stays_by l.table g.var) (take l.i l.gates)) }
