use Rattle.std.proofs.Common.{◌-◌, ℕ, length, ap, arith}
use Rattle.circ_model.proofs.Counting.{count_variables, last_variable}
use Rattle.aig_graph.proofs.netlist.Netlist.variable_at.Goals as goal

pub returns : goal.returns
returns c =
    let k : ℕ = c.args.place - 1 - length c.inputs-inputs.result.now - length c.latches-latches.result.now in
    let i = ap length c.inputs-inputs.ensures.same in
    let l = ap length c.latches-latches.ensures in
    let g = ap length c.gates.ensures in
    last_variable c.args.self.now c.gates.result.now c.index-gates-k.result c.args.place k c.gates.ensures (omega arith) (omega (arith, count_variables c.args.self.now))
