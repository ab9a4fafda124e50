use Rattle.std.proofs.Common.{◌<◌, length, sym, subst, arith}
use Rattle.circ_model.specs.Netlist.{Netlist}
use Rattle.aig_graph.proofs.Keeping.{kept_output}
use Rattle.aig_graph.proofs.builder.NetBuilder.output.Goals as goal

pub invariant_of-self-2 : goal.invariant_of-self-2
invariant_of-self-2 c =
    let b = c.self.inside in
    let g : Netlist = record { max_var = b.max_var; inputs = b.inputs.items; latches = b.latches.items; outputs = b.outputs.items; gates = b.gates.items } in
    let room : length g.outputs < 1000000 = subst (λ (x : Netlist). length x.outputs < 1000000) (sym c.self.view_is) c.requires in
    rw c.in_ok-push.ensures.items (kept_output b.defined_as.items g c.args.lit c.self.invariant room (omega arith))
