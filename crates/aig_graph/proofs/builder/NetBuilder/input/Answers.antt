use Rattle.std.proofs.Common.{◌≡◌, ◌<◌, length, get_or, sym, ◌∙◌, arith}
use Rattle.std.proofs.lemmas.Grind.{get_or_default_zero}
use Rattle.circ_model.specs.Netlist.{Netlist}
use Rattle.aig_graph.proofs.Keeping.{kept_input}
use Rattle.aig_graph.proofs.builder.NetBuilder.input.Goals as goal

pub invariant_of-self-2 : goal.invariant_of-self-2
invariant_of-self-2 c =
    let b = c.self.inside in
    let g : Netlist = record { max_var = b.max_var; inputs = b.inputs.items; latches = b.latches.items; outputs = b.outputs.items; gates = b.gates.items } in
    let within : c.args.var < length b.defined_as.items = omega (arith, c.self.invariant.len, c.if-var-self.false) in
    let free : get_or b.defined_as.items c.args.var 0 ≡ 0 = sym (get_or_default_zero b.defined_as.items c.args.var c.index.result.now within) ∙ sym c.index.ensures ∙ c.if-index-ne0.false in
    rw c.in_ok-push.ensures.items (kept_input b.defined_as.items g c.args.var c.self.invariant (omega arith) c.if-var-self.false free)
