use Rattle.std.proofs.Common.{◌++◌, map, sym, ap, ◌∙◌}
use Rattle.circ_model.specs.declared.netlist.Latch.{Latch}
use Rattle.aig_graph.specs.Finish.{lowest, right_literals}
use Rattle.aig_graph.proofs.LeastUndefined.{lowest_append}
use Rattle.aig_graph.proofs.undefined.lowest_used.Goals as goal

pub returns : goal.returns
returns c =
    let d = c.args.defs.now in
    let xs = map (λ (l : Latch). l.next) c.args.latches.now in
    let a = lowest_append d c.args.start (xs ++ c.args.outputs.now) (right_literals c.args.gates.now) in
    let b = lowest_append d c.args.start xs c.args.outputs.now in
    c.in_gates.ensures ∙ ap (λ n. lowest d n (right_literals c.args.gates.now)) (c.in_outputs-low.ensures ∙ ap (λ n. lowest d n c.args.outputs.now) c.in_latches-low.ensures ∙ sym b) ∙ sym a
