use Rattle.std.proofs.Common.{◌∙◌, length, ap, arith}
use Rattle.circ_model.specs.Netlist.{Netlist}
use Rattle.circ_model.specs.Meaning.{Pair}
use Rattle.circ_model.proofs.Rows.{length_places}
use Rattle.product_machine.proofs.Size.{few_places}
use Rattle.sim_words.proofs.start.count_free.Goals as goal

pub overflow_cast-end : goal.overflow_cast-end
overflow_cast-end c =
    let pair : Pair = c.args.product.now in
    omega (arith, few_places pair c.cells-cells.ensures.pair, length_places pair, ap length (c.latches.ensures ∙ ap (λ (net : Netlist). net.latches) c.left.ensures))
