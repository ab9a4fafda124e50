use Rattle.std.proofs.Common.{arith}
use Rattle.induction_base.proofs.Sites.{zero_input}
use Rattle.induction_base.proofs.free_bits.zero_at.Goals as goal

pub returns : goal.returns
returns c =
    let no = c.if-i-latches.false in
    zero_input c.args.product.now c.args.rows c.args.i c.latches-latches.result c.inputs.result c.input_position-frame.result.0 c.input_position-frame.result.1 c.of-2.result c.cells-cells.ensures.pair c.latches-latches.ensures c.inputs.ensures (omega arith) c.input_position-frame.ensures.same
    c.input_position-frame.ensures.frame c.input_position-frame.ensures.input c.of-2.ensures
