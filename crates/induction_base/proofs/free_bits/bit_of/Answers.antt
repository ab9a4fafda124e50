use Rattle.std.proofs.Common.{◌∙◌, length, ap, arith}
use Rattle.circ_model.specs.Meaning.{Path, bit, inputs_at}
use Rattle.induction_base.proofs.Sites.{input_read}
use Rattle.induction_base.proofs.free_bits.bit_of.Goals as goal

pub returns : goal.returns
returns c =
    let no = c.if-i-latches.false in
    let path = c.args.path.now in
    let at = c.input_position-frame.result in
    let rows = ap (λ (p : Path). length p.inputs) c.path.view_is in
    c.get-2.ensures ∙ ap (λ r. bit r at.1) c.row.ensures ∙ ap (λ (p : Path). bit (inputs_at p at.0) at.1) c.path.view_is
    ∙ input_read c.args.product.now path c.args.i c.latches-latches.result c.inputs.result at.0 at.1 c.requires.path c.latches-latches.ensures c.inputs.ensures (omega arith) c.input_position-frame.ensures.same
    (omega (arith, c.input_position-frame.ensures.frame, c.requires.rows)) c.input_position-frame.ensures.input
