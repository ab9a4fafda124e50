use Rattle.std.proofs.Common.{◌≡◌, ◌∙◌, ◌/◌, ◌<◌, ℕ, length, ap, sym, subst, arith}
use Rattle.circ_model.specs.Meaning.{value_in}
use Rattle.trace_witness.specs.Replay.{AgreesIn}
use Rattle.trace_witness.proofs.Outputs.{left_within, right_within, one_more, same_bit}
use Rattle.trace_witness.proofs.replay.first_in_row.Goals as goal

pub literal_bit-requires : goal.literal_bit-requires
literal_bit-requires c =
    let lt = c.loop-j-test.true in
    let h = left_within c.args.product.now c.loop-j.j c.cells-cells.ensures.pair (omega (arith, c.outputs-j-end.ensures)) in
    subst (λ (p : ℕ × ℕ). p.0 / 2 < length c.args.row.now) (sym c.output-left.ensures) (omega (arith, h, c.requires))

pub literal_bit-requires-in-loop-j : goal.literal_bit-requires-in-loop-j
literal_bit-requires-in-loop-j c =
    let lt = c.loop-j-test.true in
    let h = right_within c.args.product.now c.loop-j.j c.cells-cells.ensures.pair (omega (arith, c.outputs-j-end.ensures)) in
    subst (λ (p : ℕ × ℕ). p.1 / 2 < length c.args.row.now) (sym c.output-left.ensures) (omega (arith, h, c.requires))

pub loop-j-preserved : goal.loop-j-preserved
loop-j-preserved c =
    let same : c.literal_bit.result ≡ c.literal_bit-in-loop-j.result = same_bit _ _ c.if-literal_bit.false in
    let left = ap (λ (p : ℕ × ℕ). value_in c.args.row.now p.0) c.output-left.ensures in
    let right = ap (λ (p : ℕ × ℕ). value_in c.args.row.now p.1) c.output-left.ensures in
    one_more (λ (i : ℕ). AgreesIn c.args.product.now c.args.row.now i) c.loop-j.j c.loop-j.invariant (sym left ∙ sym c.literal_bit.ensures ∙ same ∙ c.literal_bit-in-loop-j.ensures ∙ right)
