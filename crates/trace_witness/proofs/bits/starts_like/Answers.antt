use Rattle.std.proofs.Common.{◌∙◌, [], refl, sym, arith}
use Rattle.circ_model.specs.Meaning.{Path}
use Rattle.product_machine.proofs.Partners.{partner_tied, partner_within, starts_like_partner, bits_same, bits_equal}
use Rattle.trace_witness.specs.Bits.{bits_of}
use Rattle.trace_witness.proofs.Ties.{bit_read}
use Rattle.trace_witness.proofs.bits.starts_like.Goals as goal

pub bounds-line-partner : goal.bounds-line-partner
bounds-line-partner c = omega (arith, partner_within c.args.product.now c.args.i c.in-Some.partner c.in-Some.ensures.some, c.requires.line)

pub returns-in-None : goal.returns-in-None
returns-in-None c = (λ _ q are. absurd (c.in-None.ensures.none (partner_tied c.args.product.now c.args.i q are)), λ _. refl)

pub returns-in-Some : goal.returns-in-Some
returns-in-Some c =
    let own = bit_read c.args.line.now c.args.i (omega (arith, c.requires.latch, c.requires.line)) in
    let other = bit_read c.args.line.now c.in-Some.partner (omega (arith, partner_within c.args.product.now c.args.i c.in-Some.partner c.in-Some.ensures.some, c.requires.line)) in
    let path : Path = record { start = bits_of c.args.line.now; inputs = [] } in (
      λ same. starts_like_partner c.args.product.now path c.args.i c.in-Some.partner c.in-Some.ensures.some (own ∙ bits_same _ _ same ∙ sym other),
      λ each. bits_equal _ _ (sym own ∙ each c.in-Some.partner c.in-Some.ensures.some ∙ other),
    )
