use Rattle.std.proofs.Common.{◌∙◌, [], refl, sym, arith}
use Rattle.circ_model.specs.Meaning.{Path}
use Rattle.product_machine.proofs.Partners.{partner_tied, partner_within, starts_like_partner, bits_same, bits_equal}
use Rattle.tried_classes.proofs.plain.starts_tied.Goals as goal

pub get-requires-in-Some : goal.get-requires-in-Some
get-requires-in-Some c = omega (arith, partner_within c.args.product.now c.args.i c.in-Some.partner c.in-Some.ensures.some, c.requires.start)

pub returns-in-None : goal.returns-in-None
returns-in-None c = (λ _ q are. absurd (c.in-None.ensures.none (partner_tied c.args.product.now c.args.i q are)), λ _. refl)

pub returns-in-Some : goal.returns-in-Some
returns-in-Some c =
    let path : Path = record { start = c.args.start.now; inputs = [] } in (
      λ same. starts_like_partner c.args.product.now path c.args.i c.in-Some.partner c.in-Some.ensures.some (sym c.get.ensures ∙ bits_same c.get.result c.get-in-Some.result same ∙ c.get-in-Some.ensures),
      λ each. bits_equal c.get.result c.get-in-Some.result (c.get.ensures ∙ each c.in-Some.partner c.in-Some.ensures.some ∙ sym c.get-in-Some.ensures),
    )
