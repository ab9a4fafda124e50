use Rattle.std.proofs.Common.{◌∙◌, Bool, List, length, refl, ap, sym, arith}
use Rattle.circ_model.specs.Meaning.{bit, Path}
use Rattle.product_machine.proofs.Partners.{partner_tied, partner_within, starts_like_partner, bits_same, bits_equal}
use Rattle.product_machine.proofs.product.Product.starts_tied.Goals as goal

pub get-requires-in-Some : goal.get-requires-in-Some
get-requires-in-Some c = omega (arith, partner_within c.args.self.now c.args.i c.in-Some.partner c.in-Some.ensures.some, ap (λ (p : Path). length p.start) c.path.view_is, c.requires.path.start)

pub returns-in-None : goal.returns-in-None
returns-in-None c = (λ _ q are. absurd (c.in-None.ensures.none (partner_tied c.args.self.now c.args.i q are)), λ _. refl)

pub returns-in-Some : goal.returns-in-Some
returns-in-Some c =
    let start = ap (λ (p : Path). p.start) c.path.view_is in
    let own = c.get.ensures ∙ ap (λ (bits : List Bool). bit bits c.args.i) start in
    let other = c.get-in-Some.ensures ∙ ap (λ (bits : List Bool). bit bits c.in-Some.partner) start in (
      λ same. starts_like_partner c.args.self.now c.args.path.now c.args.i c.in-Some.partner c.in-Some.ensures.some (sym own ∙ bits_same c.get.result c.get-in-Some.result same ∙ other),
      λ each. bits_equal c.get.result c.get-in-Some.result (own ∙ each c.in-Some.partner c.in-Some.ensures.some ∙ sym other),
    )
