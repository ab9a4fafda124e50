use Rattle.std.proofs.Common.{◌∙◌, length, ap, arith}
use Rattle.std.proofs.Common.{ℕ, List, get_or}
use Rattle.product_machine.specs.States.{output_pairs}
use Rattle.product_machine.proofs.States.{length_outputs, output_at}
use Rattle.product_machine.proofs.product.Product.output.Goals as goal

pub index-requires : goal.index-requires
index-requires c = omega (arith, c.requires, length_outputs c.args.self.now, ap length (c.self.invariant.3 ∙ ap output_pairs c.self.view_is))

pub returns : goal.returns
returns c =
    c.index.ensures ∙ ap (λ (l : List (ℕ × ℕ)). get_or l c.args.j c.index.result.now) (c.self.invariant.3 ∙ ap output_pairs c.self.view_is)
    ∙ output_at c.args.self.now c.args.j c.index.result.now c.requires
