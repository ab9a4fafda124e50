use Rattle.std.proofs.Common.{◌∙◌, length, ap}
use Rattle.product_machine.specs.Walk.{Frame}
use Rattle.product_machine.proofs.product.Product.step.Goals as goal

pub eval-requires-clause-frame : goal.eval-requires-clause-frame
eval-requires-clause-frame c = record { state_length = ap (λ (f : Frame). length f.state) c.scratch.view_is ∙ c.requires.scratch.state; input_length = c.requires.inputs }
