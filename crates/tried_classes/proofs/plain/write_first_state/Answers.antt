use Rattle.std.proofs.Common.{◌∙◌, arith}
use Rattle.tried_classes.proofs.Trying.{first_state_is}
use Rattle.tried_classes.proofs.plain.write_first_state.Goals as goal

pub returns : goal.returns
returns c = first_state_is c.args.product.now c.loop-i.state (c.loop-i.invariant.0 ∙ c.requires) (λ k lt. c.loop-i.invariant.1 k (omega (arith, c.loop-i-test.false, c.requires)))
