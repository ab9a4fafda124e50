use Rattle.std.proofs.Common.{◌≡◌, length}
use Rattle.circ_model.specs.Meaning.{state_at, places_of}
use Rattle.product_machine.proofs.product.Product.walk.Given as goal

abbrev pub invariant-loop-s : goal.invariant-loop-s
invariant-loop-s l = (l.state ≡ state_at l.self l.path l.s) × (length l.values ≡ places_of l.self)
