-- Kinds of what stands at a place.
use Rattle.product_machine.specs.declared.cell.Cell.{Cell}
use Rattle.product_machine.specs.declared.cell.Cell.TheVariants.{Low, Given, Held, Product}

abbrev pub IsInput : Cell → Type 0
IsInput Low = ⊥
IsInput Given = Unit {0}
IsInput (Held start next) = ⊥
IsInput (Product a b) = ⊥

abbrev pub IsLatch : Cell → Type 0
IsLatch Low = ⊥
IsLatch Given = ⊥
IsLatch (Held start next) = Unit {0}
IsLatch (Product a b) = ⊥
