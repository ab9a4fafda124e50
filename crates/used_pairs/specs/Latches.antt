-- Two latches that are equal after each frame in which their next literals are.
use Rattle.std.specs.Prelude.{◌≡◌, ◌==◌, ℕ, min, max, Option, Some, None, List, [], ◌∷◌, Bool, if◌then◌else◌}
use Rattle.circ_model.specs.Meaning.{Pair, signed, negated}
use Rattle.class_partition.specs.declared.classes.Needed.{Needed}
use Rattle.class_partition.specs.Classes.{Classes, Pairs, phase_of}
use Rattle.product_machine.specs.declared.cell.Cell.{Cell}
use Rattle.product_machine.specs.declared.cell.Cell.TheVariants.{Low, Given, Held, Product}
use Rattle.product_machine.specs.Signals.{cell_at}

-- the next literal of a latch
abbrev pub next_in : Cell → Option ℕ
next_in Low = None
next_in Given = None
next_in (Held start next) = Some next
next_in (Product a b) = None

-- the next literal of the latch at a place
abbrev pub next_at : Pair → ℕ → Option ℕ
next_at pair p = next_in (cell_at pair p)

-- a literal, complemented where the sign is set
abbrev pub at_sign : Bool → ℕ → ℕ
at_sign sign lit = if sign then negated lit else lit

-- the relative phase of two places
abbrev pub phase_between : Classes → Needed → Bool
phase_between classes u = signed (phase_of classes u.rep) (phase_of classes u.member)

-- latches with these next literals stand at two places, and the classes pair the literals at the relative phase of the places
pub record AreNexts (pair : Pair) (classes : Classes) (u : Needed) (a b : ℕ) : Type 0 where
  pub rep : next_at pair u.rep ≡ Some a
  pub member : next_at pair u.member ≡ Some b
  pub paired : Pairs classes a (at_sign (phase_between classes u) b)

-- latches stand at both places of a pair, and the classes pair their next literals
abbrev pub AreByNext : Pair → Classes → Needed → Type 0
AreByNext pair classes u = (a b : ℕ) × AreNexts pair classes u a b

-- two places as a pair, the lower one first, and none where they are one
abbrev pub between : ℕ → ℕ → List Needed
between p q = if p == q then [] else (record { rep = min p q; member = max p q } ∷ [])
