-- What is seen of one who asks: which questions may be put aside, and what is.
use Rattle.std.specs.Prelude.{◌≡◌, ◌<◌, ◌⊎◌, ⊤, ℕ, Option, Some, None, is_some, Bool, true, false}
use Rattle.and_graph.specs.declared.halt.Halt.{Halt}
use Rattle.and_graph.specs.declared.halt.Halt.TheVariants.{Memory, Posed}

-- a question over a cone of more nodes than so many may be put aside, or none may; the nodes of the cone of the one that is
-- put aside, if there is one; and whether that is solved
pub record Asking : Type 0 where
  pub most : Option ℕ
  pub aside : Option ℕ
  pub solved : Bool

-- a question was put aside, which may be: it isn't solved
pub record IsPutAside (before after : Asking) : Type 0 where
  pub most : ℕ
  pub nodes : ℕ
  pub may : before.most ≡ Some most
  pub aside : after.aside ≡ Some nodes
  pub large : most < nodes
  pub unsolved : after.solved ≡ false

-- why a question has no answer: memory ran out, or it was put aside
abbrev pub IsHalted : Asking → Asking → Halt → Type 0
IsHalted before after Memory = ⊤
IsHalted before after Posed = IsPutAside before after

-- what is put aside, if anything, is solved
abbrev pub solved : Asking → Asking
solved asking = record { most = asking.most; aside = asking.aside; solved = is_some asking.aside }

-- the answer to what was put aside is taken in, if it has one: nothing is aside any more, though from then on it may be that no
-- question is put aside. Else nothing changes.
pub record IsTaken (before after : Asking) : Type 0 where
  pub most : (after.most ≡ before.most) ⊎ (after.most ≡ None)
  pub taken : before.solved ≡ true → (after.aside ≡ None) × (after.solved ≡ false)
  pub unsolved : before.solved ≡ false → after ≡ before
