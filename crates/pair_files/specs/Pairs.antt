-- The pair of two files, or why there is none.
use Rattle.std.specs.Prelude.{◌≡◌, ◌≢◌, ℕ, List, length, Bool, IsTrue, Option}
use Rattle.circ_model.specs.Netlist.{Netlist}
use Rattle.circ_model.specs.Meaning.{Pair, IsSoundPair, free_latches}
use Rattle.product_machine.specs.declared.product.PairFault.{PairFault}
use Rattle.product_machine.specs.declared.product.PairFault.TheVariants as faults
use Rattle.pair_files.specs.declared.fault.Side.{Side}
use Rattle.pair_files.specs.declared.fault.Side.TheVariants.{Left, Right}
use Rattle.pair_files.specs.declared.fault.Unpaired.{Unpaired}
use Rattle.pair_files.specs.declared.fault.Unpaired.TheVariants as unpaired
use Rattle.pair_files.specs.declared.fault.Unread.{Unread}
use Rattle.pair_files.specs.declared.fault.Unread.TheVariants as unread
use Rattle.pair_files.specs.Files.{IsAccepted, IsRefused}

-- both files are accepted, as this pair, whose free latches are tied or not
pub record AreAccepted (tied : Bool) (left right : Option (List ℕ)) (pair : Pair) : Type 0 where
  pub is_left : IsAccepted left pair.left
  pub is_right : IsAccepted right pair.right
  pub ties : pair.tied ≡ tied

-- and it has as many inputs on both sides, and as many outputs, and where they are tied as many free latches
pub record ArePair (tied : Bool) (left right : Option (List ℕ)) (pair : Pair) : Type 0 where
  pub accepted : AreAccepted tied left right pair
  pub sound : IsSoundPair pair

-- the counts of two netlists differ
abbrev pub AreApart : Pair → Unpaired → Type 0
AreApart pair (unpaired.InputsDiffer a b) = (a ≡ length pair.left.inputs) × (b ≡ length pair.right.inputs) × (a ≢ b)
AreApart pair (unpaired.OutputsDiffer a b) = (length pair.left.inputs ≡ length pair.right.inputs) × (a ≡ length pair.left.outputs) × (b ≡ length pair.right.outputs) × (a ≢ b)
AreApart pair (unpaired.FreeDiffer a b) =
    IsTrue pair.tied × (length pair.left.inputs ≡ length pair.right.inputs) × (length pair.left.outputs ≡ length pair.right.outputs)
    × (a ≡ length (free_latches pair.left)) × (b ≡ length (free_latches pair.right)) × (a ≢ b)
AreApart pair unpaired.Memory = Unit {0}
AreApart pair (unpaired.LoadFailed side) = ⊥
AreApart pair (unpaired.Refused side f) = ⊥

-- there is no pair where two netlists have no product
abbrev pub unpaired_by : PairFault → Unpaired
unpaired_by (faults.Inputs a b) = unpaired.InputsDiffer a b
unpaired_by (faults.Outputs a b) = unpaired.OutputsDiffer a b
unpaired_by (faults.Free a b) = unpaired.FreeDiffer a b
unpaired_by faults.Memory = unpaired.Memory

-- why there is no pair of these two files, tied or not
abbrev pub IsNoPair : Bool → Option (List ℕ) → Option (List ℕ) → Unpaired → Type 0
IsNoPair tied left right unpaired.Memory = Unit {0}
IsNoPair tied left right (unpaired.LoadFailed Left) = Unit {0}
IsNoPair tied left right (unpaired.LoadFailed Right) = (net : Netlist) × IsAccepted left net
IsNoPair tied left right (unpaired.Refused Left f) = IsRefused left f
IsNoPair tied left right (unpaired.Refused Right f) = ((net : Netlist) × IsAccepted left net) × IsRefused right f
IsNoPair tied left right (unpaired.InputsDiffer a b) = (pair : Pair) × AreAccepted tied left right pair × AreApart pair (unpaired.InputsDiffer a b)
IsNoPair tied left right (unpaired.OutputsDiffer a b) = (pair : Pair) × AreAccepted tied left right pair × AreApart pair (unpaired.OutputsDiffer a b)
IsNoPair tied left right (unpaired.FreeDiffer a b) = (pair : Pair) × AreAccepted tied left right pair × AreApart pair (unpaired.FreeDiffer a b)

-- there is no pair where one of its files has no netlist
abbrev pub unread_as : Side → Unread → Unpaired
unread_as side unread.Failed = unpaired.LoadFailed side
unread_as side (unread.Refused f) = unpaired.Refused side f
unread_as side unread.Memory = unpaired.Memory

-- a netlist's file couldn't be loaded
abbrev pub IsLoadFailed : Unpaired → Type 0
IsLoadFailed (unpaired.LoadFailed side) = Unit {0}
IsLoadFailed unpaired.Memory = ⊥
IsLoadFailed (unpaired.Refused side f) = ⊥
IsLoadFailed (unpaired.InputsDiffer a b) = ⊥
IsLoadFailed (unpaired.OutputsDiffer a b) = ⊥
IsLoadFailed (unpaired.FreeDiffer a b) = ⊥
