-- What a pairing answers.
use Rattle.std.specs.Prelude.{◌≡◌, ◌≢◌, Bool, IsTrue, length, Result, Ok, Err}
use Rattle.circ_model.specs.Netlist.{Netlist}
use Rattle.circ_model.specs.Meaning.{Pair, free_latches}
use Rattle.product_machine.specs.declared.product.PairFault.{PairFault}
use Rattle.product_machine.specs.declared.product.PairFault.TheVariants.{Inputs, Outputs, Free, Memory}

-- the sides of a tied pair have as many free latches
abbrev FreeAgree : Bool → Netlist → Netlist → Type 0
FreeAgree tied left right = IsTrue tied → length (free_latches left) ≡ length (free_latches right)

-- the pair, tied or not, or the first count that differs
abbrev pub Pairs : Bool → Netlist → Netlist → Result Pair PairFault → Type 0
Pairs tied left right (Ok p) = (p ≡ record { left = left; right = right; tied = tied }) × (length left.inputs ≡ length right.inputs) × (length left.outputs ≡ length right.outputs) × FreeAgree tied left right
Pairs tied left right (Err (Inputs a b)) = (a ≡ length left.inputs) × (b ≡ length right.inputs) × (a ≢ b)
Pairs tied left right (Err (Outputs a b)) = (length left.inputs ≡ length right.inputs) × (a ≡ length left.outputs) × (b ≡ length right.outputs) × (a ≢ b)
Pairs tied left right (Err (Free a b)) = IsTrue tied × (length left.inputs ≡ length right.inputs) × (length left.outputs ≡ length right.outputs) × (a ≡ length (free_latches left)) × (b ≡ length (free_latches right)) × (a ≢ b)
Pairs tied left right (Err Memory) = (length left.inputs ≡ length right.inputs) × (length left.outputs ≡ length right.outputs) × FreeAgree tied left right
