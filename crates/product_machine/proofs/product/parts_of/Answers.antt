use Rattle.std.proofs.Common.{Bool, false}
use Rattle.circ_model.specs.Netlist.{Netlist}
use Rattle.circ_model.specs.Meaning.{IsSoundPair}
use Rattle.product_machine.proofs.product.parts_of.Goals as goal

untied : (left right : Netlist) (tied : Bool) → IsSoundPair (record { left = left; right = right; tied = tied }) → IsSoundPair (record { left = left; right = right; tied = false })
untied left right tied sound = record { left = sound.left; right = sound.right; inputs = sound.inputs; outputs = sound.outputs; ties = λ t. absurd (let bad : ⊥ = cc in bad) }

pub tables_of-requires : goal.tables_of-requires
tables_of-requires c = untied c.args.left.now c.args.right.now c.args.tied c.requires

pub cells_of-requires-clause-sound : goal.cells_of-requires-clause-sound
cells_of-requires-clause-sound c = c.requires

pub nexts_of-requires-clause-sound : goal.nexts_of-requires-clause-sound
nexts_of-requires-clause-sound c = untied c.args.left.now c.args.right.now c.args.tied c.requires

pub outputs_of-requires-clause-sound : goal.outputs_of-requires-clause-sound
outputs_of-requires-clause-sound c = untied c.args.left.now c.args.right.now c.args.tied c.requires

pub returns : goal.returns
returns c = (c.in_ok-cells_of.ensures, c.in_ok-nexts_of.ensures, c.in_ok-outputs_of.ensures, c.in_ok-tables.ensures)
