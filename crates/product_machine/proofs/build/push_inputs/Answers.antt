use Rattle.std.proofs.Common.{◌∙◌, ◌++◌, ◌∷◌, [], ℕ, List, map, take, ap, sym, append_assoc}
use Rattle.std.proofs.lemmas.List.{map_more}
use Rattle.product_machine.specs.declared.cell.Cell.{Cell}
use Rattle.product_machine.specs.declared.cell.Cell.TheVariants.{Given}
use Rattle.product_machine.proofs.build.push_inputs.Goals as goal

pub loop-input-preserved : goal.loop-input-preserved
loop-input-preserved c =
    c.in_ok-push.ensures.items ∙ ap (λ (l : List Cell). l ++ Given ∷ []) c.loop-input.invariant
    ∙ append_assoc c.args.cells.now.items (map (λ (v : ℕ). Given) (take c.loop-input._input-index c.args.inputs.now)) (Given ∷ [])
    ∙ ap (λ (l : List Cell). c.args.cells.now.items ++ l) (sym (map_more (λ (v : ℕ). Given) c.args.inputs.now c.loop-input._input-index 0 c.loop-input-test.true))
