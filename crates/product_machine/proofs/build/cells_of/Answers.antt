use Rattle.std.proofs.Common.{◌≡◌, ◌∙◌, ◌++◌, ◌∷◌, [], ℕ, List, map, ap, ap₂}
use Rattle.product_machine.specs.declared.cell.Cell.{Cell}
use Rattle.product_machine.specs.declared.cell.Cell.TheVariants.{Low, Given}
use Rattle.circ_model.specs.Meaning.{Pair, literal_by}
use Rattle.product_machine.specs.Cells.{own_cells}
use Rattle.product_machine.specs.Tables.{says}
use Rattle.product_machine.proofs.Tabling.{left_cells, right_cells}
use Rattle.product_machine.proofs.build.cells_of.Goals as goal

pub returns : goal.returns
returns c =
    let pair : Pair = record { left = c.args.left.now; right = c.args.right.now; tied = c.args.tied } in
    let lt : List ℕ = c.args.tables.now.left.items in
    let rt : List ℕ = c.args.tables.now.right.items in
    let first : c.push_shared.new.cells.items ≡ Low ∷ map (λ (v : ℕ). Given) c.args.left.now.inputs =
    c.in_ok-push_shared.ensures ∙ ap₂ (λ (old : List Cell) (is : List ℕ). old ++ (Low ∷ map (λ (v : ℕ). Given) is)) c.new-table.ensures.items c.inputs.ensures.same in
    let l = ap (λ (t : List ℕ). own_cells (literal_by (says t)) [] c.args.left.now) c.as_slice.ensures.value ∙ left_cells pair lt rt c.requires.sound c.requires.tables in
    let r = ap₂ (λ (ps t : List ℕ). own_cells (literal_by (says t)) ps c.args.right.now) (c.as_slice-2.ensures.value ∙ c.in_ok-partners.ensures) c.as_slice-3.ensures.value ∙ right_cells pair lt rt c.requires.sound c.requires.tables in
    c.in_ok-push_side-2.ensures ∙ ap₂ (λ (old more : List Cell). old ++ more) (c.in_ok-push_side.ensures ∙ ap₂ (λ (old more : List Cell). old ++ more) first l) r
