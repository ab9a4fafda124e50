use Rattle.std.proofs.Common.{◌≡◌, ◌∙◌, ◌<◌, ℕ, List, [], ◌∷◌, ◌++◌, length, get_or, ap, sym, arith}
use Rattle.std.proofs.lemmas.List.{get_or_default}
use Rattle.leaf_rows.proofs.Leaves.{no_places, places_with, places_without}
use Rattle.leaf_rows.specs.Rows.{is_leaf}
use Rattle.product_machine.specs.declared.cell.Cell.{Cell}
use Rattle.product_machine.specs.declared.cell.Cell.TheVariants.{Low}
use Rattle.leaf_rows.proofs.table.find_leaves.Goals.{then-is_leaf+in_ok-push, else-is_leaf}
use Rattle.leaf_rows.proofs.table.find_leaves.Goals as goal

pub loop-p-init : goal.loop-p-init
loop-p-init c = c.new-places.ensures.items ∙ no_places c.args.cells.now

pub loop-p-preserved : goal.loop-p-preserved
loop-p-preserved c =
    let cs : List Cell = c.args.cells.now in
    let p : ℕ = c.loop-p.p in
    let test = c.loop-p-test.true in
    let lt : p < length cs = omega arith in
    let read : c.index-cells-p.result ≡ get_or cs p Low = c.index-cells-p.is ∙ get_or_default cs p c.index-cells-p.result Low lt in
    let leaf : c.is_leaf.result ≡ is_leaf (get_or cs p Low) = c.is_leaf.ensures ∙ ap is_leaf read in
    elim c.if-is_leaf.branch [
      | then-is_leaf+in_ok-push w ↦ rw w.places-is (w.in_ok-push.ensures.items ∙ ap (λ (l : List ℕ). l ++ (p ∷ [])) c.loop-p.invariant ∙ sym (places_with cs p lt (sym leaf ∙ w.if-is_leaf.true)))
      | else-is_leaf w ↦ rw w.places-is (c.loop-p.invariant ∙ sym (places_without cs p lt (sym leaf ∙ w.if-is_leaf.false)))
    ]
