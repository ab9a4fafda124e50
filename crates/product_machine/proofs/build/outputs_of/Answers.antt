use Rattle.std.proofs.Common.{false, ◌∙◌, ◌<◌, ◌/◌, ℕ, List, length, ap, ap₂, sym, subst}
use Rattle.std.specs.List.{All}
use Rattle.circ_model.specs.Meaning.{Pair}
use Rattle.product_machine.specs.Tables.{says, outputs_by}
use Rattle.product_machine.proofs.Tabling.{output_within, outputs_are}
use Rattle.product_machine.proofs.build.outputs_of.Goals as goal

pub push_outputs-requires-clause-left_within : goal.push_outputs-requires-clause-left_within
push_outputs-requires-clause-left_within c =
    let n : ℕ = length c.as_slice.result.now in
    subst (All (λ (o : ℕ). o / 2 < n)) (sym c.outputs.ensures.same) (output_within c.args.left.now n c.requires.sound.left (ap length c.as_slice.ensures.value ∙ c.requires.tables.is_left.size))

pub push_outputs-requires-clause-right_within : goal.push_outputs-requires-clause-right_within
push_outputs-requires-clause-right_within c =
    let n : ℕ = length c.as_slice-2.result.now in
    subst (All (λ (o : ℕ). o / 2 < n)) (sym c.outputs-2.ensures.same) (output_within c.args.right.now n c.requires.sound.right (ap length c.as_slice-2.ensures.value ∙ c.requires.tables.is_right.size))

pub returns : goal.returns
returns c =
    let pair : Pair = record { left = c.args.left.now; right = c.args.right.now; tied = false } in
    c.in_ok-push_outputs.ensures
    ∙ ap₂ (λ (l r : List ℕ). outputs_by (says l) (says r) c.outputs.result.now c.outputs-2.result.now) c.as_slice.ensures.value c.as_slice-2.ensures.value
    ∙ ap₂ (outputs_by (says c.args.tables.now.left.items) (says c.args.tables.now.right.items)) c.outputs.ensures.same c.outputs-2.ensures.same
    ∙ outputs_are pair c.args.tables.now.left.items c.args.tables.now.right.items c.requires.sound c.requires.tables
