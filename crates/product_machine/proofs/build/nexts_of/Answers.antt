use Rattle.std.proofs.Common.{false, ◌∙◌, ◌++◌, ◌<◌, ◌/◌, ℕ, List, map, length, ap, ap₂, sym, subst}
use Rattle.std.specs.List.{All}
use Rattle.circ_model.specs.declared.netlist.Latch.{Latch}
use Rattle.circ_model.specs.Meaning.{Pair, literal_by}
use Rattle.product_machine.specs.Tables.{says}
use Rattle.product_machine.proofs.Tabling.{next_within, left_nexts, right_nexts}
use Rattle.product_machine.proofs.build.nexts_of.Goals as goal

pub push_nexts-requires-clause-within : goal.push_nexts-requires-clause-within
push_nexts-requires-clause-within c =
    let n : ℕ = length c.as_slice.result.now in
    subst (All (λ (l : Latch). l.next / 2 < n)) (sym c.latches.ensures) (next_within c.args.left.now n c.requires.sound.left (ap length c.as_slice.ensures.value ∙ c.requires.tables.is_left.size))

pub push_nexts-requires-2-clause-within : goal.push_nexts-requires-2-clause-within
push_nexts-requires-2-clause-within c =
    let n : ℕ = length c.as_slice-2.result.now in
    subst (All (λ (l : Latch). l.next / 2 < n)) (sym c.latches-2.ensures) (next_within c.args.right.now n c.requires.sound.right (ap length c.as_slice-2.ensures.value ∙ c.requires.tables.is_right.size))

pub returns : goal.returns
returns c =
    let pair : Pair = record { left = c.args.left.now; right = c.args.right.now; tied = false } in
    let lt : List ℕ = c.args.tables.now.left.items in
    let rt : List ℕ = c.args.tables.now.right.items in
    let by : List ℕ → List Latch → List ℕ = λ t ls. map (λ (l : Latch). literal_by (says t) l.next) ls in
    let l = ap₂ by c.as_slice.ensures.value c.latches.ensures ∙ left_nexts pair lt rt c.requires.sound c.requires.tables in
    let r = ap₂ by c.as_slice-2.ensures.value c.latches-2.ensures ∙ right_nexts pair lt rt c.requires.sound c.requires.tables in
    c.in_ok-push_nexts-2.ensures ∙ ap₂ (λ (old more : List ℕ). old ++ more) (c.in_ok-push_nexts.ensures ∙ ap₂ (λ (old more : List ℕ). old ++ more) c.new-nexts.ensures.items l) r
