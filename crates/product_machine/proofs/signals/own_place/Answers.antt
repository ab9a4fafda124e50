use Rattle.std.proofs.Common.{◌≡◌, ◌∙◌, ◌-◌, ◌∷◌, ℕ, length, get_or, slice_index, ap, arith, length-append}
use Rattle.circ_model.specs.Netlist.{variables, own}
use Rattle.circ_model.proofs.Rows.{variables_split}
use Rattle.product_machine.proofs.Placing.{SaysOwn, says_own}
use Rattle.product_machine.proofs.signals.own_place.Goals.{then-place-shared-via-then-place-shared, then-place-shared-via-else-place-shared+then-place-count}
use Rattle.product_machine.proofs.signals.own_place.Goals as goal

pub returns-then-at-table-clause-none : goal.returns-then-at-table-clause-none
returns-then-at-table-clause-none c = λ h.
    let room = (says_own c.args.net.now c.args.shift c.args.v c.args.table.now c.requires.sound c.requires.table h).room in
    omega arith

pub returns-then-place-shared-clause-none : goal.returns-then-place-shared-clause-none
returns-then-place-shared-clause-none c = λ h.
    let s : SaysOwn c.args.net.now c.args.shift c.args.v c.args.table.now = says_own c.args.net.now c.args.shift c.args.v c.args.table.now c.requires.sound c.requires.table h in
    let split = ap length (variables_split c.args.net.now) in
    let parts = length-append (0 ∷ c.args.net.now.inputs) (own c.args.net.now) in
    let count = c.variable_count-count.ensures.count in
    let owns = c.own_count.ensures.count in
    elim c.then-place-shared.branch [
      | then-place-shared-via-then-place-shared w ↦ (let low = w.if-place-shared.true in omega (arith, s.place, s.from))
      | then-place-shared-via-else-place-shared+then-place-count w ↦ (let high = w.if-place-count.true in omega (arith, s.place, s.within))
    ]

pub returns-else-variable_at-v-clause-none : goal.returns-else-variable_at-v-clause-none
returns-else-variable_at-v-clause-none c = λ h.
    let s : SaysOwn c.args.net.now c.args.shift c.args.v c.args.table.now = says_own c.args.net.now c.args.shift c.args.v c.args.table.now c.requires.sound c.requires.table h in
    let at : slice_index c.args.table.now c.args.v - c.args.shift ≡ s.at = omega (arith, s.place) in
    let e : c.variable_at.result ≡ c.args.v = c.variable_at.ensures ∙ ap (λ (q : ℕ). get_or (variables c.args.net.now) q 0) at ∙ s.is in
    omega arith
