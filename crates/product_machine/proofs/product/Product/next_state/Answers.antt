use Rattle.std.proofs.Common.{◌≡◌, ◌∙◌, ℕ, ◌<◌, ◌+◌, ◌/◌, List, Bool, map, length, slice_index, length-set, ap, subst, sym, arith}
use Rattle.circ_model.specs.Meaning.{bit, IsSoundPair, value_in}
use Rattle.product_machine.specs.States.{nexts}
use Rattle.product_machine.proofs.States.{next_within_places, next_read, written_more, all_written, next_state_is}
use Rattle.product_machine.proofs.product.Product.next_state.Goals as goal

pub literal_bit-bit-requires : goal.literal_bit-bit-requires
literal_bit-bit-requires c =
    let is : IsSoundPair c.args.self.now = subst IsSoundPair c.self.view_is c.self.invariant.0 in
    let lt = c.loop-i-test.true in
    let h = next_within_places c.args.self.now c.self.inside.next_literals.items c.loop-i.i c.index.result.now is (c.self.invariant.2 ∙ ap nexts c.self.view_is) (omega (arith, c.requires.state, c.len-i-end.ensures)) in
    subst (λ (n : ℕ). n / 2 < length c.args.values.now) (sym c.index.ensures) (omega (arith, c.requires.values, h))

pub returns-clause-values : goal.returns-clause-values
returns-clause-values c =
    let past = c.loop-i-test.false in
    all_written c.args.self.now c.args.values.now c.loop-i.state c.loop-i.i (omega (arith, c.requires.state, c.len-i-end.ensures)) (c.loop-i.invariant.0 ∙ c.requires.state) c.loop-i.invariant.1

pub returns-clause-next : goal.returns-clause-next
returns-clause-next c inputs on values =
    let is : IsSoundPair c.args.self.now = subst IsSoundPair c.self.view_is c.self.invariant.0 in
    returns-clause-values c ∙ ap (λ (v : List Bool). map (value_in v) (nexts c.args.self.now)) values ∙ next_state_is c.args.self.now c.args.state.now inputs is on

pub loop-i-preserved : goal.loop-i-preserved
loop-i-preserved c =
    let items : List ℕ = c.self.inside.next_literals.items in
    let same = c.self.invariant.2 ∙ ap nexts c.self.view_is in
    let lt : c.loop-i.i < length c.loop-i.state = (let test = c.loop-i-test.true in omega (arith, c.len-i-end.ensures, c.loop-i.invariant.0)) in
    let read = next_read c.args.self.now items c.loop-i.i c.index.result.now same (let test = c.loop-i-test.true in omega (arith, c.requires.state, c.len-i-end.ensures)) c.index.ensures in (
      ap length c.set.ensures ∙ length-set c.loop-i.state c.loop-i.i c.literal_bit-bit.result ∙ c.loop-i.invariant.0,
      subst (λ (bits : List Bool). (k : ℕ) → k < c.loop-i.i + 1 → bit bits k ≡ value_in c.args.values.now (slice_index (nexts c.args.self.now) k)) (sym c.set.ensures)
          (written_more c.args.self.now c.args.values.now c.loop-i.state c.loop-i.i c.literal_bit-bit.result lt (c.literal_bit-bit.ensures ∙ ap (value_in c.args.values.now) read) c.loop-i.invariant.1),
    )
