use Rattle.std.proofs.Common.{◌≡◌, ◌∙◌, ◌+◌, length, ap, subst, arith}
use Rattle.circ_model.specs.Meaning.{bit}
use Rattle.circ_model.specs.Meaning.{Pair, IsSoundPair}
use Rattle.circ_model.specs.Meaning.{left_from, right_from}
use Rattle.circ_model.proofs.Rows.{length_own, length_places}
use Rattle.product_machine.proofs.OneRow.{ready}
use Rattle.product_machine.proofs.Size.{few_places}
use Rattle.product_machine.proofs.product.Product.eval.Goals as goal

pub overflow_cast-given : goal.overflow_cast-given
overflow_cast-given c =
    let is : IsSoundPair c.args.self.now = subst IsSoundPair c.self.view_is c.self.invariant.0 in
    omega (arith, few_places c.args.self.now is, length_places c.args.self.now, ap length (c.inputs.ensures.same ∙ ap (λ (v : Pair). v.left.inputs) c.self.view_is))

pub overflow_cast-lefts : goal.overflow_cast-lefts
overflow_cast-lefts c =
    let is : IsSoundPair c.args.self.now = subst IsSoundPair c.self.view_is c.self.invariant.0 in
    omega (arith, few_places c.args.self.now is, length_places c.args.self.now, ap length (c.latches.ensures ∙ ap (λ (v : Pair). v.left.latches) c.self.view_is))

pub overflow_cast-gates : goal.overflow_cast-gates
overflow_cast-gates c =
    let is : IsSoundPair c.args.self.now = subst IsSoundPair c.self.view_is c.self.invariant.0 in
    omega (arith, few_places c.args.self.now is, length_places c.args.self.now, ap length (c.gates.ensures ∙ ap (λ (v : Pair). v.left.gates) c.self.view_is))

pub overflow_cast-rights : goal.overflow_cast-rights
overflow_cast-rights c =
    let is : IsSoundPair c.args.self.now = subst IsSoundPair c.self.view_is c.self.invariant.0 in
    omega (arith, few_places c.args.self.now is, length_places c.args.self.now, ap length (c.latches-2.ensures ∙ ap (λ (v : Pair). v.right.latches) c.self.view_is))

pub place_free-requires-clause-states : goal.place_free-requires-clause-states
place_free-requires-clause-states c =
    let is : IsSoundPair c.args.self.now = subst IsSoundPair c.self.view_is c.self.invariant.0 in
    omega (arith, few_places c.args.self.now is, length_places c.args.self.now, ap length (c.inputs.ensures.same ∙ ap (λ (v : Pair). v.left.inputs) c.self.view_is), ap length (c.latches.ensures ∙ ap (λ (v : Pair). v.left.latches) c.self.view_is), ap length (c.gates.ensures ∙ ap (λ (v : Pair). v.left.gates) c.self.view_is), ap length (c.latches-2.ensures ∙ ap (λ (v : Pair). v.right.latches) c.self.view_is))

pub place_free-requires-clause-inputs : goal.place_free-requires-clause-inputs
place_free-requires-clause-inputs c =
    let is : IsSoundPair c.args.self.now = subst IsSoundPair c.self.view_is c.self.invariant.0 in
    omega (arith, few_places c.args.self.now is, length_places c.args.self.now, ap length (c.inputs.ensures.same ∙ ap (λ (v : Pair). v.left.inputs) c.self.view_is), ap length (c.latches.ensures ∙ ap (λ (v : Pair). v.left.latches) c.self.view_is), ap length (c.gates.ensures ∙ ap (λ (v : Pair). v.left.gates) c.self.view_is), ap length (c.latches-2.ensures ∙ ap (λ (v : Pair). v.right.latches) c.self.view_is))

pub place_free-requires-clause-size : goal.place_free-requires-clause-size
place_free-requires-clause-size c =
    let is : IsSoundPair c.args.self.now = subst IsSoundPair c.self.view_is c.self.invariant.0 in
    omega (arith, few_places c.args.self.now is, length_places c.args.self.now, ap length (c.inputs.ensures.same ∙ ap (λ (v : Pair). v.left.inputs) c.self.view_is), ap length (c.latches.ensures ∙ ap (λ (v : Pair). v.left.latches) c.self.view_is), ap length (c.gates.ensures ∙ ap (λ (v : Pair). v.left.gates) c.self.view_is), ap length (c.latches-2.ensures ∙ ap (λ (v : Pair). v.right.latches) c.self.view_is))

pub place_free-requires-clause-room : goal.place_free-requires-clause-room
place_free-requires-clause-room c =
    let is : IsSoundPair c.args.self.now = subst IsSoundPair c.self.view_is c.self.invariant.0 in
    omega (arith, few_places c.args.self.now is, length_places c.args.self.now, ap length (c.inputs.ensures.same ∙ ap (λ (v : Pair). v.left.inputs) c.self.view_is), ap length (c.latches.ensures ∙ ap (λ (v : Pair). v.left.latches) c.self.view_is), ap length (c.gates.ensures ∙ ap (λ (v : Pair). v.left.gates) c.self.view_is), ap length (c.latches-2.ensures ∙ ap (λ (v : Pair). v.right.latches) c.self.view_is))

pub fill-requires-clause-size : goal.fill-requires-clause-size
fill-requires-clause-size c = c.place_free.ensures.size ∙ c.requires.size

pub fill-requires-clause-ready : goal.fill-requires-clause-ready
fill-requires-clause-ready c =
    let is : IsSoundPair c.args.self.now = subst IsSoundPair c.self.view_is c.self.invariant.0 in
    let i = ap length (c.inputs.ensures.same ∙ ap (λ (v : Pair). v.left.inputs) c.self.view_is) in
    let l = ap length (c.latches.ensures ∙ ap (λ (v : Pair). v.left.latches) c.self.view_is) in
    let g = ap length (c.gates.ensures ∙ ap (λ (v : Pair). v.left.gates) c.self.view_is) in
    let r = ap length (c.latches-2.ensures ∙ ap (λ (v : Pair). v.right.latches) c.self.view_is) in
    let s = is.inputs in
    ready c.args.self.now c.args.state.now c.args.inputs.now c.place_free.new.values is c.requires.frame
    (λ k lt. c.place_free.ensures.inputs k (omega arith))
    (λ k lt. ap (bit c.place_free.new.values) (let e : left_from c.args.self.now + k ≡ 1 + length c.inputs.result.now + k = omega arith in e) ∙ c.place_free.ensures.left k (omega arith))
    (λ k lt. ap (bit c.place_free.new.values) (let e : right_from c.args.self.now + k ≡ 1 + length c.inputs.result.now + length c.latches.result.now + length c.gates.result.now + k = omega (arith, length_own c.args.self.now.left) in e)
    ∙ c.place_free.ensures.right k (omega arith) ∙ ap (bit c.args.state.now) (let e : length c.latches.result.now + k ≡ length c.args.self.now.left.latches + k = omega arith in e))
