use Rattle.std.proofs.Common.{◌∙◌, ◌<◌, ◌+◌, ◌/◌, List, Bool, length, ap, sym, subst, arith, set}
use Rattle.circ_model.specs.declared.netlist.Gate.{Gate}
use Rattle.circ_model.specs.Netlist.{Netlist, IsSound}
use Rattle.circ_model.specs.Meaning.{bit, product}
use Rattle.aig_graph.proofs.Evaluating.{IsUnderWay, started, stepped, ended, read_gate, left_room, right_room, var_room}
use Rattle.aig_graph.proofs.netlist.Netlist.eval.Goals as goal

pub loop-gate-init : goal.loop-gate-init
loop-gate-init c =
    let sound : IsSound c.args.self.now = subst IsSound c.self.view_is c.self.invariant.sound in
    subst (λ (row : List Bool). IsUnderWay c.args.self.now c.args.row.now 0 row) (sym c.set.ensures) (started c.args.self.now c.args.row.now sound c.requires)

pub product_of-bit-requires-clause-left : goal.product_of-bit-requires-clause-left
product_of-bit-requires-clause-left c =
    let sound : IsSound c.args.self.now = subst IsSound c.self.view_is c.self.invariant.sound in
    let items = c.deref-gate-items.ensures.value ∙ ap (λ (n : Netlist). n.gates) c.self.view_is in
    let g = read_gate c.args.self.now c.deref-gate-items.result.now c.loop-gate.gate-index c.gate-item.result items c.loop-gate-test.true c.gate-item.is in
    let lt : c.loop-gate.gate-index < length c.args.self.now.gates = omega (arith, ap length items) in
    subst (λ (h : Gate). h.left / 2 < length c.loop-gate.row) (sym g) (left_room c.args.self.now c.loop-gate.gate-index (length c.loop-gate.row) sound (c.loop-gate.invariant.size ∙ c.requires) lt)

pub product_of-bit-requires-clause-right : goal.product_of-bit-requires-clause-right
product_of-bit-requires-clause-right c =
    let sound : IsSound c.args.self.now = subst IsSound c.self.view_is c.self.invariant.sound in
    let items = c.deref-gate-items.ensures.value ∙ ap (λ (n : Netlist). n.gates) c.self.view_is in
    let g = read_gate c.args.self.now c.deref-gate-items.result.now c.loop-gate.gate-index c.gate-item.result items c.loop-gate-test.true c.gate-item.is in
    let lt : c.loop-gate.gate-index < length c.args.self.now.gates = omega (arith, ap length items) in
    subst (λ (h : Gate). h.right / 2 < length c.loop-gate.row) (sym g) (right_room c.args.self.now c.loop-gate.gate-index (length c.loop-gate.row) sound (c.loop-gate.invariant.size ∙ c.requires) lt)

pub set-requires-in-loop-gate : goal.set-requires-in-loop-gate
set-requires-in-loop-gate c =
    let sound : IsSound c.args.self.now = subst IsSound c.self.view_is c.self.invariant.sound in
    let items = c.deref-gate-items.ensures.value ∙ ap (λ (n : Netlist). n.gates) c.self.view_is in
    let g = read_gate c.args.self.now c.deref-gate-items.result.now c.loop-gate.gate-index c.gate-item.result items c.loop-gate-test.true c.gate-item.is in
    let lt : c.loop-gate.gate-index < length c.args.self.now.gates = omega (arith, ap length items) in
    subst (λ (h : Gate). h.var < length c.loop-gate.row) (sym g) (var_room c.args.self.now c.loop-gate.gate-index (length c.loop-gate.row) sound (c.loop-gate.invariant.size ∙ c.requires) lt)

pub loop-gate-preserved : goal.loop-gate-preserved
loop-gate-preserved c =
    let sound : IsSound c.args.self.now = subst IsSound c.self.view_is c.self.invariant.sound in
    let items = c.deref-gate-items.ensures.value ∙ ap (λ (n : Netlist). n.gates) c.self.view_is in
    let g = read_gate c.args.self.now c.deref-gate-items.result.now c.loop-gate.gate-index c.gate-item.result items c.loop-gate-test.true c.gate-item.is in
    let lt : c.loop-gate.gate-index < length c.args.self.now.gates = omega (arith, ap length items) in
    let is = c.product_of-bit.ensures ∙ ap (product (bit c.loop-gate.row)) g in
    subst (λ (row : List Bool). IsUnderWay c.args.self.now c.args.row.now (c.loop-gate.gate-index + 1) row)
    (sym (c.set-in-loop-gate.ensures ∙ ap (λ (h : Gate). set c.loop-gate.row h.var c.product_of-bit.result) g))
    (stepped c.args.self.now c.args.row.now c.loop-gate.row c.loop-gate.gate-index c.product_of-bit.result sound c.requires lt is c.loop-gate.invariant)

pub returns : goal.returns
returns c =
    let items = c.deref-gate-items.ensures.value ∙ ap (λ (n : Netlist). n.gates) c.self.view_is in
    ended c.args.self.now c.args.row.now c.loop-gate.row c.loop-gate.gate-index (omega (arith, ap length items)) c.loop-gate.invariant
