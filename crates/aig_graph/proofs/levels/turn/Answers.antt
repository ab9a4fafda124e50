use Rattle.std.proofs.Common.{◌≡◌, ◌≤◌, ◌+◌, ◌-◌, length, get_or, sym, ap, ◌∙◌, arith}
use Rattle.std.proofs.lemmas.Grind.{get_or_default_zero}
use Rattle.aig_graph.specs.Walk.{gate_in}
use Rattle.aig_graph.proofs.Walks.{turn_settles, turn_cyclic, turn_meets, is_gate}
use Rattle.aig_graph.proofs.levels.turn.Goals as goal

pub returns-in_default : goal.returns-in_default
returns-in_default c =
    let n = c.len-end.result - 1 in
    let top : length c.args.stack.now.items ≡ n + 1 = omega (arith, c.len-end.ensures) in
    let at : get_or c.args.stack.now.items n 0 ≡ c.index.result.now = sym (get_or_default_zero c.args.stack.now.items n c.index.result.now (omega arith)) ∙ sym c.index.ensures in
    let is : c.gate_of-gate.result ≡ gate_in c.args.gates.now (get_or c.args.stack.now.items n 0) = c.gate_of-gate.ensures ∙ ap (λ k. gate_in c.args.gates.now k) (sym at) in
    rw c.truncate.ensures.items (turn_settles c.args.defs.now c.args.gates.now c.args.level.now c.args.stack.now.items n c.gate_of-gate.result c.level_above.result c.requires.index c.requires.walk top is c.in_default.ensures.0 c.in_default.ensures.1 (omega (arith, c.level_above.ensures)))

pub returns-then-level-waits_for : goal.returns-then-level-waits_for
returns-then-level-waits_for c =
    let n = c.len-end.result - 1 in
    let top : length c.args.stack.now.items ≡ n + 1 = omega (arith, c.len-end.ensures) in
    let at : get_or c.args.stack.now.items n 0 ≡ c.index.result.now = sym (get_or_default_zero c.args.stack.now.items n c.index.result.now (omega arith)) ∙ sym c.index.ensures in
    let is : c.gate_of-gate.result ≡ gate_in c.args.gates.now (get_or c.args.stack.now.items n 0) = c.gate_of-gate.ensures ∙ ap (λ k. gate_in c.args.gates.now k) (sym at) in
    turn_cyclic c.args.gates.now c.args.level.now c.args.stack.now.items n c.in-Some.waits_for c.gate_of-gate.result c.args.defs.now c.requires.walk top is c.in-Some.ensures.0 c.if-level-waits_for.true

pub returns : goal.returns
returns c =
    let n = c.len-end.result - 1 in
    let level = c.args.level.now in
    let v = c.in-Some.waits_for in
    let top : length c.args.stack.now.items ≡ n + 1 = omega (arith, c.len-end.ensures) in
    let at : get_or c.args.stack.now.items n 0 ≡ c.index.result.now = sym (get_or_default_zero c.args.stack.now.items n c.index.result.now (omega arith)) ∙ sym c.index.ensures in
    let is : c.gate_of-gate.result ≡ gate_in c.args.gates.now (get_or c.args.stack.now.items n 0) = c.gate_of-gate.ensures ∙ ap (λ k. gate_in c.args.gates.now k) (sym at) in
    let high : 4294967294 ≤ get_or level v 0 = c.in-Some.ensures.1 in
    let two = is_gate c.args.defs.now c.args.gates.now level c.args.stack.now.items v c.requires.walk high in
    let def : get_or c.args.defs.now v 0 ≡ (get_or c.args.defs.now v 0 - 2) + 2 = omega arith in
    rw c.in_ok-push.ensures.items (turn_meets c.args.defs.now c.args.gates.now level c.args.stack.now.items v (get_or c.args.defs.now v 0 - 2) n c.gate_of-gate.result c.requires.index c.requires.walk top is c.in-Some.ensures.0 def c.in-Some.ensures.2 (omega (arith, c.if-level-waits_for.false)))
