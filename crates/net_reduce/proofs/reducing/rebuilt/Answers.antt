use Rattle.std.proofs.Common.{◌≡◌, ◌∙◌, ◌<◌, ◌/◌, ◌++◌, ℕ, List, length, map, sym, subst, ap, ap₂}
use Rattle.std.specs.Prelude.{filter}
use Rattle.std.specs.List.{All}
use Rattle.circ_model.specs.declared.netlist.Latch.{Latch}
use Rattle.circ_model.specs.declared.netlist.Gate.{Gate}
use Rattle.circ_model.specs.Netlist.{Netlist}
use Rattle.aig_graph.specs.Finish.{IsFinished}
use Rattle.product_machine.proofs.Tabling.{next_within, left_within, right_within, output_within}
use Rattle.net_reduce.specs.Reduced.{netlist_with, latch_with, gate_with}
use Rattle.net_reduce.specs.Table.{through, stays_by}
use Rattle.net_reduce.proofs.Tables.{latch_within, gate_within}
use Rattle.net_reduce.proofs.reducing.rebuilt.Goals as goal

pub push_latches-requires-clause-vars : goal.push_latches-requires-clause-vars
push_latches-requires-clause-vars c = subst (All (λ (l : Latch). l.var < length c.args.table.now)) (sym c.latches.ensures) (latch_within c.args.net.now (length c.args.table.now) c.requires.sound c.requires.size)

pub push_latches-requires-clause-nexts : goal.push_latches-requires-clause-nexts
push_latches-requires-clause-nexts c = subst (All (λ (l : Latch). l.next / 2 < length c.args.table.now)) (sym c.latches.ensures) (next_within c.args.net.now (length c.args.table.now) c.requires.sound c.requires.size)

pub push_outputs-requires-clause-within : goal.push_outputs-requires-clause-within
push_outputs-requires-clause-within c = subst (All (λ (o : ℕ). o / 2 < length c.args.table.now)) (sym c.outputs.ensures.same) (output_within c.args.net.now (length c.args.table.now) c.requires.sound c.requires.size)

pub push_gates-requires-clause-vars : goal.push_gates-requires-clause-vars
push_gates-requires-clause-vars c = subst (All (λ (g : Gate). g.var < length c.args.table.now)) (sym c.gates.ensures) (gate_within c.args.net.now (length c.args.table.now) c.requires.sound c.requires.size)

pub push_gates-requires-clause-lefts : goal.push_gates-requires-clause-lefts
push_gates-requires-clause-lefts c = subst (All (λ (g : Gate). g.left / 2 < length c.args.table.now)) (sym c.gates.ensures) (left_within c.args.net.now (length c.args.table.now) c.requires.sound c.requires.size)

pub push_gates-requires-clause-rights : goal.push_gates-requires-clause-rights
push_gates-requires-clause-rights c = subst (All (λ (g : Gate). g.right / 2 < length c.args.table.now)) (sym c.gates.ensures) (right_within c.args.net.now (length c.args.table.now) c.requires.sound c.requires.size)

pub returns : goal.returns
returns c =
    let table : List ℕ = c.args.table.now in
    let one = c.in_ok-push_inputs.ensures ∙ ap₂ (λ (b : Netlist) (is : List ℕ). record b { inputs = b.inputs ++ is }) c.in_ok-builder.ensures c.inputs.ensures.same in
    let two = c.in_ok-push_latches.ensures ∙ ap₂ (λ (b : Netlist) (ls : List Latch). record b { latches = b.latches ++ map (latch_with (through table)) (filter (λ (l : Latch). stays_by table l.var) ls) }) one c.latches.ensures in
    let three = c.in_ok-push_outputs.ensures ∙ ap₂ (λ (b : Netlist) (os : List ℕ). record b { outputs = b.outputs ++ map (through table) os }) two c.outputs.ensures.same in
    let four = c.in_ok-push_gates.ensures ∙ ap₂ (λ (b : Netlist) (gs : List Gate). record b { gates = b.gates ++ map (gate_with (through table)) (filter (λ (g : Gate). stays_by table g.var) gs) }) three c.gates.ensures in
    let whole : Netlist = netlist_with (stays_by table) (through table) c.args.net.now in
    let is : c.push_gates.new.builder ≡ whole = four ∙ ap (λ (m : ℕ). record whole { max_var = m }) c.max_var.ensures.same in
    subst (λ (g : Netlist). IsFinished g c.in_ok-reduced.reduced) is c.in_ok-reduced.ensures
