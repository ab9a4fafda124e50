use Rattle.std.proofs.Common.{◌∙◌, ◌+◌, ◌*◌, length, refl, ap, arith}
use Rattle.circ_model.specs.Netlist.{Netlist}
use Rattle.demo_pair.specs.Demo.{Making, input_made, gate_made, latch_made}
use Rattle.demo_pair.proofs.Made.{keeps, gate_keeps, latch_keeps}
use Rattle.demo_pair.proofs.making.make_left.Goals as goal

pub make_outputs-requires-clause-room : goal.make_outputs-requires-clause-room
make_outputs-requires-clause-room c =
    let n = c.args.n in
    let latches = ap (λ (s : Making). s.0.outputs) c.in_ok-make_latches.ensures ∙ keeps (latch_made (8 * n)) n (n + 1) (c.make_gates.new.builder, c.make_gates.new.generator) (latch_keeps (8 * n)) in
    let gates = ap (λ (s : Making). s.0.outputs) c.in_ok-make_gates.ensures ∙ keeps gate_made (6 * n) (2 * n + 1) (c.make_inputs.new.builder, c.args.generator.now) gate_keeps in
    let inputs = ap (λ (s : Making). s.0.outputs) (c.in_ok-make_inputs.ensures c.args.generator.now) ∙ keeps input_made n 1 (c.in_ok-builder.builder, c.args.generator.now) (λ w s. refl) in
    let none = ap (λ (net : Netlist). length net.outputs) c.in_ok-builder.ensures in
    omega (arith, ap length latches, ap length gates, ap length inputs, none, c.requires.few)
