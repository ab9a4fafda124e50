use Rattle.std.proofs.Common.{◌≡◌, ◌∙◌, ◌++◌, length, ap, ap₂, arith, replicate, [], ℕ}
use Rattle.std.specs.List.{range_with_len}
use Rattle.circ_model.specs.Netlist.{Netlist}
use Rattle.net_reduce.specs.Stub.{stub_of}
use Rattle.net_reduce.proofs.Numbering.{few_inputs, finished_as_given}
use Rattle.net_reduce.proofs.stubs.stub_like.Goals as goal

pub overflow_cast-inputs : goal.overflow_cast-inputs
overflow_cast-inputs c = omega (arith, few_inputs c.args.net.now c.inputs.ensures.sound, ap length c.inputs.ensures.same)

pub new-requires : goal.new-requires
new-requires c = omega (arith, few_inputs c.args.net.now c.inputs.ensures.sound, ap length c.inputs.ensures.same)

pub returns : goal.returns
returns c =
    let net : Netlist = c.args.net.now in
    let given : Netlist = c.clear_outputs.new.builder in
    let one = c.in_ok-number_inputs.ensures ∙ ap (λ (b : Netlist). record b { inputs = b.inputs ++ range_with_len 1 (length c.inputs.result.now) }) c.in_ok-builder.ensures in
    let two = c.in_ok-clear_outputs.ensures ∙ ap (λ (b : Netlist). record b { outputs = replicate (length c.outputs.result.now) 0 }) one in
    let is : given ≡ stub_of net = two ∙ ap₂ (λ (i o : ℕ). stub_with i o) (ap length c.inputs.ensures.same) (ap length c.outputs.ensures.same) in
    finished_as_given given c.in_ok-stub.stub (ap (λ (n : Netlist). n.gates) is) c.in_ok-stub.ensures ∙ is
  where
    stub_with : ℕ → ℕ → Netlist
    stub_with i o = record { max_var = i; inputs = range_with_len 1 i; latches = []; outputs = replicate o 0; gates = [] }
