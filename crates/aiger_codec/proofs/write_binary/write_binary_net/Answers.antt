use Rattle.aiger_codec.proofs.Numbering.{are_latches, are_outputs, are_gates}
use Rattle.aiger_codec.proofs.BinaryWritten.{AreParts, whole}
use Rattle.aiger_codec.proofs.write_binary.write_binary_net.Goals as goal

pub push_nexts-requires-clause-each : goal.push_nexts-requires-clause-each
push_nexts-requires-clause-each c =
    rw (c.as_slice.ensures.value, c.latches-2.ensures) (are_latches c.args.net.now c.in_ok-table.table.items c.inputs.ensures.sound c.in_ok-table.ensures)

pub push_outputs-requires-clause-each : goal.push_outputs-requires-clause-each
push_outputs-requires-clause-each c =
    rw (c.as_slice-2.ensures.value, c.outputs-2.ensures.same) (are_outputs c.args.net.now c.in_ok-table.table.items c.inputs.ensures.sound c.in_ok-table.ensures)

pub push_gates-requires-clause-each : goal.push_gates-requires-clause-each
push_gates-requires-clause-each c =
    rw (c.as_slice-3.ensures.value, c.gates-2.ensures) (are_gates c.args.net.now c.in_ok-table.table.items c.inputs.ensures.sound c.in_ok-table.ensures)

pub returns : goal.returns
returns c =
    let is : AreParts c.args.net.now c.in_ok-table.table.items c.inputs.result.now c.latches.result.now c.latches-2.result.now c.outputs.result.now c.outputs-2.result.now c.gates.result.now c.gates-2.result.now c.as_slice.result.now c.as_slice-2.result.now c.as_slice-3.result.now = record {
      is_inputs = c.inputs.ensures.same;
      is_latches = c.latches.ensures;
      is_lines = c.latches-2.ensures;
      is_outputs = c.outputs.ensures.same;
      is_literals = c.outputs-2.ensures.same;
      is_gates = c.gates.ensures;
      is_pairs = c.gates-2.ensures;
      is_first = c.as_slice.ensures.value;
      is_second = c.as_slice-2.ensures.value;
      is_third = c.as_slice-3.ensures.value;
    } in
    whole _ _ _ _ _ _ _ _ _ _ _ _ c.inputs.ensures.sound c.in_ok-table.ensures is _ _ _ _ _ c.in_ok-bytes.ensures.items c.in_ok-push_line.ensures c.in_ok-push_nexts.ensures c.in_ok-push_outputs.ensures c.in_ok-push_gates.ensures
