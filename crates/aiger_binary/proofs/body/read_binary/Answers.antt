use Rattle.std.proofs.Common.{◌+◌, length, ap, arith}
use Rattle.circ_model.specs.Netlist.{Netlist}
use Rattle.aiger_binary.proofs.Bodies.{keep_outputs, sections_read}
use Rattle.aiger_binary.proofs.body.read_binary.Goals as goal

pub read_items-requires : goal.read_items-requires
read_items-requires c =
    let none = ap (λ (g : Netlist). length g.outputs) c.in_ok-builder.ensures in
    let same = ap length (keep_outputs c.args.bytes.now c.args.header.now.l (c.args.header.now.i + 1) (c.in_ok-builder.builder, c.args.header.now.end) (c.read_latches.new.builder, c.in_ok-at.at) c.in_ok-at.ensures) in
    omega (arith, c.requires.outputs)

pub returns-clause-spelled : goal.returns-clause-spelled
returns-clause-spelled c =
    sections_read c.args.header.now c.args.bytes.now c.in_ok-builder.builder (c.read_latches.new.builder, c.in_ok-at.at) (c.read_items.new.builder, c.in_ok-at-2.at) (c.read_gates.new.builder, c.in_ok-end.end)
    c.requires.max_var c.requires.outputs c.requires.sections (λ i. omega (arith, c.type_inv.bytes i)) c.in_ok-builder.ensures c.in_ok-at.ensures c.in_ok-at-2.ensures c.in_ok-end.ensures
