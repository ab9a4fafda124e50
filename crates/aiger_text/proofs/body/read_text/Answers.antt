use Rattle.std.proofs.Common.{length, refl, ap, arith}
use Rattle.circ_model.specs.Netlist.{Netlist}
use Rattle.aiger_codec.specs.declared.section.Section.TheVariants.{Inputs, Latches}
use Rattle.aiger_text.proofs.Bodies.{sections_read}
use Rattle.aiger_codec.proofs.Room.{items_keep}
use Rattle.aiger_text.proofs.body.read_text.Goals as goal

pub read_items-requires-3 : goal.read_items-requires-3
read_items-requires-3 c =
    let none = ap (λ (g : Netlist). length g.outputs) c.in_ok-builder.ensures in
    let a = items_keep Inputs c.args.header.now.i c.args.bytes.now (c.in_ok-builder.builder, c.args.header.now.end) (c.read_items.new.builder, c.in_ok-at.at) refl c.in_ok-at.ensures in
    let b = items_keep Latches c.args.header.now.l c.args.bytes.now (c.read_items.new.builder, c.in_ok-at.at) (c.read_items-2.new.builder, c.in_ok-at-2.at) refl c.in_ok-at-2.ensures in
    omega (arith, c.requires.outputs)

pub returns-clause-spelled : goal.returns-clause-spelled
returns-clause-spelled c =
    sections_read c.args.header.now c.args.bytes.now c.in_ok-builder.builder (c.read_items.new.builder, c.in_ok-at.at) (c.read_items-2.new.builder, c.in_ok-at-2.at) (c.read_items-3.new.builder, c.in_ok-at-3.at) (c.read_items-4.new.builder, c.in_ok-at-4.at)
    c.requires.max_var c.requires.outputs c.in_ok-builder.ensures c.in_ok-at.ensures c.in_ok-at-2.ensures c.in_ok-at-3.ensures c.in_ok-at-4.ensures
