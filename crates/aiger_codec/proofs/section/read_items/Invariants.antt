use Rattle.std.proofs.Common.{◌-◌}
use Rattle.aiger_codec.specs.Sections.{items_at}
use Rattle.aiger_codec.specs.Room.{HasRoom}
use Rattle.aiger_codec.proofs.Loops.{Rest}
use Rattle.aiger_codec.proofs.section.read_items.Given as goal

abbrev pub invariant-loop : goal.invariant-loop
invariant-loop l = record {
  rest : Rest l.section l.bytes l.count l.counter (l.builder, l.at) (items_at l.section l.count l.bytes (l.fn.builder, l.start));
  room : HasRoom l.section (l.count - l.counter) l.builder;
}
