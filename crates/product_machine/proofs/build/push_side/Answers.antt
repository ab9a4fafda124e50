use Rattle.std.proofs.Common.{◌<◌, ◌/◌, length, sym, subst}
use Rattle.std.specs.List.{All}
use Rattle.circ_model.specs.declared.netlist.Latch.{Latch}
use Rattle.circ_model.specs.declared.netlist.Gate.{Gate}
use Rattle.product_machine.proofs.Tabling.{next_within, left_within, right_within}
use Rattle.product_machine.proofs.build.push_side.Goals as goal

pub push_latches-requires-clause-within : goal.push_latches-requires-clause-within
push_latches-requires-clause-within c =
    subst (All (λ (l : Latch). l.next / 2 < length c.args.table.now)) (sym c.latches.ensures) (next_within c.args.net.now (length c.args.table.now) c.requires.sound c.requires.size)

pub push_gates-requires-clause-left : goal.push_gates-requires-clause-left
push_gates-requires-clause-left c =
    subst (All (λ (g : Gate). g.left / 2 < length c.args.table.now)) (sym c.gates.ensures) (left_within c.args.net.now (length c.args.table.now) c.requires.sound c.requires.size)

pub push_gates-requires-clause-right : goal.push_gates-requires-clause-right
push_gates-requires-clause-right c =
    subst (All (λ (g : Gate). g.right / 2 < length c.args.table.now)) (sym c.gates.ensures) (right_within c.args.net.now (length c.args.table.now) c.requires.sound c.requires.size)
