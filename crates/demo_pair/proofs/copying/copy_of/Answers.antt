use Rattle.std.proofs.Common.{◌≤◌, sym, subst}
use Rattle.std.specs.List.{All}
use Rattle.circ_model.specs.declared.netlist.Latch.{Latch}
use Rattle.demo_pair.proofs.Made.{few_latches}
use Rattle.demo_pair.proofs.copying.copy_of.Goals as goal

pub copy_latches-requires-clause-few : goal.copy_latches-requires-clause-few
copy_latches-requires-clause-few c = subst (All (λ (l : Latch). l.var ≤ 1000000)) (sym c.latches.ensures) (few_latches c.args.left.now c.inputs.ensures.sound)
