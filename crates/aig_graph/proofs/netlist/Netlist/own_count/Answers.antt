use Rattle.std.proofs.Common.{length, ap, arith}
use Rattle.circ_model.proofs.Counting.{few_variables, count_variables}
use Rattle.circ_model.proofs.Rows.{length_own}
use Rattle.aig_graph.proofs.netlist.Netlist.own_count.Goals as goal

pub overflow_cast-result : goal.overflow_cast-result
overflow_cast-result c = omega (arith, ap length c.latches.ensures, few_variables c.args.self.now c.inputs-sound.ensures.sound, count_variables c.args.self.now, c.inputs-sound.ensures.sound.size)

pub overflow_cast-result-2 : goal.overflow_cast-result-2
overflow_cast-result-2 c = omega (arith, ap length c.gates.ensures, few_variables c.args.self.now c.inputs-sound.ensures.sound, count_variables c.args.self.now, c.inputs-sound.ensures.sound.size)

pub overflow_add-result : goal.overflow_add-result
overflow_add-result c = omega (arith, ap length c.latches.ensures, ap length c.gates.ensures, few_variables c.args.self.now c.inputs-sound.ensures.sound, count_variables c.args.self.now, c.inputs-sound.ensures.sound.size)

pub returns-clause-count : goal.returns-clause-count
returns-clause-count c = omega (arith, ap length c.latches.ensures, ap length c.gates.ensures, length_own c.args.self.now)

pub returns-clause-few : goal.returns-clause-few
returns-clause-few c = omega (arith, ap length c.latches.ensures, ap length c.gates.ensures, few_variables c.args.self.now c.inputs-sound.ensures.sound, count_variables c.args.self.now, c.inputs-sound.ensures.sound.size)
