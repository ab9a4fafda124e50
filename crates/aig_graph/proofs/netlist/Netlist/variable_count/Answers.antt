use Rattle.std.proofs.Common.{length, ap, arith}
use Rattle.circ_model.proofs.Counting.{few_variables, count_variables}
use Rattle.circ_model.proofs.Rows.{length_own}
use Rattle.aig_graph.proofs.netlist.Netlist.variable_count.Goals as goal

pub overflow_cast-result : goal.overflow_cast-result
overflow_cast-result c = omega (arith, few_variables c.args.self.now c.inputs.ensures.sound, count_variables c.args.self.now, c.inputs.ensures.sound.size, ap length c.inputs.ensures.same)

pub overflow_add-result : goal.overflow_add-result
overflow_add-result c = omega (arith, few_variables c.args.self.now c.inputs.ensures.sound, count_variables c.args.self.now, c.inputs.ensures.sound.size, ap length c.inputs.ensures.same)

pub overflow_add-result-2 : goal.overflow_add-result-2
overflow_add-result-2 c = omega (arith, few_variables c.args.self.now c.inputs.ensures.sound, count_variables c.args.self.now, length_own c.args.self.now, c.inputs.ensures.sound.size, ap length c.inputs.ensures.same, c.own_count.ensures.count)

pub returns-clause-count : goal.returns-clause-count
returns-clause-count c = omega (arith, count_variables c.args.self.now, length_own c.args.self.now, ap length c.inputs.ensures.same, c.own_count.ensures.count)

pub returns-clause-few : goal.returns-clause-few
returns-clause-few c = omega (arith, few_variables c.args.self.now c.inputs.ensures.sound, count_variables c.args.self.now, length_own c.args.self.now, c.inputs.ensures.sound.size, ap length c.inputs.ensures.same, c.own_count.ensures.count)
