use Rattle.std.proofs.Common.{length, ap, arith}
use Rattle.circ_model.proofs.Order.{length_variables}
use Rattle.circ_model.proofs.Rows.{length_leaves}
use Rattle.product_machine.proofs.Ties.{tied_partners, untied_partners}
use Rattle.circ_model.proofs.Counting.{few_variables}
use Rattle.product_machine.proofs.build.partners_of.Goals as goal

pub overflow_cast-inputs : goal.overflow_cast-inputs
overflow_cast-inputs c = omega (arith, few_variables c.args.left.now c.requires, length_variables c.args.left.now, length_leaves c.args.left.now, ap length c.inputs.ensures.same)

pub overflow_add-inputs : goal.overflow_add-inputs
overflow_add-inputs c = omega (arith, few_variables c.args.left.now c.requires, length_variables c.args.left.now, length_leaves c.args.left.now, ap length c.inputs.ensures.same)

pub free_places-requires : goal.free_places-requires
free_places-requires c = omega (arith, few_variables c.args.left.now c.requires, length_variables c.args.left.now, length_leaves c.args.left.now, ap length c.inputs.ensures.same)

pub returns-then-tied : goal.returns-then-tied
returns-then-tied c =
    tied_partners (record { left = c.args.left.now; right = c.args.right.now; tied = c.args.tied }) (length c.inputs.result.now) c.in_ok-places.places.items c.if-tied.true (ap length c.inputs.ensures.same) c.in_ok-places.ensures

pub returns : goal.returns
returns c = untied_partners (record { left = c.args.left.now; right = c.args.right.now; tied = c.args.tied }) c.new.result.items c.if-tied.false c.new.ensures.items
