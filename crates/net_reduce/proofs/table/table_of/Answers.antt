use Rattle.std.proofs.Common.{◌<◌, ℕ, length, arith}
use Rattle.circ_model.specs.Netlist.{variables}
use Rattle.net_reduce.proofs.Tables.{table_more}
use Rattle.net_reduce.proofs.table.table_of.Goals as goal

pub loop-place-preserved : goal.loop-place-preserved
loop-place-preserved c =
    let place : ℕ = c.loop-place.place in
    let within : place < length (variables c.args.net.now) = omega (arith, c.loop-place-test.true, c.len-place-end.ensures.places, c.requires.places) in
    table_more c.args.net.now c.args.classes.now c.loop-place.table.items place c.variable_at.result c.standing_at.result c.requires.sound c.variable_at.ensures within c.standing_at.ensures c.loop-place.invariant
