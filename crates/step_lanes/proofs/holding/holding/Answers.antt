use Rattle.std.proofs.Common.{arith}
use Rattle.sim_words.specs.Lanes.{lane}
use Rattle.class_partition.proofs.Partition.{needed_from_relative, relative_from_needed}
use Rattle.step_lanes.proofs.holding.holding.Goals as goal

pub returns-clause-hold : goal.returns-clause-hold
returns-clause-hold c b lt h p within =
    let size = c.requires in
    let end = c.loop-p-test.false in
    needed_from_relative c.args.classes.now (lane b c.args.words.now) p (c.loop-p.invariant.hold b lt h p (omega (arith, c.len-p-end.ensures.places)))

pub returns-clause-all : goal.returns-clause-all
returns-clause-all c b lt on hold =
    let size = c.requires in
    let end = c.loop-p-test.false in
    c.loop-p.invariant.all b lt on (λ q less. relative_from_needed c.args.classes.now (lane b c.args.words.now) q (hold q (omega (arith, c.len-p-end.ensures.places))))
