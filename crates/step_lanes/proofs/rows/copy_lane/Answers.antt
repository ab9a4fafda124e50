use Rattle.std.proofs.Common.{◌∙◌, arith}
use Rattle.step_lanes.proofs.Copied.{same_lane}
use Rattle.step_lanes.proofs.rows.copy_lane.Goals as goal

pub returns-clause-row : goal.returns-clause-row
returns-clause-row c =
    same_lane c.args.to c.args.from c.loop-p.words.items c.args.others.now (c.loop-p.invariant.0 ∙ c.requires.size)
    (λ i lt. c.loop-p.invariant.1 i (omega (arith, c.loop-p-test.false, c.loop-p.invariant.0, lt)))

pub returns-clause-rest : goal.returns-clause-rest
returns-clause-rest c b lt ne = same_lane b b c.loop-p.words.items c.args.words.now.items c.loop-p.invariant.0 (λ i _. c.loop-p.invariant.2 b i lt ne)
