use Rattle.std.proofs.Common.{◌∙◌, ◌++◌, ◌-◌, ◌+◌, List, Bool, ap}
use Rattle.demo_pair.specs.Demo.{choices}
use Rattle.demo_pair.proofs.Made.{choices_more}
use Rattle.demo_pair.proofs.making.choose.Goals as goal

pub loop-i-preserved : goal.loop-i-preserved
loop-i-preserved c =
    ap (λ (l : List Bool). l ++ choices (c.args.count - (c.loop-i.i + 1)) c.draw.new.generator) c.in_ok-push.ensures.items
    ∙ choices_more c.loop-i.chosen.items _ c.args.count c.loop-i.i c.loop-i.generator c.draw.new.generator c.draw.result c.loop-i.invariant c.loop-i-test.true c.draw.ensures.number c.draw.ensures.after
