use Rattle.std.proofs.Common.{◌<◌, ◌^◌, rules}
use Rattle.std.proofs.lemmas.List.Elements.{All-more}
use Rattle.sat_log.proofs.Written.{hints_more}
use Rattle.sat_log.proofs.write.push_hints.Goals as goal

pub loop-hint-preserved : goal.loop-hint-preserved
loop-hint-preserved c =
    let i = c.loop-hint.hint-index in
    record {
      text = hints_more c.args.hints.now i _ _ _ _ c.loop-hint-test.true c.loop-hint.invariant.text c.in_ok-push_hint.ensures c.in_ok-push.ensures.items;
      small = All-more (λ h. h < 2 ^ 64) c.args.hints.now i 0 c.loop-hint-test.true c.loop-hint.invariant.small (search (rules, c.type_inv.hints i));
    }
