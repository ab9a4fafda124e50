use Rattle.std.proofs.Common.{get_or, pos, rules, SFits, w32}
use Rattle.std.proofs.lemmas.Int.{to_z-of_z}
use Rattle.sat_log.proofs.Written.{literals_more}
use Rattle.sat_log.proofs.write.push_literals.Goals as goal

pub loop-literal-preserved : goal.loop-literal-preserved
loop-literal-preserved c =
    let i = c.loop-literal.literal-index in
    let fits : SFits w32 (get_or c.args.literals.now i (pos 0)) = search rules in
    literals_more c.args.literals.now i _ _ _ _ c.loop-literal-test.true c.loop-literal.invariant (simp to_z-of_z at c.in_ok-push_literal.ensures) c.in_ok-push.ensures.items
