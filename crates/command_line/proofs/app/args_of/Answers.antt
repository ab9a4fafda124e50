use Rattle.std.proofs.Common.{◌<◌, Bool, ap₂, arith, length, subst}
use Rattle.std.proofs.lemmas.List.{take_all}
use Rattle.clap.specs.Words.{Rule}
use Rattle.command_line.specs.App.{AreArgsOf}
use Rattle.command_line.proofs.Building.{pushed}
use Rattle.command_line.proofs.app.args_of.Goals as goal

pub loop-at-preserved : goal.loop-at-preserved
loop-at-preserved c =
    let l = c.loop-at in
    let lt : l.at < length c.args.parts.now = omega arith in
    pushed _ _ l.args.items _ _ c.args.parts.now l.at _ lt c.in_ok-push.ensures.items (ap₂ (λ (r : Rule) (b : Bool). (r, b)) c.part_arg.ensures.rule c.part_arg.ensures.local) l.invariant

pub returns : goal.returns
returns c =
    let l = c.loop-at in
    subst (AreArgsOf l.args.items) (take_all l.at c.args.parts.now (omega arith)) l.invariant
