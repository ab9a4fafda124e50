use Rattle.std.proofs.Common.{◌<◌, Bool, ap₂, arith, length, subst}
use Rattle.std.proofs.lemmas.List.{take_all}
use Rattle.clap.specs.Words.{App}
use Rattle.command_line.specs.App.{AreCommandsOf}
use Rattle.command_line.proofs.Building.{pushed}
use Rattle.command_line.proofs.app.commands_of.Goals as goal

pub loop-at-preserved : goal.loop-at-preserved
loop-at-preserved c =
    let l = c.loop-at in
    let lt : l.at < length c.args.all.now = omega arith in
    pushed _ _ l.commands.items _ _ c.args.all.now l.at _ lt c.in_ok-push.ensures.items (ap₂ (λ (a : App) (b : Bool). (a, b)) c.in_ok-command_named.ensures.same c.in_ok-command_named.ensures.local) l.invariant

pub returns : goal.returns
returns c =
    let l = c.loop-at in
    subst (AreCommandsOf l.commands.items) (take_all l.at c.args.all.now (omega arith)) l.invariant
