use Rattle.std.proofs.Common.{take}
use Rattle.command_line.specs.App.{AreArgsOf}
use Rattle.command_line.proofs.app.args_of.Given as goal

abbrev pub invariant-loop-at : goal.invariant-loop-at
invariant-loop-at l = AreArgsOf l.args.items (take l.at l.parts)
