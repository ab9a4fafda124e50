use Rattle.std.proofs.Common.{take}
use Rattle.command_line.specs.App.{AreCommandsOf}
use Rattle.command_line.proofs.app.commands_of.Given as goal

abbrev pub invariant-loop-at : goal.invariant-loop-at
invariant-loop-at l = AreCommandsOf l.commands.items (take l.at l.all)
