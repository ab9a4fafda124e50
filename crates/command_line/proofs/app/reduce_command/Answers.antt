use Rattle.command_line.specs.App.{reduce_app}
use Rattle.command_line.proofs.app.reduce_command.Goals as goal

pub returns : goal.returns
unfolding reduce_app
returns c = c.command_of.ensures
