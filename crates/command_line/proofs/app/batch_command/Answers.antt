use Rattle.command_line.specs.App.{batch_app}
use Rattle.command_line.proofs.app.batch_command.Goals as goal

pub returns : goal.returns
unfolding batch_app
returns c = c.command_of.ensures
