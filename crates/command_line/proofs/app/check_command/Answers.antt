use Rattle.command_line.specs.App.{check_app}
use Rattle.command_line.proofs.app.check_command.Goals as goal

pub returns : goal.returns
unfolding check_app
returns c = c.command_of.ensures
