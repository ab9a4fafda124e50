use Rattle.command_line.specs.App.{verify_app}
use Rattle.command_line.proofs.app.verify_command.Goals as goal

pub returns : goal.returns
unfolding verify_app
returns c = c.command_of.ensures
