use Rattle.command_line.specs.App.{demo_app}
use Rattle.command_line.proofs.app.demo_command.Goals as goal

pub returns : goal.returns
unfolding demo_app
returns c = c.command_of.ensures
