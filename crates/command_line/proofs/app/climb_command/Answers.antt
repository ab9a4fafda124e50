use Rattle.command_line.specs.App.{climb_app}
use Rattle.command_line.proofs.app.climb_command.Goals as goal

pub returns : goal.returns
unfolding climb_app
returns c = c.command_of.ensures
