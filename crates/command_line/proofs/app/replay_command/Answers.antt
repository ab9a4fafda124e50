use Rattle.command_line.specs.App.{replay_app}
use Rattle.command_line.proofs.app.replay_command.Goals as goal

pub returns : goal.returns
unfolding replay_app
returns c = c.command_of.ensures
