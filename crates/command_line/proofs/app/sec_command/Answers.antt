use Rattle.std.proofs.Common.{◌∙◌, List, [], ◌∷◌, ap}
use Rattle.clap.specs.Simple.{app_of_fields}
use Rattle.clap.specs.declared.builder.command.Command.TheOpen.{Command-F}
use Rattle.clap.specs.declared.builder.command.Command.{Command}
use Rattle.command_line.specs.declared.app.Subcommand.{Subcommand}
use Rattle.command_line.specs.declared.app.Subcommand.TheVariants as subcommands
use Rattle.command_line.specs.App.{sec_app, with_required_subcommand}
use Rattle.command_line.proofs.Building.{ok_map, with_commands}
use Rattle.command_line.proofs.app.sec_command.Goals as goal

pub returns : goal.returns
unfolding sec_app
returns c =
    let all : List Subcommand = subcommands.Check ∷ subcommands.Replay ∷ subcommands.Verify ∷ subcommands.Demo ∷ subcommands.Climb ∷ subcommands.Reduce ∷ subcommands.Batch ∷ [] in
    ok_map _ _ c.subcommands.result (λ new added. with_commands _ new _ all _ added c.in_ok-subcommands.ensures (record {
      same = ap app_of_fields c.subcommand_required.ensures ∙ ap with_required_subcommand c.new.ensures.app;
      local = ap (λ (f : Command-F Command). f.has_globals) c.subcommand_required.ensures ∙ c.new.ensures.local;
    })) c.subcommands.ensures
