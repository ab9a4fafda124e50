use Rattle.command_line.proofs.Building.{ok_map, with_args}
use Rattle.command_line.proofs.app.command_of.Goals as goal

pub returns : goal.returns
returns c =
    ok_map _ _ c.args-2.result (λ new added. with_args _ new _ _ _ added c.in_ok-args.ensures (record { same = c.new.ensures.app; local = c.new.ensures.local })) c.args-2.ensures
