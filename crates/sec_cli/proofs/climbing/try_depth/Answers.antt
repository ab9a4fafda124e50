use Rattle.command_line.specs.Asked.{OptionsAsked, options_asked}
use Rattle.sec_cli.proofs.Depths.{reaches}
use Rattle.sec_cli.proofs.climbing.try_depth.Goals as goal

pub returns-clause-reached : goal.returns-clause-reached
returns-clause-reached g c = λ two.
    let asked : OptionsAsked = options_asked c.args.check.now in
    let found = c.in_ok-answer.ensures in
    let after = c.in_ok-reach.ensures in
    reaches c.args.product.now asked c.in_ok-answer.answer c.in_ok-answer.version c.reach.new.reached c.requires.depth found.answer two found.pair found.k after.agreed after.known after.memory
