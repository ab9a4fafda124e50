use Rattle.command_line.specs.Asked.{options_asked, climb_asked}
use Rattle.sec_cli.proofs.Depths.{ends_at_once}
use Rattle.sec_cli.proofs.climbing.differs_at_once.Goals as goal

pub returns-clause-answer : goal.returns-clause-answer
returns-clause-answer g =
    let done = g.ended.ensures in
    ends_at_once g.args.product.now (climb_asked g.args.c.now) (options_asked g.check_of-check.result) g.in_ok-answer.answer g.ended.result g.requires.within.some g.check_of-check.ensures.asked g.in_ok-answer.ensures.status g.in_ok-answer.ensures.answer done.status done.text done.file done.journal
