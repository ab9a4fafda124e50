use Rattle.cert_writer.proofs.Adding.{both_parts}
use Rattle.cert_writer.proofs.writing.push_member.Goals as goal

pub returns-clause-added : goal.returns-clause-added
returns-clause-added c =
    let s = c.args.frames.now in
    both_parts s.pair s.k s.classes c.args.place c.args.text.now.items c.push_log.new.text.items c.push_log-2.new.text.items c.in_ok-base.base c.in_ok-step.step c.push_log-2.result c.in_ok-base.ensures.log c.in_ok-push_log.ensures c.in_ok-step.ensures.log c.push_log-2.ensures
