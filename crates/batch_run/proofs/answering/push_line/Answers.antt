use Rattle.std.proofs.Common.{◌<◌, length, arith}
use Rattle.batch_run.proofs.Written.{line_written, loaded_at}
use Rattle.batch_run.proofs.answering.push_line.Goals as goal

pub returns-clause-line : goal.returns-clause-line
returns-clause-line c = λ file are.
    let list = c.args.list.now in
    let names = c.index-list-at.result in
    let lt : c.args.at < length c.args.loaded.now = omega (arith, c.requires.loaded, c.requires.place) in
    line_written c.push_answer.result file c.args.settled.now.k c.args.at list names c.args.text.now.items c.push_place.new.text.items c.push_answer.new.text.items c.index-list-at.is c.requires.place c.in_ok-push_place.ensures
    (c.push_answer.ensures.answer file (loaded_at file c.args.settled.now.products.now list c.args.loaded.now c.args.at names _ c.index-list-at.is lt are))
