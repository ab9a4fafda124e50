use Rattle.std.proofs.Common.{ap, subst, slice_index_or}
use Rattle.circ_model.specs.Meaning.{Pair}
use Rattle.batch_run.specs.declared.loading.Loaded.{Loaded}
use Rattle.batch_run.specs.Loads.{IsLoaded}
use Rattle.batch_run.proofs.Written.{verdict_written}
use Rattle.batch_run.proofs.answering.push_answer.Goals as goal

pub returns-in-Product-clause-answer : goal.returns-in-Product-clause-answer
returns-in-Product-clause-answer c = λ file h.
    let here = subst (λ (l : Loaded). IsLoaded file c.args.settled.now.products.now c.args.names.now l) c.in-Product.is h in
    let products = c.args.settled.now.products.now in
    let at = c.in-Product.at in
    let pair : Pair = slice_index_or products at c.index-products-at.result in
    let is = ap (λ (x : Pair). slice_index_or products at x) c.index-products-at.is in
    verdict_written c.push_verdict.result file c.args.settled.now.k at c.args.names.now c.args.text.now.items c.push_verdict.new.text.items products c.args.settled.now.solved.now
    pair c.index-solved-at.result is c.requires.outcomes here c.push_verdict.ensures.line c.push_verdict.ensures.status
