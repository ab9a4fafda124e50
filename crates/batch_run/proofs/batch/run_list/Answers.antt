use Rattle.std.proofs.Common.{◌∙◌, ◌<◌, ℕ, List, Option, length, sym, subst}
use Rattle.batch_run.specs.Loads.{AreLoaded, IsStopped}
use Rattle.batch_run.proofs.Concluding.{stop_ends}
use Rattle.batch_run.proofs.batch.run_list.Goals as goal

pub returns-in_ok-answer_all-in-Ok-clause-ending : goal.returns-in_ok-answer_all-in-Ok-clause-ending
returns-in_ok-answer_all-in-Ok-clause-ending g c told =
    let file : List ℕ → Option (List ℕ) = g.S.Shelf.file c.args.shelf.now in
    let pairs = c.in-Ok.pairs in
    let loaded = subst (λ (l : List (List ℕ × List ℕ)). AreLoaded file pairs.products.items l pairs.loaded.items) (c.as_slice.ensures.value ∙ sym c.as_slice-in-Ok.ensures.value) (c.in-Ok.ensures.loaded told) in
    rw (sym c.as_slice-in-Ok.ensures.value) (c.in_ok-answer_all-in-Ok.ensures.batch file loaded)

pub returns-in-Err-clause-ending : goal.returns-in-Err-clause-ending
returns-in-Err-clause-ending g c told =
    let file : List ℕ → Option (List ℕ) = g.S.Shelf.file c.args.shelf.now in
    let stop = c.in-Err.stop in
    let place = subst (λ (l : List (List ℕ × List ℕ)). stop.at < length l) c.as_slice.ensures.value c.in-Err.ensures.place in
    let stopped = subst (λ (l : List (List ℕ × List ℕ)). IsStopped file l stop) c.as_slice.ensures.value (c.in-Err.ensures.stopped told) in
    stop_ends file c.args.plan.now.k c.args.list.items stop c.unanswered_at.result place c.unanswered_at.ensures stopped
