use Rattle.std.proofs.Common.{◌∙◌, ◌++◌, ◌∷◌, [], List, ap₂, sym, zero-add}
use Rattle.std.proofs.lemmas.List.FromFn.{map-range_with_len_more}
use Rattle.split_workers.specs.declared.report.WorkReport.{WorkReport}
use Rattle.split_workers.specs.Reports.{report_of}
use Rattle.split_workers.proofs.report.reports_of.Goals as goal

pub loop-worker-preserved : goal.loop-worker-preserved
loop-worker-preserved c = c.in_ok-push.ensures.items ∙ ap₂ (λ (l : List WorkReport) (x : WorkReport). l ++ x ∷ []) c.loop-worker.invariant c.report_of.ensures
    ∙ sym (map-range_with_len_more (report_of c.args.journal.now.entries) 0 c.loop-worker.worker c.loop-worker.worker (zero-add c.loop-worker.worker))
