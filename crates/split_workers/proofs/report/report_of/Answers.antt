use Rattle.std.proofs.Common.{◌-◌, ◌^◌, ◌∙◌, ℕ, List, ap, arith}
use Rattle.std.proofs.lemmas.List.{take_all}
use Rattle.refine_board.specs.declared.journal.Entry.{Entry}
use Rattle.split_workers.specs.Reports.{report_of}
use Rattle.split_workers.proofs.Reported.{are_few, own_more, other_same}
use Rattle.split_workers.proofs.report.report_of.Goals.{then-entry-worker, else-entry-worker}
use Rattle.split_workers.proofs.report.report_of.Goals as goal

pub with_step-report-requires : goal.with_step-report-requires
with_step-report-requires c = are_few c.args.journal.now.entries c.args.worker c.loop-i.i (2 ^ 64 - 1) c.loop-i.report (omega arith) c.loop-i.invariant

pub loop-i-preserved : goal.loop-i-preserved
loop-i-preserved c =
    let entries : List Entry = c.args.journal.now.entries in
    let i : ℕ = c.loop-i.i in
    elim c.if-entry-worker.branch [
      | then-entry-worker w ↦ w.report-is ∙ own_more entries i c.args.worker c.entry-entry.result.now (omega arith) c.entry-entry.ensures c.loop-i.report w.with_step-report.result w.if-entry-worker.true c.loop-i.invariant w.with_step-report.ensures
      | else-entry-worker w ↦ w.report-is ∙ other_same entries i c.args.worker c.entry-entry.result.now (omega arith) c.entry-entry.ensures c.loop-i.report w.if-entry-worker.false c.loop-i.invariant
    ]

pub returns : goal.returns
returns c = c.loop-i.invariant ∙ ap (λ (l : List Entry). report_of l c.args.worker) (take_all c.loop-i.i c.args.journal.now.entries (omega arith))
