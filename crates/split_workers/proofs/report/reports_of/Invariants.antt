use Rattle.std.proofs.Common.{◌≡◌, map}
use Rattle.std.specs.List.{range_with_len}
use Rattle.split_workers.specs.Reports.{report_of}
use Rattle.split_workers.proofs.report.reports_of.Given as goal

abbrev pub invariant-loop-worker : goal.invariant-loop-worker
invariant-loop-worker l = l.reports.items ≡ map (report_of l.journal.entries) (range_with_len 0 l.worker)
