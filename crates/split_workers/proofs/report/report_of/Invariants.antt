use Rattle.std.proofs.Common.{◌≡◌, take}
use Rattle.split_workers.specs.Reports.{report_of}
use Rattle.split_workers.proofs.report.report_of.Given as goal

abbrev pub invariant-loop-i : goal.invariant-loop-i
invariant-loop-i l = l.report ≡ report_of (take l.i l.journal.entries) l.worker
