-- How many entries of each kind a worker has in a journal.
use Rattle.std.specs.Prelude.{◌≡◌, ℕ, ◌+◌, ◌<◌, ◌==◌, ◌&&◌, List, map, Bool, true, false, count_by}
use Rattle.std.specs.List.{range_with_len}
use Rattle.refine_board.specs.declared.journal.Step.{Step}
use Rattle.refine_board.specs.declared.journal.Step.TheVariants.{Idle, Counted, Stale, Already, Foreign}
use Rattle.refine_board.specs.declared.journal.Entry.{Entry}
use Rattle.refine_board.specs.Tallies.{is_offered, is_split, is_back}
use Rattle.work_desk.specs.Tallies.{is_done}
use Rattle.split_workers.specs.declared.report.WorkReport.{WorkReport}

abbrev pub is_idle : Step → Bool
is_idle Idle = true
is_idle e = false

abbrev pub is_counted : Step → Bool
is_counted (Counted p w) = true
is_counted e = false

abbrev pub is_stale : Step → Bool
is_stale (Stale p) = true
is_stale e = false

abbrev pub is_already : Step → Bool
is_already (Already bits) = true
is_already e = false

abbrev pub is_foreign : Step → Bool
is_foreign Foreign = true
is_foreign e = false

-- how many entries of a kind are of this worker
abbrev pub entries_of : (Step → Bool) → List Entry → ℕ → ℕ
entries_of is_kind entries worker = count_by (λ (e : Entry). is_kind e.step && e.worker == worker) entries

abbrev pub report_of : List Entry → ℕ → WorkReport
report_of entries worker = record {
  worker = worker;
  offers = entries_of is_offered entries worker;
  idle = entries_of is_idle entries worker;
  done = entries_of is_done entries worker;
  counted = entries_of is_counted entries worker;
  stale = entries_of is_stale entries worker;
  splits = entries_of is_split entries worker;
  already = entries_of is_already entries worker;
  foreign = entries_of is_foreign entries worker;
  back = entries_of is_back entries worker;
}

-- a report for each of the first workers
abbrev pub AreReports : ℕ → List Entry → List WorkReport → Type 0
AreReports workers entries reports = reports ≡ map (report_of entries) (range_with_len 0 workers)

-- each number of entries is below this one
pub record AreBelow (most : ℕ) (r : WorkReport) : Type 0 where
  pub offers : r.offers < most
  pub idle : r.idle < most
  pub done : r.done < most
  pub counted : r.counted < most
  pub stale : r.stale < most
  pub splits : r.splits < most
  pub already : r.already < most
  pub foreign : r.foreign < most
  pub back : r.back < most

abbrev pub one_if : Bool → ℕ
one_if true = 1
one_if false = 0

-- the number of the kind of this step has grown by one
pub record IsOneMore (before : WorkReport) (step : Step) (after : WorkReport) : Type 0 where
  pub worker : after.worker ≡ before.worker
  pub offers : after.offers ≡ before.offers + one_if (is_offered step)
  pub idle : after.idle ≡ before.idle + one_if (is_idle step)
  pub done : after.done ≡ before.done + one_if (is_done step)
  pub counted : after.counted ≡ before.counted + one_if (is_counted step)
  pub stale : after.stale ≡ before.stale + one_if (is_stale step)
  pub splits : after.splits ≡ before.splits + one_if (is_split step)
  pub already : after.already ≡ before.already + one_if (is_already step)
  pub foreign : after.foreign ≡ before.foreign + one_if (is_foreign step)
  pub back : after.back ≡ before.back + one_if (is_back step)
