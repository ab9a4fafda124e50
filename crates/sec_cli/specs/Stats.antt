-- How many entries of a journal are of each kind.
use Rattle.std.specs.Prelude.{◌≡◌, ℕ, ◌+◌, ◌<◌, List, count_by}
use Rattle.refine_board.specs.declared.journal.Step.{Step}
use Rattle.refine_board.specs.declared.journal.Entry.{Entry}
use Rattle.refine_board.specs.Tallies.{is_offered, is_split, is_back, offered_entries, split_entries, back_entries}
use Rattle.split_workers.specs.Reports.{is_counted, is_stale, is_already, one_if}
use Rattle.sec_cli.specs.declared.counting.Stats.{Stats}

abbrev pub counted_entries : List Entry → ℕ
counted_entries entries = count_by (λ (e : Entry). is_counted e.step) entries

abbrev pub stale_entries : List Entry → ℕ
stale_entries entries = count_by (λ (e : Entry). is_stale e.step) entries

abbrev pub already_entries : List Entry → ℕ
already_entries entries = count_by (λ (e : Entry). is_already e.step) entries

abbrev pub stats_of : List Entry → Stats
stats_of entries = record {
  offers = offered_entries entries;
  counted = counted_entries entries;
  stale = stale_entries entries;
  splits = split_entries entries;
  already = already_entries entries;
  back = back_entries entries;
}

-- each number is below this one
pub record AreBelow (most : ℕ) (s : Stats) : Type 0 where
  pub offers : s.offers < most
  pub counted : s.counted < most
  pub stale : s.stale < most
  pub splits : s.splits < most
  pub already : s.already < most
  pub back : s.back < most

-- the number of the kind of this step has grown by one
pub record IsOneMore (before : Stats) (step : Step) (after : Stats) : Type 0 where
  pub offers : after.offers ≡ before.offers + one_if (is_offered step)
  pub counted : after.counted ≡ before.counted + one_if (is_counted step)
  pub stale : after.stale ≡ before.stale + one_if (is_stale step)
  pub splits : after.splits ≡ before.splits + one_if (is_split step)
  pub already : after.already ≡ before.already + one_if (is_already step)
  pub back : after.back ≡ before.back + one_if (is_back step)
