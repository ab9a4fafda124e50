-- From where loading stopped, or what the bytes say, to how a batch ends.
use Rattle.std.proofs.Common.{◌≡◌, ◌∙◌, ◌<◌, ◌≤◌, ℕ, false, List, [], ◌∷◌, length, Option, Some, IsSomeAnd, Result, Ok, Err, refl, sym, ap, subst}
use Rattle.pair_files.specs.declared.fault.Unpaired.{Unpaired}
use Rattle.pair_files.specs.declared.fault.Unpaired.TheVariants as unpaired
use Rattle.pair_files.specs.Pairs.{IsLoadFailed, IsNoPair}
use Rattle.pair_files.specs.Loads.{failed_side}
use Rattle.pair_list.specs.Readings.{Reads}
use Rattle.run_texts.specs.Told.{name_of_side}
use Rattle.batch_run.specs.declared.batch.Batch.{Batch}
use Rattle.batch_run.specs.declared.ending.Unanswered.{Unanswered}
use Rattle.batch_run.specs.declared.ending.Unanswered.TheVariants as unanswered
use Rattle.batch_run.specs.declared.loading.Stop.{Stop}
use Rattle.batch_run.specs.Loads.{IsStopped, names_at}
use Rattle.batch_run.specs.Endings.{EndsBytes, EndsList, IsBatchEnding, IsFailed, IsListRead, IsStopOf, failed_in_batch, failed_of, longest_list}
use Rattle.batch_run.proofs.Stopping.{none_failed, one_failed}

abbrev Files : Type 0
Files = List ℕ → Option (List ℕ)

abbrev List2 : Type 0
List2 = List (List ℕ × List ℕ)

-- where loading stopped no batch is answered
pub stop_ends : (file : Files) (k : ℕ) (list : List2) (s : Stop) (u : Unanswered) → s.at < length list → IsStopOf list s u → IsStopped file list s → EndsList file k list (Err u)
stop_ends file k list s unanswered.Memory lt is stopped = tt
stop_ends file k list s (unanswered.FileFailed names side) lt (why, named) (before, none) =
    let here = subst (λ (u : Unpaired). IsNoPair false (file (names_at list s.at).0) (file (names_at list s.at).1) u) why (none ([], [])) in
    record {
      at = s.at;
      within = lt;
      names_are = named;
      before = before;
      none = subst (λ (n : List ℕ × List ℕ). IsNoPair false (file n.0) (file n.1) (unpaired.LoadFailed side)) (named ([], [])) here;
    }
stop_ends file k list s unanswered.ListFailed lt is stopped = is
stop_ends file k list s unanswered.ListTooLong lt is stopped = is
stop_ends file k list s (unanswered.ListRefused f) lt is stopped = is

pub stop_is_failed : (list : List2) (s : Stop) (u : Unanswered) → IsStopOf list s u → IsFailed u → IsLoadFailed s.why
stop_is_failed list s unanswered.Memory is h = absurd h
stop_is_failed list s (unanswered.FileFailed names side) (why, named) h = subst IsLoadFailed (sym why) tt
stop_is_failed list s unanswered.ListFailed is h = absurd is
stop_is_failed list s unanswered.ListTooLong is h = absurd is
stop_is_failed list s (unanswered.ListRefused f) is h = absurd is

pub stop_names : (list : List2) (s : Stop) (u : Unanswered) → IsStopOf list s u → failed_side (names_at list s.at).0 (names_at list s.at).1 s.why ≡ failed_of [] u
stop_names list s unanswered.Memory is = none_failed (names_at list s.at).0 (names_at list s.at).1 s.why is
stop_names list s (unanswered.FileFailed names side) (why, named) =
    ap (failed_side (names_at list s.at).0 (names_at list s.at).1) why ∙ one_failed (names_at list s.at).0 (names_at list s.at).1 side ∙ ap (λ (n : List ℕ × List ℕ). name_of_side n.0 n.1 side ∷ []) (named ([], []))
stop_names list s unanswered.ListFailed is = absurd is
stop_names list s unanswered.ListTooLong is = absurd is
stop_names list s (unanswered.ListRefused f) is = absurd is

pub stop_is_past_list : (list : List2) (s : Stop) (u : Unanswered) → IsStopOf list s u → IsListRead (Err u)
stop_is_past_list list s unanswered.Memory is = tt
stop_is_past_list list s (unanswered.FileFailed names side) is = tt
stop_is_past_list list s unanswered.ListFailed is = is
stop_is_past_list list s unanswered.ListTooLong is = is
stop_is_past_list list s (unanswered.ListRefused f) is = absurd is

-- what was read of the bytes is how they end
pub bytes_end : (file : Files) (k : ℕ) (bytes : List ℕ) (list : List2) (r : Result Batch Unanswered) → Reads bytes (Ok list) → EndsList file k list r → EndsBytes file k bytes r
bytes_end file k bytes list (Ok b) reads ends = (list, reads, ends)
bytes_end file k bytes list (Err unanswered.Memory) reads ends = tt
bytes_end file k bytes list (Err (unanswered.FileFailed names side)) reads ends = (list, reads, ends)
bytes_end file k bytes list (Err unanswered.ListFailed) reads ends = ends
bytes_end file k bytes list (Err unanswered.ListTooLong) reads ends = ends
bytes_end file k bytes list (Err (unanswered.ListRefused f)) reads ends = absurd ends

there : (file : Option (List ℕ)) (bytes : List ℕ) (P : List ℕ → Type 0) → file ≡ Some bytes → P bytes → IsSomeAnd file P
there file bytes P is h = subst (λ (o : Option (List ℕ)). IsSomeAnd o P) (sym is) h

-- so the batch of a list in a file ends
pub list_ends : (file : Files) (k : ℕ) (name bytes : List ℕ) (r : Result Batch Unanswered) → file name ≡ Some bytes → length bytes ≤ longest_list → IsListRead r → EndsBytes file k bytes r → IsBatchEnding file k name r
list_ends file k name bytes (Ok b) is few read ends = there (file name) bytes (λ bs. (length bs ≤ longest_list) × EndsBytes file k bs (Ok b)) is (few, ends)
list_ends file k name bytes (Err unanswered.Memory) is few read ends = tt
list_ends file k name bytes (Err (unanswered.FileFailed names side)) is few read ends = there (file name) bytes (λ bs. (length bs ≤ longest_list) × EndsBytes file k bs (Err (unanswered.FileFailed names side))) is (few, ends)
list_ends file k name bytes (Err unanswered.ListFailed) is few read ends = absurd read
list_ends file k name bytes (Err unanswered.ListTooLong) is few read ends = absurd read
list_ends file k name bytes (Err (unanswered.ListRefused f)) is few read ends = there (file name) bytes (λ bs. (length bs ≤ longest_list) × EndsBytes file k bs (Err (unanswered.ListRefused f))) is (few, ends)

pub same_names : (name : List ℕ) (r : Result Batch Unanswered) → IsListRead r → failed_in_batch [] r ≡ failed_in_batch name r
same_names name (Ok b) read = refl
same_names name (Err unanswered.Memory) read = refl
same_names name (Err (unanswered.FileFailed names side)) read = refl
same_names name (Err unanswered.ListFailed) read = absurd read
same_names name (Err unanswered.ListTooLong) read = absurd read
same_names name (Err (unanswered.ListRefused f)) read = refl
