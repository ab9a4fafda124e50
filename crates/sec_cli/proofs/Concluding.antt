-- What follows from what became of an ending.
use Rattle.std.proofs.Common.{◌≡◌, ◌≢◌, ◌≤◌, ◌∙◌, ℕ, List, [], Bool, Option, None, Some, IfOk, IsSomeAnd, Ok, Err, inl, inr, refl, ap, sym, subst, arith}
use Rattle.std.proofs.lemmas.Bool.{ne_eqb}
use Rattle.sec_base.specs.Faults.{appended}
use Rattle.sec_base.proofs.Pieces.{appended_none}
use Rattle.refine_board.specs.Running.{Written}
use Rattle.pair_files.specs.declared.fault.Unpaired.{Unpaired}
use Rattle.pair_files.specs.declared.fault.Unpaired.TheVariants as unpaired
use Rattle.batch_run.specs.declared.ending.Unanswered.{Unanswered}
use Rattle.batch_run.specs.declared.ending.Unanswered.TheVariants as unanswered
use Rattle.batch_run.specs.Endings.{IsFailed, failed_of, unanswered_status, unanswered_text}
use Rattle.sec_cli.specs.declared.ending.Reply.{Reply}
use Rattle.sec_cli.specs.declared.ending.Refusal.{Refusal}
use Rattle.sec_cli.specs.declared.ending.Refusal.TheVariants as refusals
use Rattle.command_line.specs.Asked.{Asked, ForCheck, ForReplay, ForVerify, ForDemo, ForClimb, ForReduce, ForBatch}
use Rattle.pair_files.specs.Pairs.{IsLoadFailed}
use Rattle.pair_files.specs.Loads.{failed_side}
use Rattle.sec_cli.specs.Endings.{Ending, IsAnswerStatus, IsLoadEnding, IsOfPair, HasJournal, journal_of, failed_names, failed_third, left_name, right_name, third_name}
use Rattle.run_texts.specs.Texts.{memory_text}
use Rattle.run_texts.specs.Told.{unpaired_status, unpaired_text}
use Rattle.sec_cli.specs.Reports.{World, IsPrinted, IsReport, IsStored, IsToldIn, refusal_status, refusal_text, store_name, world_of}
use Rattle.sec_cli.specs.Runs.{Ended, IsAnswered, IsBatchCommand, IsJournalOfWords, IsRefusedOrBatch, IsUnread, IsUnwritten}

-- refusals have the statuses 4, 5 and 7
unpaired_high : (u : Unpaired) → (4 ≤ unpaired_status u) × (unpaired_status u ≢ 6) × (unpaired_status u ≤ 7)
unpaired_high unpaired.Memory = (omega arith, omega arith, omega arith)
unpaired_high (unpaired.LoadFailed side) = (omega arith, omega arith, omega arith)
unpaired_high (unpaired.Refused side f) = (omega arith, omega arith, omega arith)
unpaired_high (unpaired.InputsDiffer a b) = (omega arith, omega arith, omega arith)
unpaired_high (unpaired.OutputsDiffer a b) = (omega arith, omega arith, omega arith)
unpaired_high (unpaired.FreeDiffer a b) = (omega arith, omega arith, omega arith)

unanswered_high : (u : Unanswered) → (4 ≤ unanswered_status u) × (unanswered_status u ≢ 6) × (unanswered_status u ≤ 7)
unanswered_high unanswered.Memory = (omega arith, omega arith, omega arith)
unanswered_high unanswered.ListFailed = (omega arith, omega arith, omega arith)
unanswered_high unanswered.ListTooLong = (omega arith, omega arith, omega arith)
unanswered_high (unanswered.ListRefused f) = (omega arith, omega arith, omega arith)
unanswered_high (unanswered.FileFailed names side) = (omega arith, omega arith, omega arith)

refusal_high : (r : Refusal) → (4 ≤ refusal_status r) × (refusal_status r ≢ 6) × (refusal_status r ≤ 7)
refusal_high refusals.Memory = (omega arith, omega arith, omega arith)
refusal_high (refusals.Unpaired u) = unpaired_high u
refusal_high refusals.ThirdFailed = (omega arith, omega arith, omega arith)
refusal_high refusals.ThirdTooLong = (omega arith, omega arith, omega arith)
refusal_high (refusals.TraceRefused f) = (omega arith, omega arith, omega arith)
refusal_high (refusals.CertRefused f) = (omega arith, omega arith, omega arith)
refusal_high (refusals.Unanswered u) = unanswered_high u

-- 7 tells want of memory
unpaired_memory : (left right : List ℕ) (u : Unpaired) → unpaired_status u ≡ 7 → unpaired_text left right u ≡ memory_text
unpaired_memory left right unpaired.Memory e = refl
unpaired_memory left right (unpaired.LoadFailed side) e = absurd (omega arith)
unpaired_memory left right (unpaired.Refused side f) e = absurd (omega arith)
unpaired_memory left right (unpaired.InputsDiffer a b) e = absurd (omega arith)
unpaired_memory left right (unpaired.OutputsDiffer a b) e = absurd (omega arith)
unpaired_memory left right (unpaired.FreeDiffer a b) e = absurd (omega arith)

unanswered_memory : (list : List ℕ) (u : Unanswered) → unanswered_status u ≡ 7 → unanswered_text list u ≡ memory_text
unanswered_memory list unanswered.Memory e = refl
unanswered_memory list unanswered.ListFailed e = absurd (omega arith)
unanswered_memory list unanswered.ListTooLong e = absurd (omega arith)
unanswered_memory list (unanswered.ListRefused f) e = absurd (omega arith)
unanswered_memory list (unanswered.FileFailed names side) e = absurd (omega arith)

refusal_memory : (left right trace : List ℕ) (r : Refusal) → refusal_status r ≡ 7 → refusal_text left right trace r ≡ memory_text
refusal_memory left right trace refusals.Memory e = refl
refusal_memory left right trace (refusals.Unpaired u) e = unpaired_memory left right u e
refusal_memory left right trace refusals.ThirdFailed e = absurd (omega arith)
refusal_memory left right trace refusals.ThirdTooLong e = absurd (omega arith)
refusal_memory left right trace (refusals.TraceRefused f) e = absurd (omega arith)
refusal_memory left right trace (refusals.CertRefused f) e = absurd (omega arith)
refusal_memory left right trace (refusals.Unanswered u) e = unanswered_memory trace u e

-- 5 is a load that failed, and no other status is
unpaired_load : (u : Unpaired) → unpaired_status u ≡ 5 → IsLoadFailed u
unpaired_load unpaired.Memory e = omega arith
unpaired_load (unpaired.LoadFailed side) e = tt
unpaired_load (unpaired.Refused side f) e = omega arith
unpaired_load (unpaired.InputsDiffer a b) e = omega arith
unpaired_load (unpaired.OutputsDiffer a b) e = omega arith
unpaired_load (unpaired.FreeDiffer a b) e = omega arith

unanswered_load : (u : Unanswered) → unanswered_status u ≡ 5 → IsFailed u
unanswered_load unanswered.Memory e = omega arith
unanswered_load unanswered.ListFailed e = tt
unanswered_load unanswered.ListTooLong e = omega arith
unanswered_load (unanswered.ListRefused f) e = omega arith
unanswered_load (unanswered.FileFailed names side) e = tt

refusal_load : (r : Refusal) → refusal_status r ≡ 5 → IsLoadEnding (Err r)
refusal_load refusals.Memory e = omega arith
refusal_load (refusals.Unpaired u) e = unpaired_load u e
refusal_load refusals.ThirdFailed e = tt
refusal_load refusals.ThirdTooLong e = omega arith
refusal_load (refusals.TraceRefused f) e = omega arith
refusal_load (refusals.CertRefused f) e = omega arith
refusal_load (refusals.Unanswered u) e = unanswered_load u e

no_side : (left right : List ℕ) (u : Unpaired) → (unpaired_status u ≢ 5) → failed_side left right u ≡ []
no_side left right unpaired.Memory h = refl
no_side left right (unpaired.LoadFailed side) h = absurd (h refl)
no_side left right (unpaired.Refused side f) h = refl
no_side left right (unpaired.InputsDiffer a b) h = refl
no_side left right (unpaired.OutputsDiffer a b) h = refl
no_side left right (unpaired.FreeDiffer a b) h = refl

no_list : (list : List ℕ) (u : Unanswered) → (unanswered_status u ≢ 5) → failed_of list u ≡ []
no_list list unanswered.Memory h = refl
no_list list unanswered.ListFailed h = absurd (h refl)
no_list list unanswered.ListTooLong h = refl
no_list list (unanswered.ListRefused f) h = refl
no_list list (unanswered.FileFailed names side) h = absurd (h refl)

no_name : (left right trace : List ℕ) (r : Refusal) → (refusal_status r ≢ 5) → failed_names left right trace (Err r) ≡ []
no_name left right trace refusals.Memory h = refl
no_name left right trace (refusals.Unpaired u) h = no_side left right u h
no_name left right trace refusals.ThirdFailed h = absurd (h refl)
no_name left right trace refusals.ThirdTooLong h = refl
no_name left right trace (refusals.TraceRefused f) h = refl
no_name left right trace (refusals.CertRefused f) h = refl
no_name left right trace (refusals.Unanswered u) h = no_list trace u h

-- of a pair that is there only the third file's load can have failed
pub third_name_failed : (left right third : List ℕ) (e : Ending) → IsOfPair e → failed_names left right third e ≡ failed_third third e
third_name_failed left right third (Ok a) h = refl
third_name_failed left right third (Err refusals.Memory) h = refl
third_name_failed left right third (Err (refusals.Unpaired u)) h = absurd h
third_name_failed left right third (Err refusals.ThirdFailed) h = refl
third_name_failed left right third (Err refusals.ThirdTooLong) h = refl
third_name_failed left right third (Err (refusals.TraceRefused f)) h = refl
third_name_failed left right third (Err (refusals.CertRefused f)) h = refl
third_name_failed left right third (Err (refusals.Unanswered u)) h = absurd h

-- only differences and equivalences have a file
no_name_for : (c : Asked) (status : ℕ) → 2 ≤ status → store_name c status ≡ None
no_name_for (ForReplay c) status h = refl
no_name_for (ForVerify c) status h = refl
no_name_for (ForDemo d) status h = refl
no_name_for (ForClimb c) status h = refl
no_name_for (ForReduce r) status h = let q = ne_eqb status 0 (λ e. omega (arith, h, e)) in rw q refl
no_name_for (ForBatch b) status h = refl
no_name_for (ForCheck c) status h = let d = ne_eqb status 1 (λ e. omega (arith, h, e)) in let q = ne_eqb status 0 (λ e. omega (arith, h, e)) in rw d (rw q refl)

-- a status of an answer is none of these
low_status : (c : Asked) (status : ℕ) → IsAnswerStatus c status → (status ≤ 4) × (status ≢ 3)
low_status (ForBatch b) status (inl h) = (omega (arith, h), λ e. omega (arith, h, e))
low_status (ForBatch b) status (inr h) = (omega (arith, h), λ e. omega (arith, h, e))
low_status (ForCheck c) status h = (omega (arith, h), λ e. omega (arith, h, e))
low_status (ForReplay c) status h = (omega (arith, h), λ e. omega (arith, h, e))
low_status (ForVerify c) status h = (omega (arith, h), λ e. omega (arith, h, e))
low_status (ForDemo d) status h = (omega (arith, h), λ e. omega (arith, h, e))
low_status (ForClimb c) status h = (omega (arith, h), λ e. omega (arith, h, e))
low_status (ForReduce r) status h = (omega (arith, h), λ e. omega (arith, h, e))

-- only a batch answers 4
four_is_batch : (c : Asked) (status : ℕ) → IsAnswerStatus c status → status ≡ 4 → IsBatchCommand c
four_is_batch (ForBatch b) status h four = tt
four_is_batch (ForCheck c) status h four = omega (arith, h, four)
four_is_batch (ForReplay c) status h four = omega (arith, h, four)
four_is_batch (ForVerify c) status h four = omega (arith, h, four)
four_is_batch (ForDemo d) status h four = omega (arith, h, four)
four_is_batch (ForClimb c) status h four = omega (arith, h, four)
four_is_batch (ForReduce r) status h four = omega (arith, h, four)

-- a batch has no journal
batch_journal : (c : Asked) (status : ℕ) (journal : Option Written) → IsBatchCommand c → HasJournal c status journal → journal ≡ None
batch_journal (ForBatch b) status journal is has = has
batch_journal (ForCheck c) status journal is has = absurd is
batch_journal (ForReplay c) status journal is has = absurd is
batch_journal (ForVerify c) status journal is has = absurd is
batch_journal (ForDemo d) status journal is has = absurd is
batch_journal (ForClimb c) status journal is has = absurd is
batch_journal (ForReduce r) status journal is has = absurd is

-- the clauses of a run, for each ending
printed_answer : (tells : Bool) (c : Asked) (a : Reply) (journal : Option Written) (before after : World) (status : ℕ) → HasJournal c a.status a.journal → journal ≡ a.journal → Ended tells before.files c (Ok a)
    → status ≡ a.status → IsPrinted tells (store_name c a.status) a before after → IsAnswered tells c status journal before after
printed_answer tells c a journal before after status has from ended is p = record {
  answer = a;
  ended = ended;
  status_is = sym is;
  journal_is = sym from;
  refined = subst (λ (o : Option Written). HasJournal c status o) (sym from) (subst (λ (s : ℕ). HasJournal c s a.journal) (sym is) has);
  stored = p.stored;
  printed = p.printed;
}

pub answered : (tells : Bool) (c : Asked) (e : Ending) (journal : Option Written) (before after : World) (status : ℕ) → IfOk e (λ a. IsAnswerStatus c a.status) → IfOk e (λ a. HasJournal c a.status a.journal) → journal ≡ journal_of e → Ended tells before.files c e → IsReport tells c e before after status → status ≤ 2
    → IsAnswered tells c status journal before after
answered tells c (Ok a) journal before after status low has from ended (inl (is, p)) le = printed_answer tells c a journal before after status has from ended is p
answered tells c (Ok a) journal before after status low has from ended (inr (inl (six, p))) le = absurd (omega (arith, six, le))
answered tells c (Ok a) journal before after status low has from ended (inr (inr (seven, p))) le = absurd (omega (arith, seven, le))
answered tells c (Err r) journal before after status low has from ended (is, p) le = absurd (omega (arith, is, (refusal_high r).0, le))

pub quiet : (tells : Bool) (c : Asked) (e : Ending) (before after : World) (status : ℕ) → IsReport tells c e before after status → status ≤ 2 → after.err ≡ before.err
quiet tells c (Ok a) before after status (inl (is, p)) le = p.quiet
quiet tells c (Ok a) before after status (inr (inl (six, p))) le = absurd (omega (arith, six, le))
quiet tells c (Ok a) before after status (inr (inr (seven, p))) le = absurd (omega (arith, seven, le))
quiet tells c (Err r) before after status (is, p) le = absurd (omega (arith, is, (refusal_high r).0, le))

pub refused : (tells : Bool) (c : Asked) (e : Ending) (journal : Option Written) (before after : World) (status : ℕ) → IfOk e (λ a. IsAnswerStatus c a.status) → IfOk e (λ a. HasJournal c a.status a.journal) → journal ≡ journal_of e
    → Ended tells before.files c e → IsReport tells c e before after status → status ≡ 4 → IsRefusedOrBatch tells c journal before after
refused tells c (Ok a) journal before after status low has from ended (inl (is, p)) four = inr (record {
  batch = four_is_batch c a.status low (sym is ∙ four);
  answered = printed_answer tells c a journal before after 4 has from ended (sym four ∙ is) p;
  quiet = p.quiet;
})
refused tells c (Ok a) journal before after status low has from ended (inr (inl (six, p))) four = absurd (omega (arith, six, four))
refused tells c (Ok a) journal before after status low has from ended (inr (inr (seven, p))) four = absurd (omega (arith, seven, four))
refused tells c (Err r) journal before after status low has from ended (is, p) four = inl (record { refusal = r; ended = ended; status_is = sym is ∙ four; told = p.told; kept = p.kept })

pub unread : (tells : Bool) (c : Asked) (e : Ending) (names names_after : Option (List (List ℕ))) (before after : World) (status : ℕ) → IfOk e (λ a. IsAnswerStatus c a.status) → Ended tells before.files c e
    → names_after ≡ appended names (failed_names (left_name c) (right_name c) (third_name c) e) → IsReport tells c e before after status → status ≡ 5
    → IsUnread tells c names names_after before after
unread tells c (Ok a) names names_after before after status low ended named (inl (is, p)) five = absurd (omega (arith, is, (low_status c a.status low).0, five))
unread tells c (Ok a) names names_after before after status low ended named (inr (inl (six, p))) five = absurd (omega (arith, six, five))
unread tells c (Ok a) names names_after before after status low ended named (inr (inr (seven, p))) five = absurd (omega (arith, seven, five))
unread tells c (Err r) names names_after before after status low ended named (is, p) five = record { refusal = r; ended = ended; status_is = sym is ∙ five; name = named; told = p.told }

pub is_load : (tells : Bool) (c : Asked) (e : Ending) (before after : World) (status : ℕ) → IfOk e (λ a. IsAnswerStatus c a.status) → IsReport tells c e before after status → status ≡ 5 → IsLoadEnding e
is_load tells c (Ok a) before after status low (inl (is, p)) five = absurd (omega (arith, is, (low_status c a.status low).0, five))
is_load tells c (Ok a) before after status low (inr (inl (six, p))) five = absurd (omega (arith, six, five))
is_load tells c (Ok a) before after status low (inr (inr (seven, p))) five = absurd (omega (arith, seven, five))
is_load tells c (Err r) before after status low (is, p) five = refusal_load r (sym is ∙ five)

pub unwritten : (tells : Bool) (c : Asked) (e : Ending) (journal : Option Written) (before after : World) (status : ℕ) → IfOk e (λ a. IsAnswerStatus c a.status) → IfOk e (λ a. HasJournal c a.status a.journal) → journal ≡ journal_of e → Ended tells before.files c e → IsReport tells c e before after status → status ≡ 6
    → IsUnwritten tells c journal before after
unwritten tells c (Ok a) journal before after status low has from ended (inl (is, p)) six = absurd (omega (arith, is, (low_status c a.status low).0, six))
unwritten tells c (Ok a) journal before after status low has from ended (inr (inl (is, p))) six = record { answer = a; ended = ended; journal_is = sym from; refined = subst (HasJournal c a.status) (sym from) has; failed = p }
unwritten tells c (Ok a) journal before after status low has from ended (inr (inr (seven, p))) six = absurd (omega (arith, seven, six))
unwritten tells c (Err r) journal before after status low has from ended (is, p) six = absurd ((refusal_high r).1 (sym is ∙ six))

pub no_journal : (tells : Bool) (c : Asked) (e : Ending) (journal : Option Written) (before after : World) (status : ℕ) → IfOk e (λ a. IsAnswerStatus c a.status) → IfOk e (λ a. HasJournal c a.status a.journal) → journal ≡ journal_of e
    → IsReport tells c e before after status → 3 ≤ status → status ≤ 5 → journal ≡ None
no_journal tells c (Ok a) journal before after status low has from (inl (is, p)) high le =
    let bounds = low_status c a.status low in
    let four : a.status ≡ 4 = omega (arith, is, bounds.0, high, bounds.1) in
    from ∙ batch_journal c a.status a.journal (four_is_batch c a.status low four) has
no_journal tells c (Ok a) journal before after status low has from (inr (inl (six, p))) high le = absurd (omega (arith, six, le))
no_journal tells c (Ok a) journal before after status low has from (inr (inr (seven, p))) high le = absurd (omega (arith, seven, le))
no_journal tells c (Err r) journal before after status low has from report high le = from

pub told_memory : (tells : Bool) (c : Asked) (e : Ending) (before after : World) (status : ℕ) → IfOk e (λ a. IsAnswerStatus c a.status) → IsReport tells c e before after status → status ≡ 7 → IsToldIn before after memory_text
told_memory tells c (Ok a) before after status low (inl (is, p)) seven = absurd (omega (arith, is, (low_status c a.status low).0, seven))
told_memory tells c (Ok a) before after status low (inr (inl (six, p))) seven = absurd (omega (arith, six, seven))
told_memory tells c (Ok a) before after status low (inr (inr (is, p))) seven = p.told
told_memory tells c (Err r) before after status low (is, p) seven = subst (IsToldIn before after) (refusal_memory (left_name c) (right_name c) (third_name c) r (sym is ∙ seven)) p.told

pub out_stays : (tells : Bool) (c : Asked) (e : Ending) (before after : World) (status : ℕ) → IfOk e (λ a. IsAnswerStatus c a.status) → IsReport tells c e before after status → 3 ≤ status → status ≢ 4 → status ≢ 6 → after.out ≡ before.out
out_stays tells c (Ok a) before after status low (inl (is, p)) high four h =
    let bounds = low_status c a.status low in
    let at : status ≡ 4 = omega (arith, is, bounds.0, high, bounds.1) in
    absurd (four at)
out_stays tells c (Ok a) before after status low (inr (inl (six, p))) high four h = absurd (h six)
out_stays tells c (Ok a) before after status low (inr (inr (is, p))) high four h = p.kept
out_stays tells c (Err r) before after status low (is, p) high four h = p.kept

pub names_stay : (tells : Bool) (c : Asked) (e : Ending) (names names_after : Option (List (List ℕ))) (before after : World) (status : ℕ)
    → names_after ≡ appended names (failed_names (left_name c) (right_name c) (third_name c) e) → IsReport tells c e before after status → status ≢ 5 → names_after ≡ names
names_stay tells c (Ok a) names names_after before after status named p h = named ∙ appended_none names
names_stay tells c (Err r) names names_after before after status named (is, p) h =
    named ∙ ap (appended names) (no_name (left_name c) (right_name c) (third_name c) r (λ five. h (is ∙ five))) ∙ appended_none names

pub files_stay : (tells : Bool) (c : Asked) (e : Ending) (before after : World) (status : ℕ) → IsReport tells c e before after status → 2 ≤ status → status ≢ 6 → after.files ≡ before.files
files_stay tells c (Ok a) before after status (inl (is, p)) high six =
    subst (λ name. IsStored tells before.files after.files name a.file.items) (no_name_for c a.status (omega (arith, is, high))) p.stored
files_stay tells c (Ok a) before after status (inr (inl (is, p))) high six = absurd (six is)
files_stay tells c (Ok a) before after status (inr (inr (is, p))) high six = p.files
files_stay tells c (Err r) before after status (is, p) high six = p.files

pub within : (tells : Bool) (c : Asked) (e : Ending) (before after : World) (status : ℕ) → IfOk e (λ a. IsAnswerStatus c a.status) → IsReport tells c e before after status → (status ≤ 7) × (status ≢ 3)
within tells c (Ok a) before after status low (inl (is, p)) = let bounds = low_status c a.status low in (omega (arith, is, bounds.0), λ e. bounds.1 (sym is ∙ e))
within tells c (Ok a) before after status low (inr (inl (six, p))) = (omega (arith, six), λ e. omega (arith, six, e))
within tells c (Ok a) before after status low (inr (inr (seven, p))) = (omega (arith, seven), λ e. omega (arith, seven, e))
within tells c (Err r) before after status low (is, p) = let high = refusal_high r in (omega (arith, is, high.2), λ e. omega (arith, is, high.0, e))

-- a world with the same files and store faults is the same
pub moved : (P : World → Type 0) (f g : List ℕ → Option (List ℕ)) (m n : ℕ) (out : Option (List ℕ)) (out_faults : ℕ) (err : Option (List ℕ)) (err_faults : ℕ) → f ≡ g → m ≡ n
    → P (world_of f m out out_faults err err_faults) → P (world_of g n out out_faults err err_faults)
moved P f g m n out out_faults err err_faults e h p =
    subst (λ (k : ℕ). P (world_of g k out out_faults err err_faults)) h (subst (λ (k : List ℕ → Option (List ℕ)). P (world_of k m out out_faults err err_faults)) e p)

-- what holds of the command that the words mean
pub some_and : (o : Option Asked) (c : Asked) (P : Asked → Type 0) → o ≡ Some c → P c → IsSomeAnd o P
some_and o c P e p = subst (λ (x : Option Asked). IsSomeAnd x P) (sym e) p

-- where there was no memory to read the words there is no journal
pub no_memory_journal : (tells : Bool) (files : List ℕ → Option (List ℕ)) (o : Option Asked) → IsJournalOfWords tells files o None
no_memory_journal tells files None = refl
no_memory_journal tells files (Some (ForCheck c)) = (Err refusals.Memory, (λ _. tt), refl)
no_memory_journal tells files (Some (ForReplay c)) = (Err refusals.Memory, (λ _. tt), refl)
no_memory_journal tells files (Some (ForVerify c)) = (Err refusals.Memory, (λ _. tt), refl)
no_memory_journal tells files (Some (ForDemo d)) = (Err refusals.Memory, tt, refl)
no_memory_journal tells files (Some (ForClimb c)) = (Err refusals.Memory, (λ _. tt), refl)
no_memory_journal tells files (Some (ForReduce r)) = (Err refusals.Memory, (λ _. tt), refl)
no_memory_journal tells files (Some (ForBatch b)) = (Err refusals.Memory, (λ _. tt), refl)
