-- The numbers of a worker's entries in a journal's front, one entry more at a time.
use Rattle.std.proofs.Common.{◌≡◌, ◌∙◌, ◌<◌, ◌+◌, ◌==◌, ◌&&◌, ℕ, List, Bool, true, false, length, take, get_or, refl, ap, sym, subst, arith, eq-eqb, ne_eqb}
use Rattle.std.proofs.lemmas.Bool.{and_right}
use Rattle.std.proofs.lemmas.List.{length-take}
use Rattle.std.proofs.lemmas.List.Sums.{count_by_more_yes, count_by_more_no, count_by-le-length}
use Rattle.refine_board.specs.declared.journal.Step.{Step}
use Rattle.refine_board.specs.declared.journal.Entry.{Entry}
use Rattle.refine_board.specs.Tallies.{is_offered, is_split, is_back}
use Rattle.work_desk.specs.Tallies.{is_done}
use Rattle.split_workers.specs.declared.report.WorkReport.{WorkReport}
use Rattle.split_workers.specs.Reports.{AreBelow, IsOneMore, entries_of, report_of, one_if, is_idle, is_counted, is_stale, is_already, is_foreign}

few : (p : Step → Bool) (entries : List Entry) (worker i most : ℕ) → i < most → entries_of p (take i entries) worker < most
few p entries worker i most lt = omega (arith, lt, count_by-le-length (λ (e : Entry). p e.step && e.worker == worker) (take i entries), length-take i entries)

-- each number is at most that of the entries
pub are_few : (entries : List Entry) (worker i most : ℕ) (r : WorkReport) → i < most → r ≡ report_of (take i entries) worker → AreBelow most r
are_few entries worker i most r lt e = subst (AreBelow most) (sym e) (record {
  offers = few is_offered entries worker i most lt;
  idle = few is_idle entries worker i most lt;
  done = few is_done entries worker i most lt;
  counted = few is_counted entries worker i most lt;
  stale = few is_stale entries worker i most lt;
  splits = few is_split entries worker i most lt;
  already = few is_already entries worker i most lt;
  foreign = few is_foreign entries worker i most lt;
  back = few is_back entries worker i most lt;
})

same_report : (a b : WorkReport) → a.worker ≡ b.worker → a.offers ≡ b.offers → a.idle ≡ b.idle → a.done ≡ b.done → a.counted ≡ b.counted → a.stale ≡ b.stale → a.splits ≡ b.splits → a.already ≡ b.already → a.foreign ≡ b.foreign → a.back ≡ b.back → a ≡ b
same_report a b w o i d c s p y f k = rw (sym w) (rw (sym o) (rw (sym i) (rw (sym d) (rw (sym c) (rw (sym s) (rw (sym p) (rw (sym y) (rw (sym f) (rw (sym k) refl)))))))))

and_true : (b : Bool) → (b && true) ≡ b
and_true true = refl
and_true false = refl

module _ (entries : List Entry) (i worker : ℕ) (entry : Entry) (lt : i < length entries) (at : entry ≡ get_or entries i entry) where
  count_more : (p : Step → Bool) (b : Bool) → (p entry.step && entry.worker == worker) ≡ b → entries_of p (take (i + 1) entries) worker ≡ entries_of p (take i entries) worker + one_if b
  count_more p true e = count_by_more_yes (λ (x : Entry). p x.step && x.worker == worker) entries i entry lt (ap (λ (x : Entry). p x.step && x.worker == worker) (sym at) ∙ e)
  count_more p false e = count_by_more_no (λ (x : Entry). p x.step && x.worker == worker) entries i entry lt (ap (λ (x : Entry). p x.step && x.worker == worker) (sym at) ∙ e) ∙ omega arith

  count_own : entry.worker ≡ worker → (p : Step → Bool) → entries_of p (take (i + 1) entries) worker ≡ entries_of p (take i entries) worker + one_if (p entry.step)
  count_own own p = count_more p (p entry.step) (ap (λ b. p entry.step && b) (eq-eqb entry.worker worker own) ∙ and_true (p entry.step))

  count_other : (entry.worker ≡ worker → ⊥) → (p : Step → Bool) → entries_of p (take i entries) worker ≡ entries_of p (take (i + 1) entries) worker
  count_other other p = sym (count_more p false (and_right (p entry.step) (entry.worker == worker) (ne_eqb entry.worker worker other)) ∙ omega arith)

  pub own_more : (before after : WorkReport) → entry.worker ≡ worker → before ≡ report_of (take i entries) worker → IsOneMore before entry.step after → after ≡ report_of (take (i + 1) entries) worker
  own_more before after own is more =
      same_report after (report_of (take (i + 1) entries) worker)
      (more.worker ∙ ap (λ (r : WorkReport). r.worker) is)
      (more.offers ∙ ap (λ (r : WorkReport). r.offers + one_if (is_offered entry.step)) is ∙ sym (count_own own is_offered))
      (more.idle ∙ ap (λ (r : WorkReport). r.idle + one_if (is_idle entry.step)) is ∙ sym (count_own own is_idle))
      (more.done ∙ ap (λ (r : WorkReport). r.done + one_if (is_done entry.step)) is ∙ sym (count_own own is_done))
      (more.counted ∙ ap (λ (r : WorkReport). r.counted + one_if (is_counted entry.step)) is ∙ sym (count_own own is_counted))
      (more.stale ∙ ap (λ (r : WorkReport). r.stale + one_if (is_stale entry.step)) is ∙ sym (count_own own is_stale))
      (more.splits ∙ ap (λ (r : WorkReport). r.splits + one_if (is_split entry.step)) is ∙ sym (count_own own is_split))
      (more.already ∙ ap (λ (r : WorkReport). r.already + one_if (is_already entry.step)) is ∙ sym (count_own own is_already))
      (more.foreign ∙ ap (λ (r : WorkReport). r.foreign + one_if (is_foreign entry.step)) is ∙ sym (count_own own is_foreign))
      (more.back ∙ ap (λ (r : WorkReport). r.back + one_if (is_back entry.step)) is ∙ sym (count_own own is_back))

  -- an entry of another worker changes no number
  pub other_same : (r : WorkReport) → (entry.worker ≡ worker → ⊥) → r ≡ report_of (take i entries) worker → r ≡ report_of (take (i + 1) entries) worker
  other_same r other is = is ∙ same_report (report_of (take i entries) worker) (report_of (take (i + 1) entries) worker) refl
      (count_other other is_offered)
      (count_other other is_idle)
      (count_other other is_done)
      (count_other other is_counted)
      (count_other other is_stale)
      (count_other other is_split)
      (count_other other is_already)
      (count_other other is_foreign)
      (count_other other is_back)
