-- The numbers of the entries of a journal's front, one entry more at a time.
use Rattle.std.proofs.Common.{◌≡◌, ◌∙◌, ◌<◌, ◌+◌, ℕ, List, Bool, true, false, ◌⊎◌, inl, inr, length, take, get_or, refl, ap, sym, subst, arith, count_by}
use Rattle.std.proofs.lemmas.List.{length-take}
use Rattle.std.proofs.lemmas.List.Sums.{count_by_more_yes, count_by_more_no, count_by-le-length}
use Rattle.refine_board.specs.declared.journal.Step.{Step}
use Rattle.refine_board.specs.declared.journal.Step.TheVariants.{Idle, Done, Foreign}
use Rattle.refine_board.specs.declared.journal.Entry.{Entry}
use Rattle.refine_board.specs.Tallies.{is_offered, is_split, is_back}
use Rattle.sec_cli.specs.declared.counting.Stats.{Stats}
use Rattle.split_workers.specs.Reports.{is_counted, is_stale, is_already, one_if}
use Rattle.sec_cli.specs.Stats.{AreBelow, IsOneMore, stats_of}

count_more : (p : Step → Bool) (entries : List Entry) (i : ℕ) (entry : Entry) → i < length entries → entry ≡ get_or entries i entry
    → count_by (λ (e : Entry). p e.step) (take (i + 1) entries) ≡ count_by (λ (e : Entry). p e.step) (take i entries) + one_if (p entry.step)
count_more p entries i entry lt at = step (p entry.step) refl
  where
    step : (b : Bool) → p entry.step ≡ b → count_by (λ (e : Entry). p e.step) (take (i + 1) entries) ≡ count_by (λ (e : Entry). p e.step) (take i entries) + one_if b
    step true e = count_by_more_yes (λ (e : Entry). p e.step) entries i entry lt (ap (λ (x : Entry). p x.step) (sym at) ∙ e)
    step false e = count_by_more_no (λ (e : Entry). p e.step) entries i entry lt (ap (λ (x : Entry). p x.step) (sym at) ∙ e) ∙ omega arith

few : (p : Step → Bool) (entries : List Entry) (i most : ℕ) → i < most → count_by (λ (e : Entry). p e.step) (take i entries) < most
few p entries i most lt = omega (arith, lt, count_by-le-length (λ (e : Entry). p e.step) (take i entries), length-take i entries)

-- each number is at most that of the entries
pub are_few : (entries : List Entry) (i most : ℕ) (s : Stats) → i < most → s ≡ stats_of (take i entries) → AreBelow most s
are_few entries i most s lt e = subst (AreBelow most) (sym e) (record {
  offers = few is_offered entries i most lt;
  counted = few is_counted entries i most lt;
  stale = few is_stale entries i most lt;
  splits = few is_split entries i most lt;
  already = few is_already entries i most lt;
  back = few is_back entries i most lt;
})

same_stats : (a b : Stats) → a.offers ≡ b.offers → a.counted ≡ b.counted → a.stale ≡ b.stale → a.splits ≡ b.splits → a.already ≡ b.already → a.back ≡ b.back → a ≡ b
same_stats a b o c s p y k = rw (sym o) (rw (sym c) (rw (sym s) (rw (sym p) (rw (sym y) (rw (sym k) refl)))))

-- some steps are of none of these kinds
pub none_more : (s : Stats) (step : Step) → (step ≡ Idle) ⊎ (step ≡ Done) ⊎ (step ≡ Foreign) → IsOneMore s step s
none_more s step (inl e) = rw e (record { offers = omega arith; counted = omega arith; stale = omega arith; splits = omega arith; already = omega arith; back = omega arith })
none_more s step (inr (inl e)) = rw e (record { offers = omega arith; counted = omega arith; stale = omega arith; splits = omega arith; already = omega arith; back = omega arith })
none_more s step (inr (inr e)) = rw e (record { offers = omega arith; counted = omega arith; stale = omega arith; splits = omega arith; already = omega arith; back = omega arith })

pub one_more : (entries : List Entry) (i : ℕ) (entry : Entry) (before after : Stats) → i < length entries → entry ≡ get_or entries i entry → before ≡ stats_of (take i entries) → IsOneMore before entry.step after
    → after ≡ stats_of (take (i + 1) entries)
one_more entries i entry before after lt at is more =
    same_stats after (stats_of (take (i + 1) entries))
    (more.offers ∙ ap (λ (s : Stats). s.offers + one_if (is_offered entry.step)) is ∙ sym (count_more is_offered entries i entry lt at))
    (more.counted ∙ ap (λ (s : Stats). s.counted + one_if (is_counted entry.step)) is ∙ sym (count_more is_counted entries i entry lt at))
    (more.stale ∙ ap (λ (s : Stats). s.stale + one_if (is_stale entry.step)) is ∙ sym (count_more is_stale entries i entry lt at))
    (more.splits ∙ ap (λ (s : Stats). s.splits + one_if (is_split entry.step)) is ∙ sym (count_more is_split entries i entry lt at))
    (more.already ∙ ap (λ (s : Stats). s.already + one_if (is_already entry.step)) is ∙ sym (count_more is_already entries i entry lt at))
    (more.back ∙ ap (λ (s : Stats). s.back + one_if (is_back entry.step)) is ∙ sym (count_more is_back entries i entry lt at))
