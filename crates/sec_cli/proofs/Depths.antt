-- A climb from one depth of the induction to the next.
use Rattle.std.proofs.Common.{◌≡◌, ◌<◌, ◌≤◌, ◌+◌, ◌==◌, ◌∙◌, ℕ, Bool, true, false, not, List, Option, None, Some, is_some, IfSome, IsTrue, IsSomeAnd, MatchBool, refl, ap, sym, subst, arith, eqb-true}
use Rattle.circ_model.specs.Meaning.{Pair}
use Rattle.circ_model.specs.Verdict.{AgreeBelow, Verdict, Equivalent, Different, Undecided}
use Rattle.pair_sweep.specs.Sweeps.{Extent}
use Rattle.verdict_stamp.specs.Known.{KnownClasses}
use Rattle.verdict_stamp.specs.Versions.{Standing}
use Rattle.prover_table.specs.Tables.{IsKnownFor, IsMemoryFor}
use Rattle.refine_board.specs.Running.{Written}
use Rattle.command_line.specs.Asked.{OptionsAsked, ClimbAsked, ForClimb, IsCheckWithin, IsClimbWithin}
use Rattle.sec_cli.specs.declared.checking.Reached.{Reached}
use Rattle.sec_cli.specs.declared.ending.Reply.{Reply}
use Rattle.run_texts.specs.Verdicts.{status_of_verdict}
use Rattle.sec_cli.specs.Answers.{IsCheckAnswer, IsRefinedText, IsVerdictText, is_refined}
use Rattle.sec_cli.specs.Climbs.{IsOpen, IsLastTried, IsJournalBefore, IsClimbAnswer, IsReached, check_of_climb}
use Rattle.sec_cli.specs.Endings.{HasJournal}

-- nothing was decided below this depth, and this is the journal of the refinement before it
pub record IsSoFar (pair : Pair) (c : ClimbAsked) (k : ℕ) (before : Option Written) : Type 0 where
  pub some : 0 < k
  pub few : k ≤ c.most
  pub below : (j : ℕ) → 0 < j → j < k → IsOpen pair j
  pub journal : IsJournalBefore pair c k before

pub begins : (pair : Pair) (c : ClimbAsked) → 0 < c.most → IsSoFar pair c 1 None
begins pair c some = record { some = omega arith; few = omega (arith, some); below = λ j from lt. absurd (omega (arith, from, lt)); journal = refl }

open_at : (pair : Pair) (c : ClimbAsked) (k : ℕ) (a : Reply) → IsCheckAnswer pair (check_of_climb c k) a → a.status ≡ 2 → IsOpen pair k
open_at pair c k a (Equivalent n, is, status, text) two = absurd (omega (arith, status, two))
open_at pair c k a (Different t j, is, status, text) two = absurd (omega (arith, status, two))
open_at pair c k a (Undecided n u, is, status, text) two = (n, u, is)

journal_in : (pair : Pair) (c : ClimbAsked) (k : ℕ) (line text : List ℕ) (o : Option Written) → 0 < k → IsSomeAnd o (λ j. IsRefinedText pair (check_of_climb c k) j.entries line text) → IsJournalBefore pair c (k + 1) o
journal_in pair c k line text None some h = absurd h
journal_in pair c k line text (Some j) some h = (k, some, refl, h.journal)

journal_at : (pair : Pair) (c : ClimbAsked) (k : ℕ) (a : Reply) → 0 < k → IsCheckAnswer pair (check_of_climb c k) a → a.status ≡ 2 → IsJournalBefore pair c (k + 1) a.journal
journal_at pair c k a some (Equivalent n, is, status, text) two = absurd (omega (arith, status, two))
journal_at pair c k a some (Different t j, is, status, text) two = absurd (omega (arith, status, two))
journal_at pair c k a some (Undecided n u, is, status, text) two = journal_in pair c k _ _ a.journal some text

-- one depth more
pub goes_on : (pair : Pair) (c : ClimbAsked) (k : ℕ) (before : Option Written) (a : Reply) → IsSoFar pair c k before → k < c.most → IsCheckAnswer pair (check_of_climb c k) a → a.status ≡ 2 → IsSoFar pair c (k + 1) a.journal
goes_on pair c k before a so lt is two = record {
  some = omega arith;
  few = omega (arith, lt);
  below = λ j from less. go j from less (j == k) refl;
  journal = journal_at pair c k a so.some is two;
}
  where
    go : (j : ℕ) → 0 < j → j < k + 1 → (b : Bool) → (j == k) ≡ b → IsOpen pair j
    go j from less true e = subst (IsOpen pair) (sym (eqb-true j k e)) (open_at pair c k a is two)
    go j from less false e = so.below j from (omega (arith, less, λ (h : j ≡ k). differs j h e))
      where
        differs : (i : ℕ) → i ≡ k → (i == k) ≡ false → ⊥
        differs i h e = grind (arith, h, e)

-- the text of a difference speaks of no journal
any_journal : (pair : Pair) (c : OptionsAsked) (v : Verdict) (text file : List ℕ) (o p : Option Written) → status_of_verdict v ≡ 1 → IsVerdictText pair c v text file o → IsVerdictText pair c v text file p
any_journal pair c (Equivalent n) text file o p one h = absurd (omega (arith, one))
any_journal pair c (Different t j) text file o p one h = h
any_journal pair c (Undecided n u) text file o p one h = absurd (omega (arith, one))

-- an answer that ends the climb, with the journal that is due
pub ends : (pair : Pair) (c : ClimbAsked) (k : ℕ) (before : Option Written) (a b : Reply) → IsSoFar pair c k before → (a.status ≡ 2 → k ≡ c.most) → IsCheckAnswer pair (check_of_climb c k) a
    → b.status ≡ a.status → b.text.items ≡ a.text.items → b.file.items ≡ a.file.items → MatchBool (a.status == 1) (b.journal ≡ before) (b.journal ≡ a.journal) → IsClimbAnswer pair c b
ends pair c k before a b so end (v, is, status, text) same_status same_text same_file journal = go (a.status == 1) refl journal
  where
    with_text : (o : Option Written) → IsVerdictText pair (check_of_climb c k) v a.text.items a.file.items o → b.journal ≡ o → IsCheckAnswer pair (check_of_climb c k) b
    with_text o h e =
        let stored : IsVerdictText pair (check_of_climb c k) v a.text.items b.file.items o = subst (λ (f : List ℕ). IsVerdictText pair (check_of_climb c k) v a.text.items f o) (sym same_file) h in
        let printed : IsVerdictText pair (check_of_climb c k) v b.text.items b.file.items o = subst (λ (t : List ℕ). IsVerdictText pair (check_of_climb c k) v t b.file.items o) (sym same_text) stored in
        (v, is, same_status ∙ status, subst (IsVerdictText pair (check_of_climb c k) v b.text.items b.file.items) (sym e) printed)

    last : IsLastTried pair c.most k b.status
    last = record { some = so.some; few = so.few; below = so.below; ends = λ two. end (sym same_status ∙ two) }

    go : (x : Bool) → (a.status == 1) ≡ x → MatchBool x (b.journal ≡ before) (b.journal ≡ a.journal) → IsClimbAnswer pair c b
    go true e j =
        let one : status_of_verdict v ≡ 1 = sym status ∙ eqb-true a.status 1 e in
        (k, last, with_text before (any_journal pair (check_of_climb c k) v a.text.items a.file.items a.journal before one text) j, λ h. subst (IsJournalBefore pair c k) (sym j) so.journal)
    go false e j = (k, last, with_text a.journal text j, λ h. absurd (not_one (sym same_status ∙ h) e))
      where
        not_one : a.status ≡ 1 → (a.status == 1) ≡ false → ⊥
        not_one h e = let bad : true ≡ false = sym (ap (λ (s : ℕ). s == 1) h) ∙ e in cc

-- an answer that ends the climb with the first depth
pub ends_at_once : (pair : Pair) (c : ClimbAsked) (check : OptionsAsked) (a b : Reply) → 0 < c.most → check ≡ check_of_climb c 1 → a.status ≡ 1 → IsCheckAnswer pair check a
    → b.status ≡ a.status → b.text.items ≡ a.text.items → b.file.items ≡ a.file.items → MatchBool (a.status == 1) (b.journal ≡ None) (b.journal ≡ a.journal) → IsClimbAnswer pair c b
ends_at_once pair c check a b some same one is status text file journal =
    ends pair c 1 None a b (begins pair c some) (λ two. absurd (omega (arith, one, two))) (subst (λ (x : OptionsAsked). IsCheckAnswer pair x a) same is) status text file journal

pub has_journal : (c : ClimbAsked) (before : Option Written) (a b : Reply) → is_some a.journal ≡ is_refined a.status → b.status ≡ a.status → MatchBool (a.status == 1) (b.journal ≡ before) (b.journal ≡ a.journal)
    → HasJournal (ForClimb c) b.status b.journal
has_journal c before a b has same journal other = go (a.status == 1) refl journal
  where
    go : (x : Bool) → (a.status == 1) ≡ x → MatchBool x (b.journal ≡ before) (b.journal ≡ a.journal) → IsTrue (is_some b.journal)
    go true e j = absurd (other (same ∙ eqb-true a.status 1 e))
    go false e j = ap is_some j ∙ has ∙ ap not e

agree_at : (pair : Pair) (c : OptionsAsked) (a : Reply) → IsCheckAnswer pair c a → a.status ≡ 2 → AgreeBelow pair c.depth
agree_at pair c a (Equivalent n, is, status, text) two = absurd (omega (arith, status, two))
agree_at pair c a (Different t j, is, status, text) two = absurd (omega (arith, status, two))
agree_at pair c a (Undecided n u, is, status, text) two = is.0

for_more : (pair : Pair) (k : ℕ) (version : Standing) (o : Option KnownClasses) → version.pair ≡ pair → version.k ≡ k → IfSome o (λ n. (n.pair ≡ version.pair) × (n.k ≡ version.k)) → IfSome o (IsKnownFor pair (k + 1))
for_more pair k version None same at h = h
for_more pair k version (Some n) same at h = (h.0 ∙ same, omega (arith, h.1, at))

memory_for : (pair : Pair) (k : ℕ) (version : Standing) (o : Option Extent) → version.pair ≡ pair → version.k ≡ k → IfSome o (IsMemoryFor version.pair (version.k + 1)) → IfSome o (IsMemoryFor pair (k + 1))
memory_for pair k version None same at h = h
memory_for pair k version (Some m) same at h = (h.0 ∙ same, omega (arith, h.1, at))

-- what is known before the next depth
pub reaches : (pair : Pair) (c : OptionsAsked) (a : Reply) (version : Standing) (r : Reached) → c.depth ≡ c.k → IsCheckAnswer pair c a → a.status ≡ 2 → version.pair ≡ pair → version.k ≡ c.k → r.agreed ≡ version.k
    → IfSome r.earlier.known (λ n. (n.pair ≡ version.pair) × (n.k ≡ version.k)) → IfSome r.earlier.memory (IsMemoryFor version.pair (version.k + 1)) → IsReached pair (c.k + 1) r
reaches pair c a version r deep is two same at agreed known memory = (
  subst (AgreeBelow pair) (deep ∙ sym (agreed ∙ at)) (agree_at pair c a is two),
  (for_more pair c.k version r.earlier.known same at known, memory_for pair c.k version r.earlier.memory same at memory),
)

-- the check of a depth keeps the limits
pub check_within : (c : ClimbAsked) (k : ℕ) (o : OptionsAsked) → IsClimbWithin c → 0 < k → k ≤ c.most → o ≡ check_of_climb c k → IsCheckWithin o
check_within c k o within some few is = subst IsCheckWithin (sym is) (record {
  some = some;
  few = omega (arith, few, within.few);
  no_less = omega arith;
  shallow = omega (arith, few, within.few);
  workers = within.workers;
})
