-- What each call of the board does to what is true of a desk.
use Rattle.std.proofs.Common.{arith, refl, sym, ap, subst, ◌≡◌, ◌∙◌, ◌<◌, ◌≤◌, ◌+◌, ◌*◌, ◌^◌, [], ℕ, List, Bool, true, false, cond, ⊎_elim}
use Rattle.std.proofs.lemmas.List.Elements.{All-push}
use Rattle.circ_model.specs.Meaning.{Pair, places_of}
use Rattle.class_partition.specs.declared.classes.Needed.{Needed}
use Rattle.class_partition.specs.Classes.{AreOfGreatest}
use Rattle.refine_board.specs.declared.journal.Step.{Step}
use Rattle.refine_board.specs.declared.journal.Step.TheVariants as step
use Rattle.refine_board.specs.declared.journal.Entry.{Entry}
use Rattle.refine_board.specs.declared.answers.Kept.{Kept}
use Rattle.refine_board.specs.declared.answers.Kept.TheVariants as kept_as
use Rattle.refine_board.specs.declared.answers.Cut.{Cut}
use Rattle.refine_board.specs.declared.answers.Cut.TheVariants as cut_as
use Rattle.refine_board.specs.Answers.{kept_step, cut_step}
use Rattle.verdict_stamp.specs.declared.used.Used.{Used}
use Rattle.refine_board.specs.Tallies.{is_offered}
use Rattle.verdict_stamp.specs.Versions.{Standing}
use Rattle.refine_board.specs.States.{State}
use Rattle.refine_board.specs.Schedules.{Leads}
use Rattle.refine_board.specs.Running.{Running, Appends, AnswersAt, Claiming, IsDue, IsUnder, OffersFirst, next_entry}
use Rattle.refine_board.proofs.Splits.{makes}
use Rattle.work_desk.specs.Tallies.{is_done, is_answer, ends, weights, dones}
use Rattle.work_desk.specs.Seats.{Totals, no_totals}
use Rattle.work_desk.specs.Desks.{IsLawful, AreLawful, IsDesk, IsRun, IsOutcome}
use Rattle.work_desk.proofs.Ends.{least_ends, all_ones, sum_none, same_ends, same_weights, more_ends, more_weights, answers_push, offered_push}

-- at the opening nothing has come
pub run_opened : (pair : Pair) (k workers : ℕ) (board : Running) (t : Totals) (end_parts seat_parts : ℕ) → board.entries ≡ [] → t ≡ no_totals → 0 < workers → workers ≤ 64 → end_parts ≡ workers → seat_parts ≡ workers * 2
    → IsRun pair k workers board t end_parts seat_parts
run_opened pair k workers board t end_parts seat_parts empty none some few ends_are seats_are =
    record {
      desk = record {
        greatest = λ ended. absurd (omega (arith, ended, ap (λ (x : Totals). x.ends) none));
        lawful = subst (AreLawful workers) (sym empty) (λ i d lt. absurd (omega arith));
        weights_are = ap (λ (x : Totals). x.weights) none ∙ sym (sum_none workers (λ p. dones [] p * 2 ^ p) (λ p. omega arith)) ∙ sym (ap (weights workers) empty);
        ends_are = ap (λ (x : Totals). x.ends) none ∙ sym (sum_none workers (dones []) (λ p. refl)) ∙ sym (ap (ends workers) empty);
        answers_are = rw (empty, none) refl;
        answered = rw empty (omega arith);
      };
      some = some;
      few = few;
      end_parts_are = ends_are;
      seat_parts_are = seats_are;
    }

-- one entry more that tells no end, and takes nothing from the greatest classes
pub desk_step : (pair : Pair) (k workers : ℕ) (before after : Running) (party : ℕ) (event : Step) (t t' : Totals) (out left : ℕ) → IsDesk pair k workers before t out
    → Appends (places_of pair) before after party event → party < workers → (AreOfGreatest pair k before.state.classes → after.state.classes ≡ before.state.classes) → IsLawful event
    → is_done event ≡ false → t'.weights ≡ t.weights → t'.ends ≡ t.ends → t'.answered ≡ t.answered + cond (is_answer event) 1 0
    → out + cond (is_offered event) 1 0 ≤ left + cond (is_answer event) 1 0
    → IsDesk pair k workers after t' left
desk_step pair k workers before after party event t t' out left was adds under stays ok going weighs ended more owes =
    let entry : Entry = next_entry before.state party event in
    record {
      greatest = λ some. let yes = was.greatest (subst (λ n. 0 < n) ended some) in subst (AreOfGreatest pair k) (sym (stays yes)) yes;
      lawful = subst (AreLawful workers) (sym adds.1) (All-push (λ (x : Entry). (x.worker < workers) × IsLawful x.step) before.entries entry was.lawful (under, ok));
      weights_are = weighs ∙ was.weights_are ∙ sym (same_weights before.entries entry workers going) ∙ sym (ap (weights workers) adds.1);
      ends_are = ended ∙ was.ends_are ∙ sym (same_ends before.entries entry workers going) ∙ sym (ap (ends workers) adds.1);
      answers_are = rw adds.1 (omega (arith, more, was.answers_are, answers_push before.entries entry));
      answered = rw adds.1 (omega (arith, owes, was.answered, answers_push before.entries entry, offered_push before.entries entry));
    }

-- a call that wrote nothing leaves what is true
pub desk_same : (pair : Pair) (k workers : ℕ) (before after : Running) (t : Totals) (out : ℕ) → IsDesk pair k workers before t out → after.state ≡ before.state → after.entries ≡ before.entries → IsDesk pair k workers after t out
desk_same pair k workers before after t out was state entries = record {
  greatest = λ some. subst (λ s. AreOfGreatest pair k s.classes) (sym state) (was.greatest some);
  lawful = subst (AreLawful workers) (sym entries) was.lawful;
  weights_are = was.weights_are ∙ sym (ap (weights workers) entries);
  ends_are = was.ends_are ∙ sym (ap (ends workers) entries);
  answers_are = rw entries was.answers_are;
  answered = rw entries was.answered;
}

-- a claimed pair is offered where it is due; then one of them may be open
desk_offered : (pair : Pair) (k workers : ℕ) (before middle : Running) (c : Claiming) (t : Totals) → IsDesk pair k workers before t 0 → OffersFirst (places_of pair) before middle c → c.party < workers
    → IsDesk pair k workers middle t 1 × (middle.state.classes ≡ before.state.classes)
desk_offered pair k workers before middle c t was offers under = ⊎_elim
    (λ (h : IsDue before c × Appends (places_of pair) before middle c.party (step.Offered c.pair)).
    let same : middle.state.classes ≡ before.state.classes = makes (places_of pair) c.party (step.Offered c.pair) before.state middle.state h.1.0.2 in
    (desk_step pair k workers before middle c.party (step.Offered c.pair) t t 0 1 was h.1 under (λ of. same) tt refl refl refl (omega arith) (omega arith), same))
    (λ (h : (IsDue before c → ⊥) × (middle.state ≡ before.state) × (middle.entries ≡ before.entries)).
    let is = desk_same pair k workers before middle t 0 was h.1 h.2 in
    (record { greatest = is.greatest; lawful = is.lawful; weights_are = is.weights_are; ends_are = is.ends_are; answers_are = is.answers_are; answered = let a = is.answered in omega arith }, ap (λ (s : State). s.classes) h.1))
    offers

-- and it is answered
pub run_answered : (pair : Pair) (k workers : ℕ) (before after : Running) (c : Claiming) (event : Step) (t t' : Totals) (end_parts seat_parts : ℕ) → IsRun pair k workers before t end_parts seat_parts
    → AnswersAt (places_of pair) before after c event → c.party < workers → (AreOfGreatest pair k before.state.classes → after.state.classes ≡ before.state.classes) → IsLawful event
    → is_done event ≡ false → is_answer event ≡ true → is_offered event ≡ false → t'.weights ≡ t.weights → t'.ends ≡ t.ends → t'.answered ≡ t.answered + 1
    → IsRun pair k workers after t' end_parts seat_parts
run_answered pair k workers before after c event t t' end_parts seat_parts was (middle, offers, adds) under stays ok going answer offered weighs ended more =
    let mid = desk_offered pair k workers before middle c t was.desk offers under in
    record {
      desk = desk_step pair k workers middle after c.party event t t' 1 0 mid.0 adds under (λ of. stays (subst (AreOfGreatest pair k) mid.1 of) ∙ sym mid.1) ok going weighs ended (rw answer more) (rw (answer, offered) (omega arith));
      some = was.some;
      few = was.few;
      end_parts_are = was.end_parts_are;
      seat_parts_are = was.seat_parts_are;
    }

pub run_same : (pair : Pair) (k workers : ℕ) (before after : Running) (t : Totals) (end_parts seat_parts : ℕ) → IsRun pair k workers before t end_parts seat_parts → after.state ≡ before.state → after.entries ≡ before.entries
    → IsRun pair k workers after t end_parts seat_parts
run_same pair k workers before after t end_parts seat_parts was state entries = record {
  desk = desk_same pair k workers before after t 0 was.desk state entries;
  some = was.some;
  few = was.few;
  end_parts_are = was.end_parts_are;
  seat_parts_are = was.seat_parts_are;
}

-- a worker more has ended, where the classes are the greatest
pub run_ended : (pair : Pair) (k workers : ℕ) (before after : Running) (party : ℕ) (t t' : Totals) (end_parts seat_parts : ℕ) → IsRun pair k workers before t end_parts seat_parts
    → Appends (places_of pair) before after party step.Done → party < workers → AreOfGreatest pair k after.state.classes
    → t'.weights ≡ t.weights + 2 ^ party → t'.ends ≡ t.ends + 1 → t'.answered ≡ t.answered
    → IsRun pair k workers after t' end_parts seat_parts
run_ended pair k workers before after party t t' end_parts seat_parts was adds under greatest weighs ended same =
    let entry : Entry = next_entry before.state party step.Done in
    record {
      desk = record {
        greatest = λ some. greatest;
        lawful = subst (AreLawful workers) (sym adds.1) (All-push (λ (x : Entry). (x.worker < workers) × IsLawful x.step) before.entries entry was.desk.lawful (under, tt));
        weights_are = weighs ∙ ap (λ n. n + 2 ^ party) was.desk.weights_are ∙ sym (more_weights before.entries entry workers under refl) ∙ sym (ap (weights workers) adds.1);
        ends_are = ended ∙ ap (λ n. n + 1) was.desk.ends_are ∙ sym (more_ends before.entries entry workers under refl) ∙ sym (ap (ends workers) adds.1);
        answers_are = rw adds.1 (omega (arith, same, was.desk.answers_are, answers_push before.entries entry));
        answered = rw adds.1 (omega (arith, was.desk.answered, answers_push before.entries entry, offered_push before.entries entry));
      };
      some = was.some;
      few = was.few;
      end_parts_are = was.end_parts_are;
      seat_parts_are = was.seat_parts_are;
    }

kept_after : (places : ℕ) (before after : Running) (party : ℕ) (r : Kept) (p : Needed) (w : Used) → Appends places before after party (kept_step r p w) → after.state.classes ≡ before.state.classes
kept_after places before after party kept_as.Counted p w adds = makes places party (step.Counted p w) before.state after.state adds.0.2
kept_after places before after party kept_as.Stale p w adds = makes places party (step.Stale p) before.state after.state adds.0.2

offered_after : (places : ℕ) (before middle : Running) (c : Claiming) → OffersFirst places before middle c → middle.state.classes ≡ before.state.classes
offered_after places before middle c = ⊎_elim
    (λ (h : IsDue before c × Appends places before middle c.party (step.Offered c.pair)). makes places c.party (step.Offered c.pair) before.state middle.state h.1.0.2)
    (λ (h : (IsDue before c → ⊥) × (middle.state ≡ before.state) × (middle.entries ≡ before.entries)). ap (λ (s : State). s.classes) h.1)

pub kept_stays : (places : ℕ) (before after : Running) (c : Claiming) (r : Kept) (p : Needed) (w : Used) → AnswersAt places before after c (kept_step r p w) → after.state.classes ≡ before.state.classes
kept_stays places before after c r p w (middle, offers, adds) = kept_after places middle after c.party r p w adds ∙ offered_after places before middle c offers

pub kept_lawful : (r : Kept) (p : Needed) (w : Used) → IsLawful (kept_step r p w)
kept_lawful kept_as.Counted p w = tt
kept_lawful kept_as.Stale p w = tt

-- each answer is one, and neither an offer nor an end
pub kept_is : (r : Kept) (p : Needed) (w : Used) → (is_done (kept_step r p w) ≡ false) × (is_answer (kept_step r p w) ≡ true) × (is_offered (kept_step r p w) ≡ false)
kept_is kept_as.Counted p w = (refl, refl, refl)
kept_is kept_as.Stale p w = (refl, refl, refl)

pub cut_lawful : (r : Cut) (bits : List Bool) → (r ≡ cut_as.Foreign → ⊥) → IsLawful (cut_step r bits)
cut_lawful (cut_as.Split n) bits own = tt
cut_lawful cut_as.Already bits own = tt
cut_lawful cut_as.Foreign bits own = own refl

pub cut_is : (r : Cut) (bits : List Bool) → (is_done (cut_step r bits) ≡ false) × (is_answer (cut_step r bits) ≡ true) × (is_offered (cut_step r bits) ≡ false)
cut_is (cut_as.Split n) bits = (refl, refl, refl)
cut_is cut_as.Already bits = (refl, refl, refl)
cut_is cut_as.Foreign bits = (refl, refl, refl)

-- how a run ends where each worker told one end: by the sums, each of them told just one
pub outcome : (pair : Pair) (k workers : ℕ) (opening : State) (board : Running) (t : Totals) (end_parts seat_parts : ℕ) (version : Standing) (entries : List Entry) → IsRun pair k workers board t end_parts seat_parts
    → t.weights + 1 ≡ 2 ^ workers → t.ends ≤ workers
    → IsUnder pair k board.state.classes version → entries ≡ board.entries → Leads pair k opening board.entries board.state
    → IsOutcome pair k workers opening version entries
outcome pair k workers opening board t end_parts seat_parts version entries run weighs few under same leads =
    let is = run.desk in
    let sum : weights workers board.entries + 1 ≡ 2 ^ workers = subst (λ n. n + 1 ≡ 2 ^ workers) is.weights_are weighs in
    let most : ends workers board.entries ≤ workers = subst (λ n. n ≤ workers) is.ends_are few in
    let all : t.ends ≡ workers = omega (arith, is.ends_are, most, least_ends workers (dones board.entries) 0 (omega (arith, sum))) in
    record {
      pair_is = under.0;
      k_is = under.1;
      greatest = subst (AreOfGreatest pair k) (sym under.2) (is.greatest (omega (arith, all, run.some)));
      lawful = subst (AreLawful workers) (sym same) is.lawful;
      leads = (board.state, subst (λ l. Leads pair k opening l board.state) (sym same) leads, sym under.2);
      ended = subst (λ l. (p : ℕ) → p < workers → dones l p ≡ 1) (sym same) (all_ones workers (dones board.entries) sum most);
      answered = rw same (omega (arith, is.answered));
    }
