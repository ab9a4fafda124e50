-- One entry more keeps a running board running.
use Rattle.std.proofs.Common.{◌≡◌, ◌==◌, ◌∙◌, ◌<◌, ◌≤◌, ℕ, ◌+◌, ◌-◌, Bool, true, false, List, [], zero, suc, replicate, ◌∷◌, ◌++◌, length, set, if◌then◌else◌, refl, ap, sym, subst, arith, ⊎_elim, slice_index, slice_index_or, Option, Some, None, length-append}
use Rattle.std.proofs.lemmas.Bool.{cases_lt, cases_eq}
use Rattle.std.proofs.lemmas.List.{length-replicate, set_past, length-set, get_or-set_same, get_or-set_other}
use Rattle.circ_model.specs.Meaning.{Pair, places_of}
use Rattle.class_partition.specs.Classes.{Classes, ArePartition, KeepsGreatest}
use Rattle.refine_board.proofs.Supported.{after_event, opening_supported}
use Rattle.class_partition.specs.declared.classes.Needed.{Needed}
use Rattle.refine_board.specs.declared.marks.Mark.TheVariants.{Open}
use Rattle.refine_board.specs.declared.marks.LastOffer.{LastOffer}
use Rattle.refine_board.specs.declared.journal.Step.{Step}
use Rattle.refine_board.specs.declared.journal.Step.TheVariants.{Offered, Idle, Done, Counted, Stale, Back, Foreign, Already, Split}
use Rattle.refine_board.specs.declared.journal.Entry.{Entry}
use Rattle.refine_board.specs.States.{State, offer_of, called, offered, cleared, marked, reopened, released}
use Rattle.refine_board.specs.Schedules.{opened, Does, IsStep, IsAllowed, Leads}
use Rattle.refine_board.specs.Running.{IsRunning, IsHeld, IsPassedBy, next_entry, reopened_marks, Frees}

-- another value was written, so what is there was there
pub was_there : {A : Type 0} (xs : List A) (i j : ℕ) (x d y : A) → (x ≡ y → ⊥) → slice_index_or (set xs i x) j d ≡ y → slice_index_or xs j d ≡ y
was_there xs i j x d y other is = ⊎_elim
    (λ (e : j ≡ i). ⊎_elim
    (λ (lt : i < length xs). absurd (other (sym (get_or-set_same xs i x d lt) ∙ ap (λ (n : ℕ). slice_index_or (set xs i x) n d) (sym e) ∙ is)))
    (λ (past : length xs ≤ i). ap (λ l. slice_index_or l j d) (sym (set_past xs i x past)) ∙ is)
    (cases_lt i (length xs)))
    (λ (ne : j ≡ i → ⊥). sym (get_or-set_other xs i j x d ne) ∙ is)
    (cases_eq j i)

pub leads_more : (pair : Pair) (k : ℕ) (entries : List Entry) (entry : Entry) (a b c : State) → Leads pair k a entries b → IsStep (places_of pair) entry b c → IsAllowed pair k b entry.step → Leads pair k a (entries ++ entry ∷ []) c
leads_more pair k [] entry a b c e step ok = (c, subst (λ (x : State). IsStep (places_of pair) entry x c) e step, subst (λ (x : State). IsAllowed pair k x entry.step) e ok, refl)
leads_more pair k (x ∷ xs) entry a b c (middle, first, fine, further) step ok = (middle, first, fine, leads_more pair k xs entry middle b c further step ok)

-- what every entry keeps
record Keeps (places party : ℕ) (before after : State) : Type 0 where
  pub calls : after.calls ≡ set before.calls party (slice_index before.calls party + 1)
  pub offers : length after.offers ≡ length before.offers
  pub within : ((q : ℕ) (o : LastOffer) → offer_of before q ≡ Some o → o.pair.member < places) → (q : ℕ) (o : LastOffer) → offer_of after q ≡ Some o → o.pair.member < places

none_is : (o : LastOffer) → None ≡ Some o → ⊥
none_is o e = cc

keeps_released : (places party : ℕ) (board : State) → Keeps places party board (called party (released party board))
keeps_released places party board = of (offer_of board party)
  where
    at : (offer : LastOffer) (b : Bool) → Keeps places party board (called party (cleared party (if b then marked offer.pair.member Open board else board)))
    at offer true = record { calls = refl; offers = length-set board.offers party None; within = λ h q o e. h q o (was_there board.offers party q None None (Some o) (none_is o) e) }
    at offer false = record { calls = refl; offers = length-set board.offers party None; within = λ h q o e. h q o (was_there board.offers party q None None (Some o) (none_is o) e) }

    of : (offer : Option LastOffer) → Keeps places party board (called party (cleared party (reopened offer board)))
    of None = record { calls = refl; offers = length-set board.offers party None; within = λ h q o e. h q o (was_there board.offers party q None None (Some o) (none_is o) e) }
    of (Some offer) = at offer (offer.number == board.number)

within_offered : (places party : ℕ) (p : Needed) (board : State) → p.member < places → ((q : ℕ) (o : LastOffer) → offer_of board q ≡ Some o → o.pair.member < places)
    → (q : ℕ) (o : LastOffer) → offer_of (offered party p board) q ≡ Some o → o.pair.member < places
within_offered places party p board lt h q o e =
    let new : LastOffer = record { pair = p; number = board.number } in
    ⊎_elim
    (λ (at : q ≡ party). ⊎_elim
    (λ (in_range : party < length board.offers).
    let is : Some new ≡ Some o = sym (get_or-set_same board.offers party (Some new) None in_range) ∙ ap (λ (n : ℕ). slice_index_or (set board.offers party (Some new)) n None) (sym at) ∙ e in
    let same : new ≡ o = cc in
    subst (λ (x : LastOffer). x.pair.member < places) same lt)
    (λ (past : length board.offers ≤ party). h q o (ap (λ (l : List (Option LastOffer)). slice_index_or l q None) (sym (set_past board.offers party (Some new) past)) ∙ e))
    (cases_lt party (length board.offers)))
    (λ (ne : q ≡ party → ⊥). h q o (sym (get_or-set_other board.offers party q (Some new) None ne) ∙ e))
    (cases_eq q party)

keeps : (places party : ℕ) (event : Step) (before after : State) → Does places party event before after → Keeps places party before after
keeps places party (Offered p) before after does =
    subst (Keeps places party before) (sym does.1) (record { calls = refl; offers = length-set before.offers party (Some (record { pair = p; number = before.number })); within = within_offered places party p before does.0.0.0.0 })
keeps places party Idle before after does = subst (Keeps places party before) (sym does.2) (record { calls = refl; offers = refl; within = λ h. h })
keeps places party Done before after does = subst (Keeps places party before) (sym does.1) (record { calls = refl; offers = refl; within = λ h. h })
keeps places party (Counted p w) before after does =
    subst (Keeps places party before) (sym does.1) (record { calls = refl; offers = length-set before.offers party None; within = λ h q o e. h q o (was_there before.offers party q None None (Some o) (none_is o) e) })
keeps places party (Stale p) before after does = subst (Keeps places party before) (sym does) (keeps_released places party before)
keeps places party (Back p) before after does = subst (Keeps places party before) (sym does) (keeps_released places party before)
keeps places party Foreign before after does = subst (Keeps places party before) (sym does) (keeps_released places party before)
keeps places party (Already bits) before after does = subst (Keeps places party before) (sym does.1) (keeps_released places party before)
keeps places party (Split bits n) before after (classes, split, some, count, e) =
    subst (Keeps places party before) (sym e) (record { calls = refl; offers = length-set before.offers party None; within = λ h q o e. h q o (was_there before.offers party q None None (Some o) (none_is o) e) })

few_after : (calls : List ℕ) (party n : ℕ) → ((q : ℕ) → slice_index calls q ≤ n) → (q : ℕ) → slice_index (set calls party (slice_index calls party + 1)) q ≤ n + 1
few_after calls party n h q = ⊎_elim
    (λ (e : q ≡ party). ⊎_elim
    (λ (lt : party < length calls). let is = get_or-set_same calls party (slice_index calls party + 1) 0 lt in let low = h party in rw e (omega arith))
    (λ (past : length calls ≤ party). let low = h q in rw (set_past calls party (slice_index calls party + 1) past) (omega arith))
    (cases_lt party (length calls)))
    (λ (ne : q ≡ party → ⊥). let is = get_or-set_other calls party q (slice_index calls party + 1) 0 ne in let low = h q in omega arith)
    (cases_eq q party)

-- one entry more
pub running_after : (pair : Pair) (k workers : ℕ) (opening before after : State) (entries : List Entry) (party : ℕ) (event : Step) → IsStep (places_of pair) (next_entry before party event) before after → IsAllowed pair k before event
    → IsRunning pair k workers opening before entries → IsRunning pair k workers opening after (entries ++ next_entry before party event ∷ [])
running_after pair k workers opening before after entries party event step ok is =
    let kept = keeps (places_of pair) party event before after step.2 in
    record {
      leads = leads_more pair k entries (next_entry before party event) opening before after is.leads step ok;
      supported = after_event pair k party event before after step.2 ok is.supported;
      calls = ap length kept.calls ∙ length-set before.calls party (slice_index before.calls party + 1) ∙ is.calls;
      offers = kept.offers ∙ is.offers;
      few = λ q. rw (kept.calls, length-append entries (next_entry before party event ∷ [])) (few_after before.calls party (length entries) is.few q);
      within = kept.within is.within;
    }

-- what is left of the marks when an offer is given up
pub released_is : (party : ℕ) (board : State) → released party board ≡ record board { marks = reopened_marks (offer_of board party) board.number board.marks; offers = set board.offers party None }
released_is party board = of (offer_of board party)
  where
    at : (o : LastOffer) (b : Bool) → cleared party (if b then marked o.pair.member Open board else board) ≡ record board { marks = if b then set board.marks o.pair.member Open else board.marks; offers = set board.offers party None }
    at o true = refl
    at o false = refl

    of : (offer : Option LastOffer) → cleared party (reopened offer board) ≡ record board { marks = reopened_marks offer board.number board.marks; offers = set board.offers party None }
    of None = refl
    of (Some o) = at o (o.number == board.number)

pub frees_does : (pair : Pair) (k party : ℕ) (event : Step) (before after : State) → Frees pair k before event → after ≡ called party (released party before) → Does (places_of pair) party event before after × IsAllowed pair k before event
frees_does pair k party (Stale p) before after frees e = (e, tt)
frees_does pair k party (Back p) before after frees e = (e, tt)
frees_does pair k party Foreign before after frees e = (e, tt)
frees_does pair k party (Already bits) before after frees e = ((frees.0, e), frees.1)
frees_does pair k party (Offered p) before after frees e = absurd frees
frees_does pair k party Idle before after frees e = absurd frees
frees_does pair k party Done before after frees e = absurd frees
frees_does pair k party (Counted p w) before after frees e = absurd frees
frees_does pair k party (Split bits n) before after frees e = absurd frees

zeros : (n q : ℕ) → slice_index (replicate n 0) q ≡ 0
zeros zero q = refl
zeros (suc n) zero = refl
zeros (suc n) (suc q) = zeros n q

no_offer : (n q : ℕ) → slice_index_or (replicate {A = Option LastOffer} n None) q None ≡ None
no_offer zero q = refl
no_offer (suc n) zero = refl
no_offer (suc n) (suc q) = no_offer n q

-- a board at its opening
pub running_opened : (pair : Pair) (k workers number : ℕ) (classes : Classes) (opening : State) → opening ≡ opened pair workers classes number → ArePartition (places_of pair) classes → KeepsGreatest pair k classes
    → IsRunning pair k workers opening (opened pair workers classes number) []
running_opened pair k workers number classes opening e is keeps = record {
  leads = sym e;
  supported = opening_supported pair k workers number classes is keeps;
  calls = length-replicate (workers + 1) 0;
  offers = length-replicate (workers + 1) None;
  few = λ q. let z = zeros (workers + 1) q in omega arith;
  within = λ q o at. absurd (none_is o (sym (no_offer (workers + 1) q) ∙ at));
}

-- an entry was written into its room
pub held_after : (places cursor to waiting owed room left parts rest : ℕ) (before after : State) → IsHeld places before cursor waiting owed room parts rest
    → left + 1 ≡ room → 1 ≤ room - owed → IsPassedBy places after to → to ≤ places → IsHeld places after to waiting owed left parts rest
held_after places cursor to waiting owed room left parts rest before after held wrote some passed within = record {
  passed = passed;
  cursor_in = within;
  waiting_is = held.waiting_is;
  has_room = omega arith;
  parts_left = held.parts_left;
  many = held.many;
}
