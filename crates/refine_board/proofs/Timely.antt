-- Offers of callers that keep the rules are of the board's number and needed, or outdated.
use Rattle.std.proofs.Common.{◌≡◌, ◌==◌, ◌∙◌, ◌<◌, ◌≤◌, ◌⊎◌, ℕ, Bool, true, false, List, [], ◌∷◌, length, set, if◌then◌else◌, refl, ap, sym, subst, arith, inl, inr, ⊎_elim, slice_index_or, Option, Some, None, get_or-set_same, get_or-set_other, length-set}
use Rattle.std.proofs.lemmas.Bool.{cases_lt, cases_eq}
use Rattle.std.proofs.lemmas.List.{set_past}
use Rattle.circ_model.specs.Meaning.{Pair}
use Rattle.class_partition.specs.Classes.{Classes}
use Rattle.class_partition.specs.declared.classes.Needed.{Needed}
use Rattle.refine_board.specs.declared.marks.Mark.TheVariants.{Open, Proved}
use Rattle.refine_board.specs.declared.marks.LastOffer.{LastOffer}
use Rattle.refine_board.specs.declared.journal.Step.{Step}
use Rattle.refine_board.specs.declared.journal.Step.TheVariants.{Offered, Idle, Done, Counted, Stale, Back, Foreign, Already, Split}
use Rattle.refine_board.specs.declared.journal.Entry.{Entry}
use Rattle.refine_board.specs.States.{State, offer_of, IsNeededPair, called, offered, cleared, marked, reopened, released, divided}
use Rattle.refine_board.specs.Schedules.{Does, Leads, LeadsInOrder}

pub leads_from_order : (pair : Pair) (k : ℕ) (entries : List Entry) (before after : State) → LeadsInOrder pair k before entries after → Leads pair k before entries after
leads_from_order pair k [] before after e = e
leads_from_order pair k (entry ∷ rest) before after (middle, step, ok, order, further) = (middle, step, ok, leads_from_order pair k rest middle after further)

-- an offer isn't of a later number; at the board's number its pair is needed
pub record IsTimely (places parties : ℕ) (board : State) : Type 0 where
  pub offers : length board.offers ≡ parties
  pub past : (q : ℕ) (o : LastOffer) → offer_of board q ≡ Some o → o.number ≤ board.number
  pub now : (q : ℕ) (o : LastOffer) → offer_of board q ≡ Some o → o.number ≡ board.number → IsNeededPair places board.classes o.pair

-- what stands after a write
abbrev Wrote : List (Option LastOffer) → ℕ → Option LastOffer → ℕ → LastOffer → Type 0
Wrote offers party x q o = ((q ≡ party) × (x ≡ Some o)) ⊎ (slice_index_or offers q None ≡ Some o)

wrote : (offers : List (Option LastOffer)) (party : ℕ) (x : Option LastOffer) (q : ℕ) (o : LastOffer) → slice_index_or (set offers party x) q None ≡ Some o → Wrote offers party x q o
wrote offers party x q o is = ⊎_elim
    (λ (e : q ≡ party). ⊎_elim
    (λ (lt : party < length offers). inl (e, sym (get_or-set_same offers party x None lt) ∙ ap (λ (i : ℕ). slice_index_or (set offers party x) i None) (sym e) ∙ is))
    (λ (past : length offers ≤ party). inr (ap (λ (l : List (Option LastOffer)). slice_index_or l q None) (sym (set_past offers party x past)) ∙ is))
    (cases_lt party (length offers)))
    (λ (ne : q ≡ party → ⊥). inr (sym (get_or-set_other offers party q x None ne) ∙ is))
    (cases_eq q party)

-- an offer that stands after a party's was cleared stood before
pub kept_offer : (offers : List (Option LastOffer)) (party q : ℕ) (o : LastOffer) → slice_index_or (set offers party None) q None ≡ Some o → slice_index_or offers q None ≡ Some o
kept_offer offers party q o is = ⊎_elim (λ (h : (q ≡ party) × (None ≡ Some o)). let bad : None ≡ Some o = h.1 in cc) (λ (h : slice_index_or offers q None ≡ Some o). h) (wrote offers party None q o is)

pub same_offers : (offer : Option LastOffer) (board : State) → ((reopened offer board).offers ≡ board.offers) × ((reopened offer board).number ≡ board.number) × ((reopened offer board).classes ≡ board.classes)
same_offers None board = (refl, refl, refl)
same_offers (Some offer) board = at (offer.number == board.number)
  where
    at : (b : Bool) → ((if b then marked offer.pair.member Open board else board).offers ≡ board.offers) × ((if b then marked offer.pair.member Open board else board).number ≡ board.number) × ((if b then marked offer.pair.member Open board else board).classes ≡ board.classes)
    at true = (refl, refl, refl)
    at false = (refl, refl, refl)

timely_clear : (places parties party : ℕ) (board : State) → IsTimely places parties board → IsTimely places parties (cleared party board)
timely_clear places parties party board is = record {
  offers = length-set board.offers party None ∙ is.offers;
  past = λ q o at. is.past q o (kept_offer board.offers party q o at);
  now = λ q o at same. is.now q o (kept_offer board.offers party q o at) same;
}

timely_reopen : (places parties : ℕ) (offer : Option LastOffer) (board : State) → IsTimely places parties board → IsTimely places parties (reopened offer board)
timely_reopen places parties None board is = is
timely_reopen places parties (Some offer) board is = at (offer.number == board.number)
  where
    at : (b : Bool) → IsTimely places parties (if b then marked offer.pair.member Open board else board)
    at true = record { offers = is.offers; past = is.past; now = is.now }
    at false = is

timely_offer : (places parties party : ℕ) (p : Needed) (board : State) → IsNeededPair places board.classes p → IsTimely places parties board → IsTimely places parties (offered party p board)
timely_offer places parties party p board need is =
    let new : LastOffer = record { pair = p; number = board.number } in
    record {
      offers = length-set board.offers party (Some new) ∙ is.offers;
      past = λ q o at. ⊎_elim (λ (h : (q ≡ party) × (Some new ≡ Some o)). let e : new ≡ o = cc in let n : board.number ≡ o.number = ap (λ (x : LastOffer). x.number) e in omega arith) (λ (h : slice_index_or board.offers q None ≡ Some o). is.past q o h) (wrote board.offers party (Some new) q o at);
      now = λ q o at same. ⊎_elim (λ (h : (q ≡ party) × (Some new ≡ Some o)). let e : new ≡ o = cc in subst (λ (x : LastOffer). IsNeededPair places board.classes x.pair) e need) (λ (h : slice_index_or board.offers q None ≡ Some o). is.now q o h same) (wrote board.offers party (Some new) q o at);
    }

timely_split : (places parties : ℕ) (classes : Classes) (board : State) → IsTimely places parties board → IsTimely places parties (divided classes board)
timely_split places parties classes board is = record {
  offers = is.offers;
  past = λ q o at. let h = is.past q o at in omega arith;
  now = λ q o at same. let h = is.past q o at in absurd (omega arith);
}

timely_called : (places parties party : ℕ) (board : State) → IsTimely places parties board → IsTimely places parties (called party board)
timely_called places parties party board is = record { offers = is.offers; past = is.past; now = is.now }

timely_release : (places parties party : ℕ) (board : State) → IsTimely places parties board → IsTimely places parties (called party (released party board))
timely_release places parties party board is = timely_called places parties party (released party board) (timely_clear places parties party (reopened (offer_of board party) board) (timely_reopen places parties (offer_of board party) board is))

pub timely_after : (places parties party : ℕ) (event : Step) (before after : State) → Does places party event before after → IsTimely places parties before → IsTimely places parties after
timely_after places parties party (Offered p) before after does is = subst (IsTimely places parties) (sym does.1) (timely_called places parties party (offered party p before) (timely_offer places parties party p before does.0.0 is))
timely_after places parties party Idle before after does is = subst (IsTimely places parties) (sym does.2) (timely_called places parties party before is)
timely_after places parties party Done before after does is = subst (IsTimely places parties) (sym does.1) (timely_called places parties party before is)
timely_after places parties party (Counted p w) before after does is = subst (IsTimely places parties) (sym does.1) (timely_called places parties party (cleared party (marked p.member (Proved p.rep w) before)) (timely_clear places parties party (marked p.member (Proved p.rep w) before) (record { offers = is.offers; past = is.past; now = is.now })))
timely_after places parties party (Stale p) before after does is = subst (IsTimely places parties) (sym does) (timely_release places parties party before is)
timely_after places parties party (Back p) before after does is = subst (IsTimely places parties) (sym does) (timely_release places parties party before is)
timely_after places parties party Foreign before after does is = subst (IsTimely places parties) (sym does) (timely_release places parties party before is)
timely_after places parties party (Already bits) before after does is = subst (IsTimely places parties) (sym does.1) (timely_release places parties party before is)
timely_after places parties party (Split bits n) before after (classes, split, some, count, e) is = subst (IsTimely places parties) (sym e) (timely_called places parties party (cleared party (divided classes before)) (timely_clear places parties party (divided classes before) (timely_split places parties classes before is)))
