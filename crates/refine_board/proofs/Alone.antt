-- Entries of a party that works alone to the end.
use Rattle.std.proofs.Common.{◌≡◌, ◌∙◌, ◌<◌, ◌≤◌, ℕ, List, Bool, true, [], ◌∷◌, ◌++◌, length, set, refl, ap, ap₂, sym, subst, arith, ⊎_elim, slice_index_or, Option, None, get_or-set_same}
use Rattle.std.proofs.lemmas.Bool.{cases_lt}
use Rattle.std.proofs.lemmas.List.{append-nil, append_assoc, length-set, get_or_past}
use Rattle.class_partition.specs.declared.classes.Needed.{Needed}
use Rattle.class_partition.specs.Classes.{Classes, least_of, needed, relative}
use Rattle.class_partition.proofs.Partition.{needed_from_relative}
use Rattle.circ_model.specs.Correspondence.{Separates}
use Rattle.refine_board.specs.declared.marks.Mark.{Mark}
use Rattle.refine_board.specs.declared.marks.Mark.TheVariants.{Open, Out, Proved}
use Rattle.refine_board.specs.declared.marks.LastOffer.{LastOffer}
use Rattle.refine_board.specs.declared.journal.Step.{Step}
use Rattle.refine_board.specs.declared.journal.Step.TheVariants.{Offered, Idle, Done, Counted, Stale, Split, Already, Foreign, Back}
use Rattle.refine_board.specs.declared.journal.Entry.{Entry}
use Rattle.refine_board.specs.declared.answers.Cut.{Cut}
use Rattle.refine_board.specs.declared.answers.Cut.TheVariants as cut_as
use Rattle.refine_board.specs.States.{State, IsNeededPair, is_counted, mark_of, offer_of}
use Rattle.refine_board.specs.Schedules.{Does, IsStep}
use Rattle.refine_board.specs.Running.{Running, Appends, next_entry}
use Rattle.refine_board.specs.Answers.{cut_step}
use Rattle.refine_board.specs.Closings.{DecidesPair, IsDecidedNext, IsClosingStep, LeadsAlone, Closes, IsClaimed}
use Rattle.refine_board.proofs.Counting.{not_both}

-- a pair that isn't open or counted is out
pub mark_out : (m : Mark) → (m ≡ Open → ⊥) → (is_counted m ≡ true → ⊥) → m ≡ Out
mark_out Open closed wanted = absurd (closed refl)
mark_out Out closed wanted = refl
mark_out (Proved r w) closed wanted = absurd (wanted refl)

pub same_needed : (classes : Classes) (p q : Needed) → p.member ≡ q.member → least_of classes p.member ≡ p.rep → least_of classes q.member ≡ q.rep → p ≡ q
same_needed classes p q member rep_p rep_q = ap₂ (λ (r m : ℕ). record { rep = r; member = m }) (sym rep_p ∙ ap (least_of classes) member ∙ rep_q) member

-- lists of such entries, one after the other
more_next : (classes : Classes) (p : Needed) (xs ys : List Entry) → IsDecidedNext classes p xs → IsDecidedNext classes p (xs ++ ys)
more_next classes p [] ys is = absurd is
more_next classes p (x ∷ xs) ys is = is

more_step : (places : ℕ) (board : State) (s : Step) (xs ys : List Entry) → IsClosingStep places board s xs → IsClosingStep places board s (xs ++ ys)
more_step places board (Offered p) xs ys is = more_next board.classes p xs ys is
more_step places board (Counted p w) xs ys is = is
more_step places board (Split bits n) xs ys is = is
more_step places board Idle xs ys is = absurd is
more_step places board Done xs ys is = absurd is
more_step places board (Stale p) xs ys is = absurd is
more_step places board (Back p) xs ys is = absurd is
more_step places board Foreign xs ys is = absurd is
more_step places board (Already bits) xs ys is = absurd is

leads_append : (places party : ℕ) (xs ys : List Entry) (a b c : State) → LeadsAlone places party a xs b → LeadsAlone places party b ys c → LeadsAlone places party a (xs ++ ys) c
leads_append places party [] ys a b c same further = subst (λ (s : State). LeadsAlone places party s ys c) same further
leads_append places party (x ∷ xs) ys a b c (own, middle, step, closing, rest) further = (own, middle, step, more_step places a x.step xs ys closing, leads_append places party xs ys middle b c rest further)

pub closes_none : (places party : ℕ) (before after : Running) → after.state ≡ before.state → after.entries ≡ before.entries → Closes places party before after
closes_none places party before after state entries = ([], entries ∙ sym (append-nil before.entries), state)

pub closes_more : (places party : ℕ) (a b c : Running) → Closes places party a b → Closes places party b c → Closes places party a c
closes_more places party a b c (xs, is_xs, leads_xs) (ys, is_ys, leads_ys) =
    (xs ++ ys, is_ys ∙ ap (λ (l : List Entry). l ++ ys) is_xs ∙ append_assoc a.entries xs ys, leads_append places party xs ys a.state b.state c.state leads_xs leads_ys)

-- a decision on a pair that is out
decided : (places : ℕ) (board : State) (p : Needed) (s : Step) → IsNeededPair places board.classes p → mark_of board p.member ≡ Out → DecidesPair board.classes p s → IsClosingStep places board s []
decided places board p (Counted q w) need out is = ap (λ (x : Needed). mark_of board x.member) is ∙ out
decided places board p (Split bits n) need out is = (p, need, out, is)
decided places board p (Offered q) need out is = absurd is
decided places board p Idle need out is = absurd is
decided places board p Done need out is = absurd is
decided places board p (Stale q) need out is = absurd is
decided places board p (Back q) need out is = absurd is
decided places board p Foreign need out is = absurd is
decided places board p (Already bits) need out is = absurd is

-- a pair is claimed, and decided
pub closes_one : (places party : ℕ) (p : Needed) (s : Step) (before middle after : Running) → IsNeededPair places before.state.classes p → IsClaimed places party before middle p → Appends places middle after party s
    → DecidesPair before.state.classes p s → Closes places party before after
closes_one places party p s before middle after need (out, classes, claim) adds is =
    let entry : Entry = next_entry middle.state party s in
    let need_now : IsNeededPair places middle.state.classes p = subst (λ (c : Classes). IsNeededPair places c p) (sym classes) need in
    let is_now : DecidesPair middle.state.classes p s = subst (λ (c : Classes). DecidesPair c p s) (sym classes) is in
    let closing : IsClosingStep places middle.state s [] = decided places middle.state p s need_now out is_now in
    let last : LeadsAlone places party middle.state (entry ∷ []) after.state = (refl, after.state, adds.0, closing, refl) in
    ⊎_elim
    (λ (offer : Appends places before middle party (Offered p)).
    let first : Entry = next_entry before.state party (Offered p) in
    (first ∷ entry ∷ [], adds.1 ∙ ap (λ (l : List Entry). l ++ entry ∷ []) offer.1 ∙ append_assoc before.entries (first ∷ []) (entry ∷ []), (refl, middle.state, offer.0, is, last)))
    (λ (same : (middle.state ≡ before.state) × (middle.entries ≡ before.entries)).
    (entry ∷ [], adds.1 ∙ ap (λ (l : List Entry). l ++ entry ∷ []) same.1, subst (λ (b : State). LeadsAlone places party b (entry ∷ []) after.state) same.0 last))
    claim

-- a row that separates a pair of the classes decides it
pub cut_decides : (places party : ℕ) (p : Needed) (r : Cut) (bits : List Bool) (before after : Running) → Appends places before after party (cut_step r bits) → (r ≡ cut_as.Foreign → ⊥) → IsNeededPair places before.state.classes p
    → Separates bits (needed before.state.classes p.member) → DecidesPair before.state.classes p (cut_step r bits)
cut_decides places party p (cut_as.Split n) bits before after adds own need apart =
    λ (same : relative before.state.classes bits p.rep ≡ relative before.state.classes bits p.member).
    not_both _ _ (needed_from_relative before.state.classes bits p.member (ap (relative before.state.classes bits) need.1 ∙ same)) apart
cut_decides places party p cut_as.Already bits before after adds own need apart = absurd (not_both _ _ (adds.0.2.0 p.member need.0.0) apart)
cut_decides places party p cut_as.Foreign bits before after adds own need apart = absurd (own refl)

-- the party has no offer after its decision
none_at : (offers : List (Option LastOffer)) (party : ℕ) → slice_index_or (set offers party None) party None ≡ None
none_at offers party = ⊎_elim
    (λ (lt : party < length offers). get_or-set_same offers party None None lt)
    (λ (past : length offers ≤ party). get_or_past (set offers party None) party None (omega (arith, past, length-set offers party None)))
    (cases_lt party (length offers))

settled_step : (places party : ℕ) (e : Entry) (rest : List Entry) (before after : State) → e.worker ≡ party → IsStep places e before after → IsClosingStep places before e.step rest → rest ≡ [] → offer_of after party ≡ None
settled_step places party e rest before after own step closing last = of e.step step.2 closing
  where
    of : (s : Step) → Does places e.worker s before after → IsClosingStep places before s rest → offer_of after party ≡ None
    of (Offered p) does closing = absurd (subst (IsDecidedNext before.classes p) last closing)
    of (Counted p w) does closing = ap (λ (b : State). offer_of b party) does.1 ∙ ap (λ (q : ℕ). slice_index_or (set before.offers q None) party None) own ∙ none_at before.offers party
    of (Split bits n) (classes, split, some, count, e_is) closing = ap (λ (b : State). offer_of b party) e_is ∙ ap (λ (q : ℕ). slice_index_or (set before.offers q None) party None) own ∙ none_at before.offers party
    of Idle does closing = absurd closing
    of Done does closing = absurd closing
    of (Stale p) does closing = absurd closing
    of (Back p) does closing = absurd closing
    of Foreign does closing = absurd closing
    of (Already bits) does closing = absurd closing

settled_from : (places party : ℕ) (entries : List Entry) (before after : State) → LeadsAlone places party before entries after → (entries ≡ [] → offer_of before party ≡ None) → offer_of after party ≡ None
settled_from places party [] before after same none = ap (λ (b : State). offer_of b party) same ∙ none refl
settled_from places party (e ∷ rest) before after (own, middle, step, closing, further) none =
    settled_from places party rest middle after further (settled_step places party e rest before middle own step closing)

pub closes_settled : (places party : ℕ) (before after : Running) → Closes places party before after → offer_of before.state party ≡ None → offer_of after.state party ≡ None
closes_settled places party before after (entries, is, leads) none = settled_from places party entries before.state after.state leads (λ _. none)
