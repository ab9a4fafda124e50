-- Every legal list of entries keeps the board supported, and where Done fits the classes are exact.
use Rattle.std.proofs.Common.{◌≡◌, ◌↔◌, ◌==◌, ◌&&◌, ◌⊎◌, ◌∙◌, ◌<◌, ◌≤◌, ℕ, zero, suc, Bool, true, false, true≢false, List, [], ◌∷◌, length, set, replicate, if◌then◌else◌, refl, ap, sym, subst, arith, inl, inr, ⊎_elim, slice_index_or, Option, Some, None, length-set, get_or-set_same, get_or-set_other}
use Rattle.std.proofs.lemmas.Bool.{cases_lt, cases_eq, and_from, eq-eqb}
use Rattle.std.proofs.lemmas.List.{set_past, length-replicate}
use Rattle.circ_model.specs.Meaning.{Pair, bit, signed, row_at, literal, places_of}
use Rattle.circ_model.specs.Correspondence.{HoldsIn, MaySplit}
use Rattle.class_partition.specs.declared.classes.Needed.{Needed}
use Rattle.class_partition.specs.Classes.{Classes, least_of, phase_of, ArePartition, IsNeeded, needed, HoldIn, IsSplit, KeepsGreatest, Passes, AreOfGreatest}
use Rattle.refine_board.proofs.Lasting.{rests_passes, rests_still, listed_still, same_least, was_needed, StaysCounted, StaysCounted.StaysKnown, StaysCounted.StaysListed, stays_counted, length_lasting, lasting_at}
use Rattle.used_pairs.specs.Lists.{all_together}
use Rattle.verdict_stamp.specs.declared.used.Used.{Used}
use Rattle.verdict_stamp.specs.declared.used.Used.TheVariants as used
use Rattle.refine_board.specs.declared.marks.Mark.{Mark}
use Rattle.refine_board.specs.declared.marks.Mark.TheVariants.{Open, Out, Proved}
use Rattle.refine_board.specs.declared.marks.LastOffer.{LastOffer}
use Rattle.refine_board.specs.declared.journal.Step.{Step}
use Rattle.refine_board.specs.declared.journal.Step.TheVariants.{Offered, Idle, Done, Counted, Stale, Back, Foreign, Already, Split}
use Rattle.refine_board.specs.declared.journal.Entry.{Entry}
use Rattle.refine_board.specs.States.{State, IsCountedAt, IsKnownAt, IsListedAt, IsNeededPair, mark_of, lasting, is_counted, offer_of, AllCounted, called, offered, cleared, marked, reopened, released, divided}
use Rattle.refine_board.specs.Schedules.{Does, IsAllowed, RestsOn, Leads, opened, IsSupported}
use Rattle.circ_model.proofs.Greatest.{may_split_agrees}
use Rattle.class_partition.proofs.Partition.{split_keeps, exact, needed_from_relative}
use Rattle.class_partition.proofs.SameClasses.{pairs_of_places}
use Rattle.circ_model.proofs.Literals.{half_literal}

-- a mark that isn't counted was written, so what is counted was
still_kept : (marks : List Mark) (m p : ℕ) (x : Mark) (r : ℕ) (w : Used) → is_counted x ≡ false → slice_index_or (set marks m x) p Open ≡ Proved r w → slice_index_or marks p Open ≡ Proved r w
still_kept marks m p x r w other is = ⊎_elim
    (λ (e : p ≡ m). ⊎_elim
    (λ (lt : m < length marks). absurd (true≢false (sym (ap is_counted (sym (get_or-set_same marks m x Open lt) ∙ ap (λ (i : ℕ). slice_index_or (set marks m x) i Open) (sym e) ∙ is)) ∙ other)))
    (λ (past : length marks ≤ m). ap (λ (l : List Mark). slice_index_or l p Open) (sym (set_past marks m x past)) ∙ is)
    (cases_lt m (length marks)))
    (λ (ne : p ≡ m → ⊥). sym (get_or-set_other marks m p x Open ne) ∙ is)
    (cases_eq p m)

-- what a counted mark rests on
pub used_of : (m : Mark) → is_counted m ≡ true → (r : ℕ) × (w : Used) × (m ≡ Proved r w)
used_of Open e = cc
used_of Out e = cc
used_of (Proved r w) e = (r, w, refl)

-- where all counted pairs rest on something, they pass
supported : (pair : Pair) (k : ℕ) (board : State) → ArePartition (places_of pair) board.classes → KeepsGreatest pair k board.classes → length board.marks ≡ places_of pair
    → ((p r : ℕ) (w : Used) → IsNeeded (places_of pair) board.classes p → mark_of board p ≡ Proved r w → (least_of board.classes p ≡ r) × RestsOn pair k board.classes p w) → IsSupported pair k board
supported pair k board partition keeps marks rests = record {
  partition = partition;
  keeps = keeps;
  marks = marks;
  counted = λ p need is. let w = used_of (mark_of board p) is in rests_passes pair k board.classes p w.1 partition keeps (rests p w.0 w.1 need w.2).1;
  rests = rests;
}

none_kept : (n p : ℕ) → slice_index_or (replicate n Open) p Open ≡ Open
none_kept zero p = refl
none_kept (suc n) zero = refl
none_kept (suc n) (suc p) = none_kept n p

-- a party's call changes neither classes nor marks
after_call : (pair : Pair) (k party : ℕ) (board : State) → IsSupported pair k board → IsSupported pair k (called party board)
after_call pair k party board is = record { partition = is.partition; keeps = is.keeps; marks = is.marks; counted = is.counted; rests = is.rests }

after_clear : (pair : Pair) (k party : ℕ) (board : State) → IsSupported pair k board → IsSupported pair k (cleared party board)
after_clear pair k party board is = record { partition = is.partition; keeps = is.keeps; marks = is.marks; counted = is.counted; rests = is.rests }

after_mark : (pair : Pair) (k p : ℕ) (mark : Mark) (board : State) → is_counted mark ≡ false → IsSupported pair k board → IsSupported pair k (marked p mark board)
after_mark pair k p mark board other is = supported pair k (marked p mark board) is.partition is.keeps (length-set board.marks p mark ∙ is.marks) (λ q r w need kept. is.rests q r w need (still_kept board.marks p q mark r w other kept))

after_reopen : (pair : Pair) (k : ℕ) (offer : Option LastOffer) (board : State) → IsSupported pair k board → IsSupported pair k (reopened offer board)
after_reopen pair k None board is = is
after_reopen pair k (Some offer) board is = at (offer.number == board.number)
  where
    at : (b : Bool) → IsSupported pair k (if b then marked offer.pair.member Open board else board)
    at true = after_mark pair k offer.pair.member Open board refl is
    at false = is

after_release : (pair : Pair) (k party : ℕ) (board : State) → IsSupported pair k board → IsSupported pair k (released party board)
after_release pair k party board is = after_clear pair k party (reopened (offer_of board party) board) (after_reopen pair k (offer_of board party) board is)

after_count : (pair : Pair) (k p r : ℕ) (w : Used) (board : State) → least_of board.classes p ≡ r → RestsOn pair k board.classes p w → IsSupported pair k board → IsSupported pair k (marked p (Proved r w) board)
after_count pair k p r w board rep rests is = supported pair k (marked p (Proved r w) board) is.partition is.keeps (length-set board.marks p (Proved r w) ∙ is.marks) (λ q s v need kept. ⊎_elim
    (λ (e : q ≡ p). ⊎_elim
    (λ (lt : p < length board.marks).
    let now : Proved r w ≡ Proved s v = sym (get_or-set_same board.marks p (Proved r w) Open lt) ∙ ap (λ (i : ℕ). slice_index_or (set board.marks p (Proved r w)) i Open) (sym e) ∙ kept in
    let same_rep : r ≡ s = cc in
    let same : w ≡ v = cc in
    (ap (least_of board.classes) e ∙ rep ∙ same_rep, subst (RestsOn pair k board.classes q) same (subst (λ (i : ℕ). RestsOn pair k board.classes i w) (sym e) rests)))
    (λ (past : length board.marks ≤ p). is.rests q s v need (ap (λ (l : List Mark). slice_index_or l q Open) (sym (set_past board.marks p (Proved r w) past)) ∙ kept))
    (cases_lt p (length board.marks)))
    (λ (ne : q ≡ p → ⊥). is.rests q s v need (sym (get_or-set_other board.marks p q (Proved r w) Open ne) ∙ kept))
    (cases_eq q p))

-- a pair that stays counted rests on what it rested on
rests_after : (pair : Pair) (k : ℕ) (bits : List Bool) (classes : Classes) (board : State) → IsSplit (places_of pair) board.classes bits classes → KeepsGreatest pair k classes → IsSupported pair k board
    → (q r : ℕ) (w : Used) → IsNeeded (places_of pair) classes q → StaysCounted classes q (mark_of board q) r w → (least_of classes q ≡ r) × RestsOn pair k classes q w
rests_after pair k bits classes board split keeps is q r w need (StaysKnown j was rests) =
    let before = is.rests q r (used.Known j) (was_needed (places_of pair) board.classes bits classes is.partition split q need) was in
    let known : RestsOn pair k board.classes q (used.Known j) = before.1 in (
      same_least pair j k board.classes bits classes known.1 is.partition split keeps q need.0 known.2 ∙ before.0,
      subst (RestsOn pair k classes q) (sym rests) (rests_still pair k board.classes bits classes is.partition split keeps q j need.0 known),
    )
rests_after pair k bits classes board split keeps is q r w need (StaysListed pairs was rests rep together) =
    let before = is.rests q r (used.Pairs pairs) (was_needed (places_of pair) board.classes bits classes is.partition split q need) was in
    (rep, subst (RestsOn pair k classes q) (sym rests) (listed_still pair k board.classes bits classes q pairs split (rep ∙ sym before.0) together before.1))

after_split : (pair : Pair) (k : ℕ) (bits : List Bool) (classes : Classes) (board : State) → MaySplit pair k bits → IsSplit (places_of pair) board.classes bits classes → IsSupported pair k board → IsSupported pair k (divided classes board)
after_split pair k bits classes board allowed split is =
    let keeps : KeepsGreatest pair k classes = split_keeps pair k board.classes bits classes (may_split_agrees pair k bits allowed) is.keeps split in
    supported pair k (divided classes board) split.partition keeps (length_lasting classes board.marks ∙ is.marks)
    (λ q r w need kept. rests_after pair k bits classes board split keeps is q r w need (stays_counted classes q (mark_of board q) r w (sym (lasting_at classes board.marks q) ∙ kept)))

-- what a pair that stays counted is: known, or standing with all on which it rests
abbrev Lasts : Pair → State → Classes → Needed → Type 0
Lasts pair board classes p = IsKnownAt board p.member ⊎ (IsNeededPair (places_of pair) classes p × IsListedAt board classes p.member)

-- a pair that is needed and counted after a split was needed before it, and lasts
lasting_before : (pair : Pair) (k : ℕ) (bits : List Bool) (classes : Classes) (board : State) → IsSupported pair k board → IsSplit (places_of pair) board.classes bits classes → KeepsGreatest pair k classes
    → (p : Needed) → IsNeededPair (places_of pair) classes p → IsCountedAt (divided classes board) p.member → IsNeededPair (places_of pair) board.classes p × Lasts pair board classes p
lasting_before pair k bits classes board is split keeps p need counted =
    let m : ℕ = p.member in
    let counted_as = used_of (lasting classes m (mark_of board m)) (ap is_counted (sym (lasting_at classes board.marks m)) ∙ counted) in
    let needed_before : IsNeeded (places_of pair) board.classes m = was_needed (places_of pair) board.classes bits classes is.partition split m need.0 in
    of (stays_counted classes m (mark_of board m) counted_as.0 counted_as.1 counted_as.2) needed_before
  where
    of : {r : ℕ} {w : Used} → StaysCounted classes p.member (mark_of board p.member) r w → IsNeeded (places_of pair) board.classes p.member → IsNeededPair (places_of pair) board.classes p × Lasts pair board classes p
    of {r} (StaysKnown j was rests) before =
        let known : RestsOn pair k board.classes p.member (used.Known j) = (is.rests p.member r (used.Known j) before was).1 in
        ((before, sym (same_least pair j k board.classes bits classes known.1 is.partition split keeps p.member before.0 known.2) ∙ need.1), inl (r, j, was))
    of {r} (StaysListed pairs was rests rep together) before =
        ((before, (is.rests p.member r (used.Pairs pairs) before was).0 ∙ sym rep ∙ need.1), inr (need, (r, pairs, was, together)))

-- and one that was needed and lasts is so after it
known_after : (pair : Pair) (k : ℕ) (bits : List Bool) (classes : Classes) (board : State) → IsSupported pair k board → IsSplit (places_of pair) board.classes bits classes → KeepsGreatest pair k classes
    → (p : Needed) → IsNeededPair (places_of pair) board.classes p → IsKnownAt board p.member → IsNeededPair (places_of pair) classes p × IsCountedAt (divided classes board) p.member
known_after pair k bits classes board is split keeps p need (r, j, was) =
    let m : ℕ = p.member in
    let known : RestsOn pair k board.classes m (used.Known j) = (is.rests m r (used.Known j) need.0 was).1 in
    let same : least_of classes m ≡ least_of board.classes m = same_least pair j k board.classes bits classes known.1 is.partition split keeps m need.0.0 known.2 in
    (((need.0.0, λ (e : least_of classes m ≡ m). need.0.1 (sym same ∙ e)), same ∙ need.1), ap is_counted (lasting_at classes board.marks m ∙ ap (lasting classes m) was))

listed_after : (pair : Pair) (k : ℕ) (bits : List Bool) (classes : Classes) (board : State) → IsSupported pair k board → (p : Needed) → IsNeededPair (places_of pair) board.classes p → IsNeededPair (places_of pair) classes p → IsListedAt board classes p.member
    → IsCountedAt (divided classes board) p.member
listed_after pair k bits classes board is p need now (r, pairs, was, together) =
    let m : ℕ = p.member in
    let rep : least_of classes m ≡ r = now.1 ∙ sym need.1 ∙ (is.rests m r (used.Pairs pairs) need.0 was).0 in
    let stays : ((least_of classes m == r) && all_together classes pairs) ≡ true = and_from (least_of classes m == r) (all_together classes pairs) (eq-eqb (least_of classes m) r rep) together in
    ap is_counted (lasting_at classes board.marks m ∙ ap (lasting classes m) was ∙ ap (λ (b : Bool). if b then Proved r (used.Pairs pairs) else Open) stays)

-- after a split a needed pair is counted exactly where it was needed before it and lasts
pub lasting_stay : (pair : Pair) (k party n : ℕ) (bits : List Bool) (before after : State) → IsSupported pair k before → Does (places_of pair) party (Split bits n) before after → IsAllowed pair k before (Split bits n)
    → (p : Needed) → (IsNeededPair (places_of pair) after.classes p × IsCountedAt after p.member) ↔ (IsNeededPair (places_of pair) before.classes p × Lasts pair before after.classes p)
lasting_stay pair k party n bits before after is (classes, split, some, count, e) ok p =
    let keeps : KeepsGreatest pair k classes = split_keeps pair k before.classes bits classes (may_split_agrees pair k bits ok) is.keeps split in
    subst (λ (b : State). (IsNeededPair (places_of pair) b.classes p × IsCountedAt b p.member) ↔ (IsNeededPair (places_of pair) before.classes p × Lasts pair before b.classes p)) (sym e) (
      λ now. lasting_before pair k bits classes before is split keeps p now.0 now.1,
      λ was. ⊎_elim
          (λ (known : IsKnownAt before p.member). known_after pair k bits classes before is split keeps p was.0 known)
          (λ (listed : IsNeededPair (places_of pair) classes p × IsListedAt before classes p.member). (listed.0, listed_after pair k bits classes before is p was.0 listed.0 listed.1))
          was.1,
    )

pub after_event : (pair : Pair) (k party : ℕ) (event : Step) (before after : State) → Does (places_of pair) party event before after → IsAllowed pair k before event → IsSupported pair k before → IsSupported pair k after
after_event pair k party (Offered p) before after does ok is = subst (IsSupported pair k) (sym does.1) (after_call pair k party (offered party p before) (let m = after_mark pair k p.member Out before refl is in record { partition = m.partition; keeps = m.keeps; marks = m.marks; counted = m.counted; rests = m.rests }))
after_event pair k party Idle before after does ok is = subst (IsSupported pair k) (sym does.2) (after_call pair k party before is)
after_event pair k party Done before after does ok is = subst (IsSupported pair k) (sym does.1) (after_call pair k party before is)
after_event pair k party (Counted p w) before after does ok is =
    subst (IsSupported pair k) (sym does.1) (after_call pair k party (cleared party (marked p.member (Proved p.rep w) before)) (after_clear pair k party (marked p.member (Proved p.rep w) before) (after_count pair k p.member p.rep w before does.0.1 ok is)))
after_event pair k party (Stale p) before after does ok is = subst (IsSupported pair k) (sym does) (after_call pair k party (released party before) (after_release pair k party before is))
after_event pair k party (Back p) before after does ok is = subst (IsSupported pair k) (sym does) (after_call pair k party (released party before) (after_release pair k party before is))
after_event pair k party Foreign before after does ok is = subst (IsSupported pair k) (sym does) (after_call pair k party (released party before) (after_release pair k party before is))
after_event pair k party (Already bits) before after does ok is = subst (IsSupported pair k) (sym does.1) (after_call pair k party (released party before) (after_release pair k party before is))
after_event pair k party (Split bits n) before after (classes, split, some, count, e) ok is =
    subst (IsSupported pair k) (sym e) (after_call pair k party (cleared party (divided classes before)) (after_clear pair k party (divided classes before) (after_split pair k bits classes before ok split is)))

-- at every moment of a legal list
pub always_supported : (pair : Pair) (k : ℕ) (entries : List Entry) (before after : State) → Leads pair k before entries after → IsSupported pair k before → IsSupported pair k after
always_supported pair k [] before after e is = subst (IsSupported pair k) (sym e) is
always_supported pair k (entry ∷ rest) before after (middle, step, ok, further) is = always_supported pair k rest middle after further (after_event pair k entry.worker entry.step before middle step.2 ok is)

pub opening_supported : (pair : Pair) (k workers number : ℕ) (classes : Classes) → ArePartition (places_of pair) classes → KeepsGreatest pair k classes → IsSupported pair k (opened pair workers classes number)
opening_supported pair k workers number classes is keeps = supported pair k (opened pair workers classes number) is keeps (length-replicate (places_of pair) Open) (λ q r w need kept. let at_open : Open ≡ Proved r w = sym (none_kept (places_of pair) q) ∙ kept in cc)

-- a least place passes with itself
trivial : (classes : Classes) (bits : List Bool) (p : ℕ) → least_of classes p ≡ p → HoldsIn bits (needed classes p)
trivial classes bits p e = needed_from_relative classes bits p (ap (λ (q : ℕ). signed (phase_of classes q) (bit bits q)) e)

pub least_passes : (pair : Pair) (k : ℕ) (classes : Classes) (p : ℕ) → least_of classes p ≡ p → Passes pair k classes p
least_passes pair k classes p e = record { base = λ run is len t lt. trivial classes (row_at pair run t) p e; step = λ path is len h. trivial classes (row_at pair path k) p e }

-- where Done fits, the classes are those of the greatest correspondence
pub done_is_greatest : (pair : Pair) (k : ℕ) (board : State) → IsSupported pair k board → AllCounted (places_of pair) board → AreOfGreatest pair k board.classes
done_is_greatest pair k board is all = exact pair k board.classes is.partition is.keeps (λ p lt. ⊎_elim (λ (e : least_of board.classes p ≡ p). least_passes pair k board.classes p e) (λ (ne : least_of board.classes p ≡ p → ⊥). is.counted p (lt, ne) (all p (lt, ne))) (cases_eq (least_of board.classes p) p))

-- a row that may split doesn't divide the classes of the greatest correspondence
pub greatest_undivided : (pair : Pair) (k : ℕ) (classes : Classes) (bits : List Bool) → ArePartition (places_of pair) classes → AreOfGreatest pair k classes → MaySplit pair k bits → HoldIn (places_of pair) classes bits
greatest_undivided pair k classes bits is of ok p lt =
    let r : ℕ = least_of classes p in
    let sign : Bool = signed (phase_of classes r) (phase_of classes p) in
    let low : r ≤ p = is.lower p lt in
    may_split_agrees pair k bits ok (literal r false) (literal p sign)
    (of.reaches (literal r false) (literal p sign) (subst (λ (n : ℕ). n < places_of pair) (sym (half_literal r false)) (omega arith)) (subst (λ (n : ℕ). n < places_of pair) (sym (half_literal p sign)) lt) (pairs_of_places classes r p (is.fixed p lt)))
