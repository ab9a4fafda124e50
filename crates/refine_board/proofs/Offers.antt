-- How many offers a legal list of entries makes.
use Rattle.std.proofs.Common.{◌≡◌, ◌==◌, ◌&&◌, ◌∙◌, ◌<◌, ◌≤◌, ℕ, zero, suc, ◌+◌, ◌-◌, ◌*◌, ◌/◌, Bool, true, false, not, List, [], ◌∷◌, length, set, cond, if◌then◌else◌, refl, ap, sym, subst, arith, true≢false, ⊎_elim, slice_index_or, Option, Some, None, get_or-set_same, get_or-set_other, ne_eqb}
use Rattle.std.proofs.lemmas.Bool.{cases_lt, cases_eq, and_parts, and_from, and_right, not-true, not_from_false}
use Rattle.std.proofs.lemmas.List.{set_past}
use Rattle.std.proofs.lemmas.List.Sums.{sum_by-cons}
use Rattle.circ_model.specs.Meaning.{Pair, places_of}
use Rattle.class_partition.specs.Classes.{Classes, least_of, is_least, class_count}
use Rattle.class_partition.specs.declared.classes.Needed.{Needed}
use Rattle.refine_board.specs.declared.marks.Mark.{Mark}
use Rattle.refine_board.specs.declared.marks.Mark.TheVariants.{Open, Out, Proved}
use Rattle.refine_board.specs.declared.marks.LastOffer.{LastOffer}
use Rattle.refine_board.specs.declared.journal.Step.{Step}
use Rattle.refine_board.specs.declared.journal.Step.TheVariants.{Offered, Idle, Done, Counted, Stale, Back, Foreign, Already, Split}
use Rattle.refine_board.specs.declared.journal.Entry.{Entry}
use Rattle.refine_board.specs.States.{State, mark_of, is_open, offer_of, IsOpenPair, called, offered, cleared, marked, reopened, released, divided}
use Rattle.refine_board.specs.Schedules.{Does, Leads, IsSupported}
use Rattle.refine_board.specs.Tallies.{is_offered, offered_entries, may_reopen, reopening_entries}
use Rattle.class_partition.proofs.Counting.{counted, counted_le, counted_lt, counted_but_one, counted_apart}
use Rattle.class_partition.proofs.ClassCount.{count_positive, count_most}
use Rattle.circ_model.proofs.Rows.{some_place}
use Rattle.refine_board.proofs.Splits.{classes_of_reopened}
use Rattle.refine_board.proofs.Supported.{after_event}

-- n * (n - 1) / 2
pub tri : ℕ → ℕ
tri zero = 0
tri (suc n) = n + tri n

tri_le : (m n : ℕ) → m ≤ n → tri m ≤ tri n
unfolding tri
tri_le zero n h = omega arith
tri_le (suc m) zero h = absurd (omega arith)
tri_le (suc m) (suc n) h = let r = tri_le m n (omega arith) in omega arith

tri_next : (n : ℕ) → tri (suc n) ≡ n + tri n
unfolding tri
tri_next n = refl

tri_is : (n : ℕ) → 2 * tri n + n ≡ n * n
unfolding tri
tri_is zero = omega arith
tri_is (suc n) = let h = tri_is n in omega arith

tri_half : (n : ℕ) → n * (n - 1) / 2 ≡ tri n
tri_half zero = let h = tri_is 0 in omega arith
tri_half (suc n) = let h = tri_is (suc n) in let e : suc n - 1 ≡ n = omega arith in rw e (omega arith)

-- a needed pair that waits to be offered
abbrev pub is_waiting : State → ℕ → Bool
is_waiting board p = not (is_least board.classes p) && is_open (mark_of board p)

abbrev pub waiting : ℕ → State → ℕ
waiting places board = counted (is_waiting board) 0 places

abbrev pub pairs_needed : ℕ → State → ℕ
pairs_needed places board = places - class_count places board.classes

waiting_below : (places : ℕ) (board : State) → waiting places board + class_count places board.classes ≤ places
waiting_below places board = counted_apart (is_waiting board) (is_least board.classes) 0 places (λ p low high on. not-true (is_least board.classes p) (and_parts (not (is_least board.classes p)) (is_open (mark_of board p)) on).0)

mark_elsewhere : (marks : List Mark) (m p : ℕ) (x : Mark) → (p ≡ m → ⊥) → slice_index_or (set marks m x) p Open ≡ slice_index_or marks p Open
mark_elsewhere marks m p x ne = get_or-set_other marks m p x Open ne

-- a mark that isn't open was written
unopened : (marks : List Mark) (m p : ℕ) (x : Mark) → is_open x ≡ false → is_open (slice_index_or (set marks m x) p Open) ≡ true → is_open (slice_index_or marks p Open) ≡ true
unopened marks m p x other is = ⊎_elim
    (λ (e : p ≡ m). ⊎_elim
    (λ (lt : m < length marks). absurd (true≢false (sym is ∙ ap (λ (i : ℕ). is_open (slice_index_or (set marks m x) i Open)) e ∙ ap is_open (get_or-set_same marks m x Open lt) ∙ other)))
    (λ (past : length marks ≤ m). ap (λ (l : List Mark). is_open (slice_index_or l p Open)) (sym (set_past marks m x past)) ∙ is)
    (cases_lt m (length marks)))
    (λ (ne : p ≡ m → ⊥). ap is_open (sym (mark_elsewhere marks m p x ne)) ∙ is)
    (cases_eq p m)

after_write : (places m : ℕ) (x : Mark) (board : State) → is_open x ≡ false → waiting places (marked m x board) ≤ waiting places board
after_write places m x board other = counted_le (is_waiting (marked m x board)) (is_waiting board) 0 places (λ p low high on.
    let parts = and_parts (not (is_least board.classes p)) (is_open (slice_index_or (set board.marks m x) p Open)) on in
    and_from (not (is_least board.classes p)) (is_open (mark_of board p)) parts.0 (unopened board.marks m p x other parts.1))

after_opening : (places m : ℕ) (board : State) → waiting places (marked m Open board) ≤ waiting places board + 1
after_opening places m board = counted_but_one (is_waiting (marked m Open board)) (is_waiting board) 0 places m (λ p low high ne on. subst (λ (x : Mark). (not (is_least board.classes p) && is_open x) ≡ true) (mark_elsewhere board.marks m p Open ne) on)

after_reopening : (places : ℕ) (offer : Option LastOffer) (board : State) → waiting places (reopened offer board) ≤ waiting places board + 1
after_reopening places None board = omega arith
after_reopening places (Some offer) board = at (offer.number == board.number)
  where
    at : (b : Bool) → waiting places (if b then marked offer.pair.member Open board else board) ≤ waiting places board + 1
    at true = after_opening places offer.pair.member board
    at false = omega arith

unoffered : (pair : Pair) (k : ℕ) (p : Needed) (board : State) → IsSupported pair k board → IsOpenPair (places_of pair) board p → waiting (places_of pair) (marked p.member Out board) + 1 ≤ waiting (places_of pair) board
unoffered pair k p board is next =
    let m : ℕ = p.member in
    let lt : m < places_of pair = next.0.0.0 in
    let inside : m < length board.marks = let len = is.marks in omega arith in
    let new : slice_index_or (set board.marks m Out) m Open ≡ Out = get_or-set_same board.marks m Out Open inside in
    let off : is_waiting (marked m Out board) m ≡ false = and_right (not (is_least board.classes m)) (is_open (slice_index_or (set board.marks m Out) m Open)) (ap is_open new) in
    let on : is_waiting board m ≡ true = and_from (not (is_least board.classes m)) (is_open (mark_of board m)) (not_from_false (is_least board.classes m) (ne_eqb (least_of board.classes m) m next.0.0.1)) (ap is_open next.1) in
    let strict = counted_lt (is_waiting (marked m Out board)) (is_waiting board) 0 (places_of pair) m (λ q low high h.
    let parts = and_parts (not (is_least board.classes q)) (is_open (slice_index_or (set board.marks m Out) q Open)) h in
    and_from (not (is_least board.classes q)) (is_open (mark_of board q)) parts.0 (unopened board.marks m q Out refl parts.1)) (omega arith) (omega arith) off on in
    omega arith

abbrev one : Bool → ℕ
one b = cond b 1 0

-- what is left to be offered, in the classes now and in all that may come
abbrev pub ahead : ℕ → State → ℕ
ahead places board = waiting places board + tri (pairs_needed places board)

same_ahead : (places : ℕ) (a b : State) → a ≡ b → ahead places a ≡ ahead places b
same_ahead places a b e = ap (ahead places) e

reopen_ahead : (places : ℕ) (offer : Option LastOffer) (board : State) → ahead places (reopened offer board) ≤ ahead places board + 1
reopen_ahead places offer board =
    let w = after_reopening places offer board in
    let e = ap (λ (c : Classes). tri (places - class_count places c)) (classes_of_reopened offer board) in
    omega arith

split_ahead : (places n : ℕ) (classes : Classes) (board : State) → 1 ≤ n → class_count places classes ≡ class_count places board.classes + n → class_count places classes ≤ places
    → ahead places (divided classes board) ≤ ahead places board
split_ahead places n classes board some count most =
    let w = waiting_below places (divided classes board) in
    let fewer : suc (places - class_count places classes) ≤ pairs_needed places board = omega arith in
    let up = tri_le (suc (places - class_count places classes)) (pairs_needed places board) fewer in
    let next : tri (suc (places - class_count places classes)) ≡ (places - class_count places classes) + tri (places - class_count places classes) = tri_next (places - class_count places classes) in
    omega arith

pub spends : (pair : Pair) (k party : ℕ) (event : Step) (before after : State) → IsSupported pair k before → Does (places_of pair) party event before after
    → one (is_offered event) + ahead (places_of pair) after ≤ one (may_reopen event) + ahead (places_of pair) before
spends pair k party (Offered p) before after is does = let e = same_ahead (places_of pair) after (called party (offered party p before)) does.1 in let h = unoffered pair k p before is does.0 in omega arith
spends pair k party Idle before after is does = let e = same_ahead (places_of pair) after (called party before) does.2 in omega arith
spends pair k party Done before after is does = let e = same_ahead (places_of pair) after (called party before) does.1 in omega arith
spends pair k party (Counted p w) before after is does = let e = same_ahead (places_of pair) after (called party (cleared party (marked p.member (Proved p.rep w) before))) does.1 in let h = after_write (places_of pair) p.member (Proved p.rep w) before refl in omega arith
spends pair k party (Stale p) before after is does = let e = same_ahead (places_of pair) after (called party (released party before)) does in let h = reopen_ahead (places_of pair) (offer_of before party) before in omega arith
spends pair k party (Back p) before after is does = let e = same_ahead (places_of pair) after (called party (released party before)) does in let h = reopen_ahead (places_of pair) (offer_of before party) before in omega arith
spends pair k party Foreign before after is does = let e = same_ahead (places_of pair) after (called party (released party before)) does in let h = reopen_ahead (places_of pair) (offer_of before party) before in omega arith
spends pair k party (Already bits) before after is does = let e = same_ahead (places_of pair) after (called party (released party before)) does.1 in let h = reopen_ahead (places_of pair) (offer_of before party) before in omega arith
spends pair k party (Split bits n) before after is (classes, split, some, count, at) =
    let e = same_ahead (places_of pair) after (called party (cleared party (divided classes before))) at in
    let h = split_ahead (places_of pair) n classes before some count (count_most (places_of pair) classes) in
    omega arith

offers_spent : (pair : Pair) (k : ℕ) (entries : List Entry) (before after : State) → IsSupported pair k before → Leads pair k before entries after
    → offered_entries entries + ahead (places_of pair) after ≤ reopening_entries entries + ahead (places_of pair) before
offers_spent pair k [] before after is e = let h = same_ahead (places_of pair) after before e in omega arith
offers_spent pair k (entry ∷ rest) before after is (middle, step, ok, further) =
    let here = spends pair k entry.worker entry.step before middle is step.2 in
    let later = offers_spent pair k rest middle after (after_event pair k entry.worker entry.step before middle step.2 ok is) further in
    rw (sum_by-cons (λ (e : Entry). one (is_offered e.step)) entry rest, sum_by-cons (λ (e : Entry). one (may_reopen e.step)) entry rest) (omega arith)

-- what is ahead of any board
pub total_ahead : (pair : Pair) (k : ℕ) (board : State) → IsSupported pair k board → ahead (places_of pair) board ≤ places_of pair * (places_of pair - 1) / 2
total_ahead pair k board is =
    let n : ℕ = places_of pair in
    let w = waiting_below n board in
    let some = count_positive n board.classes is.partition (some_place pair) in
    let next = tri_next (pairs_needed n board) in
    let up = tri_le (suc (pairs_needed n board)) n (omega arith) in
    rw (tri_half n) (omega arith)

-- the number of offers
pub offers_below : (pair : Pair) (k : ℕ) (entries : List Entry) (before after : State) → IsSupported pair k before → Leads pair k before entries after
    → offered_entries entries ≤ places_of pair * (places_of pair - 1) / 2 + reopening_entries entries
offers_below pair k entries before after is leads = let h = offers_spent pair k entries before after is leads in let most = total_ahead pair k before is in omega arith
