-- Counts of marked places, and what one more mark does to them.
use Rattle.std.proofs.Common.{◌≡◌, ◌≢◌, ◌≤◌, ◌<◌, ◌+◌, ◌-◌, ◌/◌, ℕ, zero, suc, List, set, take, length, get_or, arith, sym, ◌∙◌, subst, refl, ◌⊎◌, inl, inr, ⊎_elim, Bool, true, false, get_or-set_same, get_or-set_other}
use Rattle.std.proofs.lemmas.Bool.{cases_eq, cases_lt, false≢true, le-leb, lt-leb}
use Rattle.std.proofs.Common.{add-one, ◌&&◌}
use Rattle.std.specs.Prelude.{nat_le, if◌then◌else◌}
use Rattle.std.proofs.lemmas.List.{length-set, get_or_past, get_or_default}
use Rattle.std.proofs.lemmas.List.Elements.{All-more, All-weaker}
use Rattle.std.specs.List.{All}
use Rattle.cnf_store.specs.Codes.{neg}
use Rattle.sat_trail.specs.Trail.{IsPlaced, StandsBelow}
use Rattle.sat_trail.proofs.Placing.{place_of, stands_small}
use Rattle.sat_core.specs.declared.marks.Marks.{Marks}
use Rattle.sat_core.specs.Analysis.{IsMarked, open_below, Counts, HasMore, AddsMarks}

-- a marked place from start on is one more
pub open_next : (seen : List Bool) (start i : ℕ) → start ≤ i → get_or seen i false ≡ true → open_below seen start (i + 1) ≡ open_below seen start i + 1
unfolding open_below
open_next seen start i le e = let t : nat_le start i ≡ true = le-leb start i le in rw (add-one, t, e) refl

-- an unmarked place is none
pub open_same : (seen : List Bool) (start i : ℕ) → get_or seen i false ≡ false → open_below seen start (i + 1) ≡ open_below seen start i
unfolding open_below
open_same seen start i e = rw (add-one, e) (elim (nat_le start i) as (λ b. open_below seen start i + (if (b && false) then 1 else 0) ≡ open_below seen start i) [ true ↦ omega arith | false ↦ omega arith ])

-- there are none from start to start
pub open_low : (seen : List Bool) (start i : ℕ) → i ≤ start → open_below seen start i ≡ 0
unfolding open_below
open_low seen start zero le = refl
open_low seen start (suc i) le = let h = open_low seen start i (omega arith) in let t : nat_le start i ≡ false = lt-leb start i (omega arith) in rw (h, t) refl

-- there are no fewer to a higher limit
open_up : (seen : List Bool) (start i : ℕ) → open_below seen start i ≤ open_below seen start (i + 1)
unfolding open_below
open_up seen start i = rw add-one (omega arith)

-- where there are none, no place is marked
pub open_none : (seen : List Bool) (start i q : ℕ) → open_below seen start i ≡ 0 → start ≤ q → q < i → get_or seen q false ≡ true → ⊥
unfolding open_below
open_none seen start zero q e le lt is = omega arith
open_none seen start (suc i) q e le lt is =
    let here = open_next seen start i in
    let step : open_below seen start (i + 1) ≡ 0 = rw add-one e in
    let up = open_up seen start i in
    ⊎_elim (λ (s : q ≡ i). let h = here (omega arith) (subst (λ (p : ℕ). get_or seen p false ≡ true) s is) in omega arith) (λ (n : q ≢ i). open_none seen start i q (omega arith) le (omega arith) is) (cases_eq q i)

-- rows that agree from start to the limit have as many
pub open_agree : (a b : List Bool) (start i : ℕ) → ((q : ℕ) → start ≤ q → q < i → get_or a q false ≡ get_or b q false) → open_below a start i ≡ open_below b start i
unfolding open_below
open_agree a b start zero same = refl
open_agree a b start (suc i) same =
    let h = open_agree a b start i (λ q le lt. same q le (omega arith)) in
    ⊎_elim (λ (lt : i < start). let t : nat_le start i ≡ false = lt-leb start i lt in rw (h, t) refl) (λ (le : start ≤ i). let s = same i le (omega arith) in rw (h, s) refl)
    (cases_lt i start)

-- a mark below start is none
pub open_set_low : (seen : List Bool) (start i q : ℕ) → q < start → open_below (set seen q true) start i ≡ open_below seen start i
open_set_low seen start i q lt = open_agree (set seen q true) seen start i (λ p le h. get_or-set_other seen q p true false (λ e. omega arith))

-- what one more mark adds stays to a higher limit
steps : (seen more : List Bool) (start i : ℕ) → get_or more i false ≡ get_or seen i false → open_below more start i ≡ open_below seen start i + 1 → open_below more start (i + 1) ≡ open_below seen start (i + 1) + 1
unfolding open_below
steps seen more start i g h = rw (add-one, h, g) (omega arith)

-- a mark from start on is one more
pub open_set : (seen : List Bool) (start i q : ℕ) → start ≤ q → q < i → q < length seen → get_or seen q false ≡ false → open_below (set seen q true) start i ≡ open_below seen start i + 1
open_set seen start zero q le lt len e = absurd (omega arith)
open_set seen start (suc i) q le lt len e = ⊎_elim
    (λ (s : q ≡ i).
    let a = open_agree (set seen q true) seen start i (λ p pl h. get_or-set_other seen q p true false (λ z. omega arith)) in
    let n = open_next (set seen q true) start i (omega arith) (subst (λ (p : ℕ). get_or (set seen q true) p false ≡ true) s (get_or-set_same seen q true false len)) in
    let o = open_same seen start i (subst (λ (p : ℕ). get_or seen p false ≡ false) s e) in
    let m : suc i ≡ i + 1 = omega arith in rw m (omega arith))
    (λ (n : q ≢ i).
    let h = open_set seen start i q le (omega arith) len e in
    let g = get_or-set_other seen q i true false (λ z. n (sym z)) in
    let m : suc i ≡ i + 1 = omega arith in
    rw m (steps seen (set seen q true) start i g h)) (cases_eq q i)

-- there are no more than places
pub open_le : (seen : List Bool) (start i : ℕ) → open_below seen start i ≤ i
unfolding open_below
open_le seen start zero = omega arith
open_le seen start (suc i) = let h = open_le seen start i in
    elim (nat_le start i && get_or seen i false) as (λ b. open_below seen start i + (if b then 1 else 0) ≤ suc i) [ true ↦ omega arith | false ↦ omega arith ]

-- while some are counted, the place is past start
pub past_start : (seen : List Bool) (start i n : ℕ) → open_below seen start i ≡ n → 0 < n → start < i
past_start seen start i n e pos = ⊎_elim (λ (h : start < i). h) (λ (h : i ≤ start). absurd (let z = open_low seen start i h in omega arith)) (cases_lt start i)

-- a clean row has no marks
pub open_clean : (seen : List Bool) (start i : ℕ) → ((q : ℕ) → get_or seen q false ≡ false) → open_below seen start i ≡ 0
unfolding open_below
open_clean seen start zero clean = refl
open_clean seen start (suc i) clean = let h = open_clean seen start i clean in let e = clean i in rw (h, e) (elim (nat_le start i) as (λ b. 0 + (if (b && false) then 1 else 0) ≡ 0) [ true ↦ omega arith | false ↦ omega arith ])

-- a marked place is within the row
pub marked_within : (seen : List Bool) (q : ℕ) → get_or seen q false ≡ true → q < length seen
marked_within seen q is = ⊎_elim (λ (lt : q < length seen). lt) (λ (le : length seen ≤ q). absurd (false≢true (sym (get_or_past seen q false le) ∙ is))) (cases_lt q (length seen))

-- one more mark takes none away
pub seen_more : (seen : List Bool) (p q : ℕ) → p < length seen → get_or seen q false ≡ true → get_or (set seen p true) q false ≡ true
seen_more seen p q lt is = ⊎_elim (λ (e : q ≡ p). subst (λ (x : ℕ). get_or (set seen p true) x false ≡ true) (sym e) (get_or-set_same seen p true false lt)) (λ (ne : q ≢ p). get_or-set_other seen p q true false ne ∙ is) (cases_eq q p)

-- one mark more, below the limit
pub more_set : (seen : List Bool) (p limit : ℕ) → p < limit → p < length seen → HasMore limit seen (set seen p true)
more_set seen p limit lt len = record {
  size = length-set seen p true;
  more = λ q is. seen_more seen p q len is;
  past = λ q le. get_or-set_other seen p q true false (λ e. omega arith);
}

-- nothing more
pub more_none : (limit : ℕ) (a : List Bool) → HasMore limit a a
more_none limit a = record { size = refl; more = λ q is. is; past = λ q le. refl }

-- marks are added twice
pub adds_then : (limit : ℕ) (a b c : Marks) → AddsMarks limit a b → AddsMarks limit b c → AddsMarks limit a c
adds_then limit a b c one two = record {
  seen = record {
    size = two.seen.size ∙ one.seen.size;
    more = λ q is. two.seen.more q (one.seen.more q is);
    past = λ q le. two.seen.past q le ∙ one.seen.past q le;
  };
  start = two.start ∙ one.start;
  grows = let g = one.grows in let h = two.grows in omega arith;
}

-- a mark below start
pub counts_low : (seen : List Bool) (start limit above below p : ℕ) → Counts seen start limit above below → p < start → p < length seen → get_or seen p false ≡ false → Counts (set seen p true) start limit above (below + 1)
counts_low seen start limit above below p m lt len un = record {
  above = open_set_low seen start limit p lt ∙ m.above;
  below = let h = open_set seen 0 start p (omega arith) lt len un in omega (arith, m.below);
}

-- a mark from start on
pub counts_open : (seen : List Bool) (start limit above below p : ℕ) → Counts seen start limit above below → start ≤ p → p < limit → p < length seen → get_or seen p false ≡ false → Counts (set seen p true) start limit (above + 1) below
counts_open seen start limit above below p m le lt len un = record {
  above = let h = open_set seen start limit p le lt len un in omega (arith, m.above);
  below = open_agree (set seen p true) seen 0 start (λ q low h. get_or-set_other seen p q true false (λ e. omega arith)) ∙ m.below;
}

-- a marked place is passed
pub counts_step : (seen : List Bool) (start i above below : ℕ) → start ≤ i → get_or seen i false ≡ true → Counts seen start (i + 1) above below → (0 < above) × Counts seen start i (above - 1) below
counts_step seen start i above below le is m = let h = open_next seen start i le is in (omega (arith, m.above), record { above = omega (arith, m.above); below = m.below })

-- an unmarked place is passed
pub counts_skip : (seen : List Bool) (start i above below : ℕ) → get_or seen i false ≡ false → Counts seen start (i + 1) above below → Counts seen start i above below
counts_skip seen start i above below is m = let h = open_same seen start i is in record { above = omega (arith, m.above); below = m.below }

-- a mark at the limit is taken away
pub counts_unset : (seen : List Bool) (start i above below : ℕ) → start ≤ i → Counts seen start i above below → Counts (set seen i false) start i above below
counts_unset seen start i above below le m = record {
  above = open_agree (set seen i false) seen start i (λ q low h. get_or-set_other seen i q false false (λ e. omega arith)) ∙ m.above;
  below = open_agree (set seen i false) seen 0 start (λ q low h. get_or-set_other seen i q false false (λ e. omega arith)) ∙ m.below;
}

-- those below start, counted from the first place on
pub counts_below : (seen : List Bool) (start below : ℕ) → open_below seen 0 start ≡ below → Counts seen 0 start below 0
counts_below seen start below e = record { above = e; below = open_low seen 0 0 (omega arith) }

-- a clean row
pub counts_clean : (seen : List Bool) (start i above below : ℕ) → ((q : ℕ) → get_or seen q false ≡ false) → above ≡ 0 → below ≡ 0 → Counts seen start i above below
counts_clean seen start i above below clean a b = record { above = open_clean seen start i clean ∙ sym a; below = open_clean seen 0 start clean ∙ sym b }

-- what is marked stays marked
pub marked_along : (lits : List ℕ) (a b : List Bool) (limit m : ℕ) → ((q : ℕ) → get_or a q false ≡ true → get_or b q false ≡ true) → IsMarked lits a limit m → IsMarked lits b limit m
marked_along lits a b limit m more (q, lt, e, is) = (q, lt, e, more q is)

-- one more literal of a clause is marked
pub all_marked_more : (clause : List ℕ) (skip : ℕ) (lits : List ℕ) (a b : List Bool) (limit i : ℕ) → i < length clause → All (λ m. (m ≡ skip) ⊎ IsMarked lits a limit m) (take i clause) → ((q : ℕ) → get_or a q false ≡ true → get_or b q false ≡ true)
    → (get_or clause i 0 ≡ skip) ⊎ IsMarked lits b limit (get_or clause i 0) → All (λ m. (m ≡ skip) ⊎ IsMarked lits b limit m) (take (i + 1) clause)
all_marked_more clause skip lits a b limit i lt all more here =
    All-more (λ m. (m ≡ skip) ⊎ IsMarked lits b limit m) clause i 0 lt
    (All-weaker (λ m. (m ≡ skip) ⊎ IsMarked lits a limit m) (λ m. (m ≡ skip) ⊎ IsMarked lits b limit m) (λ m h. ⊎_elim (λ (e : m ≡ skip). inl e) (λ (k : IsMarked lits a limit m). inr (marked_along lits a b limit m more k)) h) (take i clause) all)
    here

-- a place past the first is one past the one before
pub back_one : (n : ℕ) → 0 < n → n ≡ n - 1 + 1
back_one n h = omega arith

-- a literal that is false below a limit has its place there
pub false_place : (at lits : List ℕ) (limit l read : ℕ) → IsPlaced (length at) lits at → limit ≤ length lits → StandsBelow lits limit (neg l) → read ≡ get_or at (l / 2) read → (0 < read) × (read - 1 < limit) × (read ≡ get_or at (l / 2) 0) × (get_or lits (read - 1) 0 ≡ neg l)
false_place at lits limit l read placed le wrong e =
    let small = stands_small (length at) lits at limit l placed le wrong in
    let h = place_of (length at) lits at limit l placed le wrong in
    let same : read ≡ get_or at (l / 2) 0 = e ∙ get_or_default at (l / 2) read 0 (omega arith) in
    (omega (arith, h.0), omega (arith, h.1), same, subst (λ (p : ℕ). get_or lits (p - 1) 0 ≡ neg l) (sym same) h.2)

-- one place more has no mark
pub none_down : (seen : List Bool) (i n from : ℕ) → n ≡ i + 1 → get_or seen i false ≡ false → ((q : ℕ) → n ≤ q → q < from → get_or seen q false ≡ false) → (q : ℕ) → i ≤ q → q < from → get_or seen q false ≡ false
none_down seen i n from e here none q le lt = ⊎_elim (λ (s : q ≡ i). subst (λ (p : ℕ). get_or seen p false ≡ false) (sym s) here) (λ (ne : q ≢ i). none q (omega arith) lt) (cases_eq q i)

-- a read place without a mark
pub read_false : (xs : List Bool) (p : ℕ) (read : Bool) → read ≡ get_or xs p read → read ≡ false → get_or xs p false ≡ false
read_false xs p read e z = sym (subst (λ (r : Bool). r ≡ get_or xs p r) z e)

-- one mark more below start is at most start
pub low_room : (seen : List Bool) (start limit above below p : ℕ) → Counts seen start limit above below → p < start → p < length seen → get_or seen p false ≡ false → below + 1 ≤ start
low_room seen start limit above below p m lt len un =
    let n = counts_low seen start limit above below p m lt len un in
    let o = open_le (set seen p true) 0 start in omega (arith, n.below)

-- one mark more from start on is at most the limit
pub high_room : (seen : List Bool) (start limit above below p : ℕ) → Counts seen start limit above below → start ≤ p → p < limit → p < length seen → get_or seen p false ≡ false → above + 1 ≤ limit
high_room seen start limit above below p m le lt len un =
    let n = counts_open seen start limit above below p m le lt len un in
    let o = open_le (set seen p true) start limit in omega (arith, n.above)

-- the counts at one past the place before
pub counts_back : (seen : List Bool) (start n above below : ℕ) → 0 < n → Counts seen start n above below → Counts seen start (n - 1 + 1) above below
counts_back seen start n above below pos c = subst (λ (i : ℕ). Counts seen start i above below) (back_one n pos) c

-- the same mark, read from the row's slice
pub same_mark : (a b : List Bool) (p : ℕ) (v : Bool) → a ≡ b → get_or a p false ≡ v → get_or b p false ≡ v
same_mark a b p v e h = subst (λ (xs : List Bool). get_or xs p false ≡ v) e h

-- a read place with one
pub read_true : (xs : List Bool) (p : ℕ) (read : Bool) → read ≡ get_or xs p read → read ≡ true → p < length xs → get_or xs p false ≡ true
read_true xs p read e z lt = sym (get_or_default xs p read false lt) ∙ sym e ∙ z
