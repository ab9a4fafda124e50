-- What is known of a pair outlives splits: it passes, and its class's least place stays with it. So does what rests on pairs, as long as they stand.
use Rattle.std.proofs.Common.{◌≡◌, ◌==◌, ◌&&◌, ◌∙◌, ◌<◌, ◌≤◌, ◌+◌, ℕ, Bool, true, false, List, refl, length, set, if◌then◌else◌, ap, ap₂, sym, subst, arith, ⊎_elim, slice_index_or, get_or-set_same, get_or-set_other, length-set}
use Rattle.std.proofs.lemmas.Bool.{cases_eq, cases_lt, and_parts, eqb-true}
use Rattle.std.proofs.lemmas.List.{get_or_default, get_or_past, ext_get_or}
use Rattle.std.proofs.lemmas.List.FromFn.{length-map-range_with_len, get_or-map-range_with_len}
use Rattle.circ_model.specs.Meaning.{Pair, bit, signed, literal, places_of}
use Rattle.circ_model.specs.Correspondence.{Corresponds}
use Rattle.class_partition.specs.declared.classes.Needed.{Needed}
use Rattle.class_partition.specs.Classes.{Classes, least_of, phase_of, ArePartition, IsNeeded, IsSplit, KeepsGreatest, Passes, needed}
use Rattle.class_partition.proofs.SameClasses.{places_of_pairs}
use Rattle.verdict_stamp.specs.Versions.{IsKnown}
use Rattle.used_pairs.specs.Lists.{PassesBy, all_together}
use Rattle.verdict_stamp.proofs.KnownPasses.{greatest_grows, known_passes}
use Rattle.verdict_stamp.proofs.Listed.{passes_by}
use Rattle.verdict_stamp.specs.declared.used.Used.{Used}
use Rattle.verdict_stamp.specs.declared.used.Used.TheVariants as used
use Rattle.refine_board.specs.declared.marks.Mark.{Mark}
use Rattle.refine_board.specs.declared.marks.Mark.TheVariants.{Open, Out, Proved}
use Rattle.refine_board.specs.States.{lasting, lasting_marks}
use Rattle.refine_board.specs.Schedules.{RestsOn}

pub rests_passes : (pair : Pair) (k : ℕ) (classes : Classes) (m : ℕ) (w : Used) → ArePartition (places_of pair) classes → KeepsGreatest pair k classes → RestsOn pair k classes m w → Passes pair k classes m
rests_passes pair k classes m used.Version is keeps rests = rests
rests_passes pair k classes m (used.Pairs pairs) is keeps rests = passes_by pair k classes m pairs is rests.0 rests.1
rests_passes pair k classes m (used.Known j) is keeps rests = known_passes pair j k classes m rests.1 keeps rests.2

-- a least place stays one
stays_least : (places : ℕ) (before : Classes) (bits : List Bool) (after : Classes) → ArePartition places before → IsSplit places before bits after → (p : ℕ) → p < places → least_of before p ≡ p → least_of after p ≡ p
stays_least places before bits after is split p lt e =
    let r : ℕ = least_of after p in
    let low : r ≤ p = split.partition.lower p lt in
    let inside : r < places = omega arith in
    let same : least_of before r ≡ least_of before p = ((split.together r p inside lt).0 (split.partition.fixed p lt)).0 in
    let back : least_of before r ≤ r = is.lower r inside in
    omega arith

-- so a place that is needed after a split was needed before it
pub was_needed : (places : ℕ) (before : Classes) (bits : List Bool) (after : Classes) → ArePartition places before → IsSplit places before bits after → (p : ℕ) → IsNeeded places after p → IsNeeded places before p
was_needed places before bits after is split p need = (need.0, λ (e : least_of before p ≡ p). need.1 (stays_least places before bits after is split p need.0 e))

-- and a known one keeps its class's least place
pub same_least : (pair : Pair) (j k : ℕ) (before : Classes) (bits : List Bool) (after : Classes) → j ≤ k → ArePartition (places_of pair) before → IsSplit (places_of pair) before bits after → KeepsGreatest pair k after
    → (p : ℕ) → p < places_of pair → IsKnown pair j before p → least_of after p ≡ least_of before p
same_least pair j k before bits after le is split keeps p lt known =
    let r : ℕ = least_of before p in
    let low : r ≤ p = is.lower p lt in
    let sign : Bool = signed (phase_of before r) (phase_of before p) in
    let together : least_of after r ≡ least_of after p = places_of_pairs after r p false sign (keeps (literal r false) (literal p sign) (greatest_grows pair j k (literal r false) (literal p sign) le known)) in
    sym together ∙ stays_least (places_of pair) before bits after is split r (omega arith) (is.fixed p lt)

known_still : (pair : Pair) (j k : ℕ) (before : Classes) (bits : List Bool) (after : Classes) → j ≤ k → ArePartition (places_of pair) before → IsSplit (places_of pair) before bits after → KeepsGreatest pair k after
    → (p : ℕ) → p < places_of pair → IsKnown pair j before p → IsKnown pair j after p
known_still pair j k before bits after le is split keeps p lt known =
    let same : least_of after p ≡ least_of before p = same_least pair j k before bits after le is split keeps p lt known in
    let e : needed after p ≡ needed before p = ap₂ (λ (q : ℕ) (phase : List Bool). (literal q false, literal p (signed (bit phase q) (bit phase p)))) same split.phase in
    subst (λ (x : ℕ × ℕ). Corresponds pair j x.0 x.1) (sym e) known

-- what rests on known pairs rests on them after a split
pub rests_still : (pair : Pair) (k : ℕ) (before : Classes) (bits : List Bool) (after : Classes) → ArePartition (places_of pair) before → IsSplit (places_of pair) before bits after → KeepsGreatest pair k after
    → (p j : ℕ) → p < places_of pair → RestsOn pair k before p (used.Known j) → RestsOn pair k after p (used.Known j)
rests_still pair k before bits after is split keeps p j lt rests = (rests.0, rests.1, known_still pair j k before bits after rests.1 is split keeps p lt rests.2)

-- what rests on pairs rests on them after a split that leaves them together, and the pair itself
pub listed_still : (pair : Pair) (k : ℕ) (before : Classes) (bits : List Bool) (after : Classes) (p : ℕ) (pairs : List Needed) → IsSplit (places_of pair) before bits after → least_of after p ≡ least_of before p → all_together after pairs ≡ true
    → RestsOn pair k before p (used.Pairs pairs) → RestsOn pair k after p (used.Pairs pairs)
listed_still pair k before bits after p pairs split same together rests =
    let e : needed before p ≡ needed after p = ap₂ (λ (q : ℕ) (phase : List Bool). (literal q false, literal p (signed (bit phase q) (bit phase p)))) (sym same) (sym split.phase) in
    let one : PassesBy pair k after.phase pairs (needed before p) = subst (λ (phase : List Bool). PassesBy pair k phase pairs (needed before p)) (sym split.phase) rests.1 in
    (together, subst (PassesBy pair k after.phase pairs) e one)

-- a mark that stays counted at a split is of a known pair, or of one that stands with all pairs on which it rests
pub data StaysCounted (classes : Classes) (p : ℕ) (m : Mark) (r : ℕ) (w : Used) : Type 0 where
  StaysKnown : (j : ℕ) → m ≡ Proved r (used.Known j) → w ≡ used.Known j → StaysCounted classes p m r w
  StaysListed : (pairs : List Needed) → m ≡ Proved r (used.Pairs pairs) → w ≡ used.Pairs pairs → least_of classes p ≡ r → all_together classes pairs ≡ true → StaysCounted classes p m r w

pub stays_counted : (classes : Classes) (p : ℕ) (m : Mark) (r : ℕ) (w : Used) → lasting classes p m ≡ Proved r w → StaysCounted classes p m r w
stays_counted classes p Open r w e = cc
stays_counted classes p Out r w e = cc
stays_counted classes p (Proved s used.Version) r w e = cc
stays_counted classes p (Proved s (used.Known j)) r w e =
    let same : s ≡ r = cc in
    let rests : w ≡ used.Known j = cc in
    StaysKnown j (ap (λ (q : ℕ). Proved q (used.Known j)) same) rests
stays_counted classes p (Proved s (used.Pairs pairs)) r w e = at ((least_of classes p == s) && all_together classes pairs) refl e
  where
    at : (b : Bool) → b ≡ ((least_of classes p == s) && all_together classes pairs) → (if b then Proved s (used.Pairs pairs) else Open) ≡ Proved r w → StaysCounted classes p (Proved s (used.Pairs pairs)) r w
    at true is e =
        let same : s ≡ r = cc in
        let rests : w ≡ used.Pairs pairs = cc in
        let parts = and_parts (least_of classes p == s) (all_together classes pairs) (sym is) in
        StaysListed pairs (ap (λ (q : ℕ). Proved q (used.Pairs pairs)) same) rests (eqb-true (least_of classes p) s parts.0 ∙ same) parts.1
    at false is e = cc

pub length_lasting : (classes : Classes) (marks : List Mark) → length (lasting_marks classes marks) ≡ length marks
length_lasting classes marks = length-map-range_with_len (λ p. lasting classes p (slice_index_or marks p Open)) 0 (length marks)

pub lasting_at : (classes : Classes) (marks : List Mark) (p : ℕ) → slice_index_or (lasting_marks classes marks) p Open ≡ lasting classes p (slice_index_or marks p Open)
lasting_at classes marks p = ⊎_elim
    (λ (lt : p < length marks). get_or-map-range_with_len (λ q. lasting classes q (slice_index_or marks q Open)) 0 (length marks) p p Open lt (omega arith))
    (λ (past : length marks ≤ p). get_or_past (lasting_marks classes marks) p Open (omega (arith, past, length_lasting classes marks)) ∙ ap (lasting classes p) (sym (get_or_past marks p Open past)))
    (cases_lt p (length marks))

-- a split goes over the marks, one by one
pub record AreLasting (classes : Classes) (i : ℕ) (before now : List Mark) : Type 0 where
  pub many : length now ≡ length before
  pub done : (q : ℕ) → q < i → slice_index_or now q Open ≡ lasting classes q (slice_index_or before q Open)
  pub rest : (q : ℕ) → i ≤ q → slice_index_or now q Open ≡ slice_index_or before q Open

-- the next one stays as it is
pub one_stays : (classes : Classes) (i : ℕ) (before now : List Mark) (m d : Mark) → AreLasting classes i before now → i < length now → m ≡ slice_index_or now i d → lasting classes i m ≡ m → AreLasting classes (i + 1) before now
one_stays classes i before now m d is lt named e =
    let at : m ≡ slice_index_or now i Open = named ∙ get_or_default now i d Open lt in
    let here : slice_index_or now i Open ≡ lasting classes i (slice_index_or before i Open) = sym at ∙ sym e ∙ ap (lasting classes i) (at ∙ is.rest i (omega arith)) in
    record {
      many = is.many;
      done = λ q le. ⊎_elim
          (λ (same : q ≡ i). ap (λ (n : ℕ). slice_index_or now n Open) same ∙ here ∙ ap (λ (n : ℕ). lasting classes n (slice_index_or before n Open)) (sym same))
          (λ (ne : q ≡ i → ⊥). is.done q (omega arith))
          (cases_eq q i);
      rest = λ q le. is.rest q (omega arith);
    }

-- or it is open now
pub one_opens : (classes : Classes) (i : ℕ) (before now : List Mark) (m d : Mark) → AreLasting classes i before now → i < length now → m ≡ slice_index_or now i d → lasting classes i m ≡ Open → AreLasting classes (i + 1) before (set now i Open)
one_opens classes i before now m d is lt named e =
    let at : m ≡ slice_index_or before i Open = named ∙ get_or_default now i d Open lt ∙ is.rest i (omega arith) in
    let here : Open ≡ lasting classes i (slice_index_or before i Open) = sym e ∙ ap (lasting classes i) at in
    record {
      many = length-set now i Open ∙ is.many;
      done = λ q le. ⊎_elim
          (λ (same : q ≡ i). ap (λ (n : ℕ). slice_index_or (set now i Open) n Open) same ∙ get_or-set_same now i Open Open lt ∙ here ∙ ap (λ (n : ℕ). lasting classes n (slice_index_or before n Open)) (sym same))
          (λ (ne : q ≡ i → ⊥). get_or-set_other now i q Open Open ne ∙ is.done q (omega arith))
          (cases_eq q i);
      rest = λ q le. get_or-set_other now i q Open Open (λ (same : q ≡ i). omega (arith, same, le)) ∙ is.rest q (omega arith);
    }

pub all_lasting : (classes : Classes) (i : ℕ) (before now : List Mark) → AreLasting classes i before now → length before ≤ i → now ≡ lasting_marks classes before
all_lasting classes i before now is all = ext_get_or Open now (lasting_marks classes before) (is.many ∙ sym (length_lasting classes before)) (λ q lt. is.done q (omega (arith, lt, is.many)) ∙ sym (lasting_at classes before q))
