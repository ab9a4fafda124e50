-- What rests on a version rests on all of its needed pairs.
use Rattle.std.proofs.Common.{◌≡◌, ◌==◌, ◌&&◌, ◌↔◌, ◌∙◌, ◌<◌, ◌≤◌, ℕ, Bool, true, ltb, List, [], ◌∷◌, All, length, slice_index_or, ap, sym, subst, refl, arith, ⊎_elim}
use Rattle.std.proofs.lemmas.Bool.{and_parts, and_from, cases_eq, eq-eqb, eqb-true, lt-ltb}
use Rattle.std.proofs.lemmas.List.Elements.{All-nil, All-cons, All-head, All-tail, All-contains, All-contains_itself}
use Rattle.circ_model.specs.Meaning.{Pair, bit, signed, row_at, places_of}
use Rattle.circ_model.specs.Correspondence.{HoldsIn}
use Rattle.class_partition.specs.declared.classes.Needed.{Needed}
use Rattle.class_partition.specs.Classes.{Classes, ArePartition, AreTogether, HoldIn, Passes, least_of, needed, phase_of}
use Rattle.class_partition.proofs.Partition.{needed_from_relative}
use Rattle.class_partition.proofs.SameClasses.{same_classes}
use Rattle.used_pairs.specs.Lists.{literals_of, AllHold, PassesBy, is_together, all_together}
use Rattle.verdict_stamp.specs.Laws.{AreAllNeeded, AreSplitFrom}
use Rattle.verdict_stamp.proofs.Listed.{passes_by}

all_from_each : (classes : Classes) (pairs : List Needed) → All (λ (u : Needed). is_together classes u ≡ true) pairs → all_together classes pairs ≡ true
all_from_each classes [] each = refl
all_from_each classes (u ∷ us) each =
    and_from (is_together classes u) (all_together classes us) (All-head (λ (v : Needed). is_together classes v ≡ true) u us each) (all_from_each classes us (All-tail (λ (v : Needed). is_together classes v ≡ true) u us each))

each_from_all : (classes : Classes) (pairs : List Needed) → all_together classes pairs ≡ true → All (λ (u : Needed). is_together classes u ≡ true) pairs
each_from_all classes [] all = All-nil (λ (v : Needed). is_together classes v ≡ true)
each_from_all classes (u ∷ us) all =
    let parts = and_parts (is_together classes u) (all_together classes us) all in
    All-cons (λ (v : Needed). is_together classes v ≡ true) u us parts.0 (each_from_all classes us parts.1)

-- a place with its class's least place
abbrev at_least : Classes → ℕ → Needed
at_least classes p = record { rep = least_of classes p; member = p }

-- the needed pairs are together
needed_together : (places : ℕ) (classes : Classes) (pairs : List Needed) → ArePartition places classes → AreAllNeeded places classes pairs → all_together classes pairs ≡ true
needed_together places classes pairs is all = all_from_each classes pairs (λ i d lt.
    let u : Needed = slice_index_or pairs i d in
    let n = (all u).0 (All-contains_itself pairs i d lt) in
    let low : least_of classes u.member ≤ u.member = is.lower u.member n.0.0 in
    let rep : u.rep ≡ least_of classes u.member = n.1 in
    let inside : u.rep < length classes.least = omega (arith, rep, low, n.0.0, is.least_len) in
    let member : u.member < length classes.least = omega (arith, n.0.0, is.least_len) in
    let same : least_of classes u.rep ≡ least_of classes u.member = ap (least_of classes) rep ∙ is.fixed u.member n.0.0 in
    and_from (ltb u.rep (length classes.least) && ltb u.member (length classes.least)) (least_of classes u.rep == least_of classes u.member)
    (and_from (ltb u.rep (length classes.least)) (ltb u.member (length classes.least)) (lt-ltb u.rep (length classes.least) inside) (lt-ltb u.member (length classes.least) member)) (eq-eqb (least_of classes u.rep) (least_of classes u.member) same))

-- where they hold in a row, so do the classes
classes_hold : (places : ℕ) (classes : Classes) (pairs : List Needed) (row : List Bool) → AreAllNeeded places classes pairs → AllHold classes.phase pairs row → HoldIn places classes row
classes_hold places classes pairs row all hold p lt = ⊎_elim
    (λ (e : least_of classes p ≡ p). needed_from_relative classes row p (ap (λ (q : ℕ). signed (phase_of classes q) (bit row q)) e))
    (λ (ne : least_of classes p ≡ p → ⊥). All-contains (λ (u : Needed). HoldsIn row (literals_of classes.phase u)) pairs (at_least classes p) hold ((all (at_least classes p)).1 ((lt, ne), refl)))
    (cases_eq (least_of classes p) p)

passes_by_all : (pair : Pair) (k : ℕ) (classes : Classes) (m : ℕ) (pairs : List Needed) → AreAllNeeded (places_of pair) classes pairs → Passes pair k classes m → PassesBy pair k classes.phase pairs (needed classes m)
passes_by_all pair k classes m pairs all passes = record {
  base = passes.base;
  step = λ path walks len hold. passes.step path walks len (λ t lt. classes_hold (places_of pair) classes pairs (row_at pair path t) all (hold t lt));
}

-- later classes that have them together have each place with the least place of its class
stays_with : (places : ℕ) (classes after : Classes) (pairs : List Needed) → AreAllNeeded places classes pairs → all_together after pairs ≡ true → (p : ℕ) → p < places → AreTogether after (least_of classes p) p
stays_with places classes after pairs all together p lt = ⊎_elim
    (λ (e : least_of classes p ≡ p). ap (least_of after) e)
    (λ (ne : least_of classes p ≡ p → ⊥).
    let u : Needed = at_least classes p in
    let is : is_together after u ≡ true = All-contains (λ (v : Needed). is_together after v ≡ true) pairs u (each_from_all after pairs together) ((all u).1 ((lt, ne), refl)) in
    eqb-true (least_of after u.rep) (least_of after u.member) (and_parts (ltb u.rep (length after.least) && ltb u.member (length after.least)) (least_of after u.rep == least_of after u.member) is).1)
    (cases_eq (least_of classes p) p)

whole_again : (places : ℕ) (classes after : Classes) (pairs : List Needed) → AreAllNeeded places classes pairs → AreSplitFrom places classes after → all_together after pairs ≡ true → after ≡ classes
whole_again places classes after pairs all is together = same_classes places after classes is.partition is.was is.phase is.apart (λ p q lp lq h.
    sym (stays_with places classes after pairs all together p lp) ∙ ap (least_of after) h ∙ stays_with places classes after pairs all together q lq)

pub version_is_all_pairs : (pair : Pair) (k : ℕ) (classes : Classes) (pairs : List Needed) → ArePartition (places_of pair) classes → AreAllNeeded (places_of pair) classes pairs
    → ((m : ℕ) → Passes pair k classes m ↔ PassesBy pair k classes.phase pairs (needed classes m))
    × ((after : Classes) → AreSplitFrom (places_of pair) classes after → (all_together after pairs ≡ true) ↔ (after ≡ classes))
version_is_all_pairs pair k classes pairs is all =
    let together : all_together classes pairs ≡ true = needed_together (places_of pair) classes pairs is all in (
      λ m. (passes_by_all pair k classes m pairs all, passes_by pair k classes m pairs is together),
      λ after from. (whole_again (places_of pair) classes after pairs all from, λ e. subst (λ (c : Classes). all_together c pairs ≡ true) (sym e) together),
    )
