-- A literal and the one that stands for it have one value in every frame of every run of the netlist.
use Rattle.std.proofs.Common.{◌≡◌, ◌∙◌, ◌<◌, ◌/◌, ℕ, length, get_or, ap, sym, arith, Bool, false}
use Rattle.circ_model.specs.Netlist.{Netlist, IsDefined, variables, place_in}
use Rattle.circ_model.specs.Meaning.{Pair, Path, IsRun, IsSoundPair, literal, literal_value, is_odd, signed, bit, value, places_of, left_leaves_at, row_at}
use Rattle.circ_model.proofs.Literals.{half_literal, value_of_literal, signed_literal}
use Rattle.circ_model.proofs.Order.{place_of_variable}
use Rattle.circ_model.proofs.Rows.{row_left, defined_at}
use Rattle.circ_model.proofs.Greatest.{greatest_holds}
use Rattle.class_partition.specs.Classes.{Classes, ArePartition, AreOfGreatest, Pairs, least_of, phase_of, needed}
use Rattle.class_partition.proofs.Signs.{signed-self, signed-both}
use Rattle.class_partition.proofs.Partition.{needed_from_relative}
use Rattle.net_reduce.specs.Reduced.{replaced}

-- each literal has the value of the one that stands for it
abbrev pub Replaces : Netlist → Classes → (ℕ → Bool) → Type 0
Replaces net classes v = (lit : ℕ) → IsDefined net lit → literal_value v (replaced net classes lit) ≡ literal_value v lit

-- the phases pair a place with its class's least
needed_paired : (places : ℕ) (classes : Classes) (p : ℕ) → ArePartition places classes → p < places → Pairs classes (needed classes p).0 (needed classes p).1
needed_paired places classes p is lt =
    let r : ℕ = least_of classes p in (
      ap (least_of classes) (half_literal r false) ∙ is.fixed p lt ∙ ap (least_of classes) (sym (half_literal p (signed (phase_of classes r) (phase_of classes p)))),
      needed_from_relative classes classes.phase p (signed-self (phase_of classes r) ∙ sym (signed-self (phase_of classes p))),
    )

-- a place holds with its class's least in every frame of every run
pub needed_holds : (pair : Pair) (k : ℕ) (classes : Classes) (p : ℕ) → ArePartition (places_of pair) classes → AreOfGreatest pair k classes → p < places_of pair
    → (run : Path) → IsRun pair run → (t : ℕ) → t < length run.inputs → bit (row_at pair run t) (least_of classes p) ≡ signed (signed (phase_of classes (least_of classes p)) (phase_of classes p)) (bit (row_at pair run t) p)
needed_holds pair k classes p is of lt run runs t within =
    let r : ℕ = least_of classes p in
    let s : Bool = signed (phase_of classes r) (phase_of classes p) in
    let low = is.lower p lt in
    let half_r = half_literal r false in
    let half_p = half_literal p s in
    let held = greatest_holds pair k (literal r false) (literal p s) (of.reaches (literal r false) (literal p s) (omega arith) (omega arith) (needed_paired (places_of pair) classes p is lt)) run runs t within in
    sym (value_of_literal (row_at pair run t) r false) ∙ held ∙ value_of_literal (row_at pair run t) p s

pub replaces : (pair : Pair) (k : ℕ) (classes : Classes) → IsSoundPair pair → places_of pair ≡ length (variables pair.left) → ArePartition (places_of pair) classes → AreOfGreatest pair k classes
    → (run : Path) → IsRun pair run → (t : ℕ) → t < length run.inputs → Replaces pair.left classes (value pair.left (left_leaves_at pair run t))
replaces pair k classes sound size is of run runs t within lit defined =
    let v : ℕ → Bool = value pair.left (left_leaves_at pair run t) in
    let (q, lt, e) = defined_at pair.left lit defined in
    let p : ℕ = place_in pair.left (lit / 2) in
    let at : p ≡ q = place_of_variable pair.left q (lit / 2) sound.left.once lt e in
    let r : ℕ = least_of classes p in
    let s : Bool = signed (phase_of classes r) (phase_of classes p) in
    let room : p < places_of pair = omega arith in
    let low = is.lower p room in
    let own_value : bit (row_at pair run t) p ≡ v (lit / 2) = ap (bit (row_at pair run t)) at ∙ row_left pair run t q lt ∙ ap v e in
    let least_value : bit (row_at pair run t) r ≡ v (get_or (variables pair.left) r 0) = row_left pair run t r (omega arith) in
    let held : v (get_or (variables pair.left) r 0) ≡ signed s (v (lit / 2)) = sym least_value ∙ needed_holds pair k classes p is of room run runs t within ∙ ap (signed s) own_value in
    signed_literal v (get_or (variables pair.left) r 0) (signed s (is_odd lit)) ∙ ap (signed (signed s (is_odd lit))) held ∙ signed-both s (is_odd lit) (v (lit / 2))
