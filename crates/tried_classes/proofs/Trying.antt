-- Trying all paths of two rows: what the rows are, what a split keeps, and what nothing split means.
use Rattle.std.proofs.Common.{◌≡◌, ◌∙◌, ◌==◌, ◌<◌, ◌+◌, ◌/◌, ◌%◌, ◌^◌, ℕ, zero, suc, List, [], ◌∷◌, length, map, take, drop, Bool, false, replicate, zero-add, refl, ap, ap₂, sym, subst, arith, slice_index_or, length-take, length-drop}
use Rattle.std.proofs.Math.Nat.{div-div-eq-div-mul, pow-succ'}
use Rattle.std.specs.Int.{bit_at}
use Rattle.std.proofs.lemmas.List.{length-map, get_or-map, get_or-take, get_or-drop, ext_get_or}
use Rattle.std.proofs.lemmas.List.Elements.{All-cons, All-nil}
use Rattle.circ_model.specs.declared.netlist.Reset.TheVariants.{Free}
use Rattle.circ_model.specs.Meaning.{Pair, Path, IsPath, IsRun, IsInputRow, bit, latches_of, places_of, resets, inputs_at, state_at, row_at, row, next_state}
use Rattle.circ_model.specs.Runs.{first_bit, phases, path_of_bits, bits_of}
use Rattle.circ_model.specs.Correspondence.{MaySplit, MaySplit.OfRun}
use Rattle.circ_model.proofs.Enumerate.{every_path, every_bits, spelled_is_path}
use Rattle.class_partition.specs.Classes.{Classes, ArePartition, AreOfGreatest, HoldIn, IsStable, KeepsGreatest, IsSplit, one_class}
use Rattle.class_partition.proofs.Partition.{split_keeps, exact, passes_from_stable, may_split_after, one_class_keeps}
use Rattle.circ_model.proofs.Greatest.{may_split_agrees}
use Rattle.circ_model.proofs.Paths.{length_resets}
use Rattle.product_machine.proofs.Partners.{run_starts, starts_run}
use Rattle.tried_classes.specs.Plain.{free_bits, numbered_path, StartsRun, LeavesWhole}

-- the bits of a number, each by its place
pub bits_at : (n x k : ℕ) → k < n → bit (bits_of n x) k ≡ (bit_at x k == 1)
bits_at zero x k lt = absurd (omega arith)
bits_at (suc n) x zero lt = ap (λ (y : ℕ). y % 2 == 1) (let e : x ≡ x / 1 = omega arith in e)
bits_at (suc n) x (suc k) lt = bits_at n (x / 2) k (omega arith) ∙ ap (λ (y : ℕ). y % 2 == 1) (div-div-eq-div-mul x 2 (2 ^ k) ∙ ap (λ (y : ℕ). x / y) (sym (pow-succ' 2 k)))

pub length_bits : (n x : ℕ) → length (bits_of n x) ≡ n
length_bits zero x = refl
length_bits (suc n) x = ap suc (length_bits n (x / 2))

-- what was written is the path's start, and its rows of inputs
pub start_is : (pair : Pair) (number : ℕ) (start : List Bool) → length start ≡ latches_of pair → ((k : ℕ) → k < latches_of pair → bit start k ≡ (bit_at number (0 + k) == 1)) → start ≡ (numbered_path pair number).start
start_is pair number start size bits =
    let all : List Bool = bits_of (free_bits pair) number in
    ext_get_or false start (take (latches_of pair) all) (omega (arith, size, length-take (latches_of pair) all, length_bits (free_bits pair) number))
    (λ k lt. bits k (omega (arith, size)) ∙ ap (λ (j : ℕ). bit_at number j == 1) (zero-add k) ∙ sym (bits_at (free_bits pair) number k (omega (arith, size))) ∙ sym (get_or-take (latches_of pair) all k false (omega (arith, size))))

pub first_inputs_are : (pair : Pair) (number : ℕ) (inputs : List Bool) → length inputs ≡ length pair.left.inputs → ((k : ℕ) → k < length pair.left.inputs → bit inputs k ≡ (bit_at number (latches_of pair + k) == 1)) → inputs ≡ inputs_at (numbered_path pair number) 0
first_inputs_are pair number inputs size bits =
    let all : List Bool = bits_of (free_bits pair) number in
    let rest : List Bool = drop (latches_of pair) all in
    let w : ℕ = length pair.left.inputs in
    ext_get_or false inputs (take w rest) (omega (arith, size, length-take w rest, length-drop (latches_of pair) all, length_bits (free_bits pair) number))
    (λ k lt. bits k (omega (arith, size)) ∙ sym (bits_at (free_bits pair) number (latches_of pair + k) (omega (arith, size))) ∙ sym (get_or-take w rest k false (omega (arith, size)) ∙ get_or-drop (latches_of pair) all k false))

pub second_inputs_are : (pair : Pair) (number : ℕ) (inputs : List Bool) → length inputs ≡ length pair.left.inputs → ((k : ℕ) → k < length pair.left.inputs → bit inputs k ≡ (bit_at number (latches_of pair + length pair.left.inputs + k) == 1)) → inputs ≡ inputs_at (numbered_path pair number) 1
second_inputs_are pair number inputs size bits =
    let all : List Bool = bits_of (free_bits pair) number in
    let rest : List Bool = drop (latches_of pair) all in
    let w : ℕ = length pair.left.inputs in
    ext_get_or false inputs (take w (drop w rest)) (omega (arith, size, length-take w (drop w rest), length-drop w rest, length-drop (latches_of pair) all, length_bits (free_bits pair) number))
    (λ k lt.
    let at : latches_of pair + w + k ≡ latches_of pair + (w + k) = omega arith in
    bits k (omega (arith, size)) ∙ ap (λ (j : ℕ). bit_at number j == 1) at ∙ sym (bits_at (free_bits pair) number (latches_of pair + (w + k)) (omega (arith, size)))
    ∙ sym (get_or-take w (drop w rest) k false (omega (arith, size)) ∙ get_or-drop w rest k false ∙ get_or-drop (latches_of pair) all (w + k) false))

pub is_path : (pair : Pair) (number : ℕ) → IsPath pair (numbered_path pair number)
is_path pair number = (spelled_is_path pair 2 (bits_of (free_bits pair) number) (length_bits (free_bits pair) number)).0

pub two_rows : (pair : Pair) (number : ℕ) → length (numbered_path pair number).inputs ≡ 2
two_rows pair number = (spelled_is_path pair 2 (bits_of (free_bits pair) number) (length_bits (free_bits pair) number)).1

pub first_row_is : (pair : Pair) (path : Path) (start inputs : List Bool) → start ≡ path.start → inputs ≡ inputs_at path 0 → row pair start inputs ≡ row_at pair path 0
unfolding state_at
first_row_is pair path start inputs s i = ap₂ (row pair) s i

pub second_row_is : (pair : Pair) (path : Path) (start first state second : List Bool) → start ≡ path.start → first ≡ inputs_at path 0 → state ≡ next_state pair start first → second ≡ inputs_at path 1 → row pair state second ≡ row_at pair path 1
unfolding state_at
second_row_is pair path start first state second s f n i = ap₂ (row pair) (n ∙ ap₂ (next_state pair) s f) i

-- the first row of a run, and the second row after the classes held, may split
pub run_of : (pair : Pair) (number : ℕ) (start : List Bool) → start ≡ (numbered_path pair number).start → StartsRun pair start → IsRun pair (numbered_path pair number)
run_of pair number start e starts =
    let path : Path = numbered_path pair number in
    starts_run pair path (is_path pair number) (λ i lt. subst (StartsRun pair) e starts i (let size = (is_path pair number).start in omega arith))

pub starts_of : (pair : Pair) (number : ℕ) (start : List Bool) → start ≡ (numbered_path pair number).start → IsRun pair (numbered_path pair number) → StartsRun pair start
starts_of pair number start e run =
    subst (StartsRun pair) (sym e) (λ i lt. run_starts pair (numbered_path pair number) i run (let size = run.is_path.start in omega arith))

pub first_may : (pair : Pair) (number : ℕ) (start first : List Bool) → start ≡ (numbered_path pair number).start → first ≡ row_at pair (numbered_path pair number) 0 → StartsRun pair start → MaySplit pair 1 first
first_may pair number start first s f starts = OfRun (numbered_path pair number) 0 (run_of pair number start s starts) (omega (arith, two_rows pair number)) f

pub second_may : (pair : Pair) (number : ℕ) (classes : Classes) (first second : List Bool) → first ≡ row_at pair (numbered_path pair number) 0 → second ≡ row_at pair (numbered_path pair number) 1
    → KeepsGreatest pair 1 classes → HoldIn (places_of pair) classes first → MaySplit pair 1 second
second_may pair number classes first second f s keeps hold =
    subst (MaySplit pair 1) (sym s) (may_split_after pair 1 classes (numbered_path pair number) keeps (is_path pair number) (omega (arith, two_rows pair number))
    (λ t lt. let z : 0 ≡ t = omega arith in subst (λ (u : ℕ). HoldIn (places_of pair) classes (row_at pair (numbered_path pair number) u)) z (subst (HoldIn (places_of pair) classes) f hold)))

-- a split by such a row keeps the greatest correspondence whole
pub split_leaves : (pair : Pair) (n : ℕ) (before after : Classes) (bits : List Bool) → n ≡ places_of pair → IsSplit n before bits after → MaySplit pair 1 bits → KeepsGreatest pair 1 before → KeepsGreatest pair 1 after
split_leaves pair n before after bits e split may keeps = split_keeps pair 1 before bits after (may_split_agrees pair 1 bits may) keeps (subst (λ (m : ℕ). IsSplit m before bits after) e split)

pub whole_is : (pair : Pair) (number : ℕ) (classes : Classes) (start first second : List Bool) → start ≡ (numbered_path pair number).start → first ≡ row_at pair (numbered_path pair number) 0 → second ≡ row_at pair (numbered_path pair number) 1
    → (StartsRun pair start → HoldIn (places_of pair) classes first) → (HoldIn (places_of pair) classes first → HoldIn (places_of pair) classes second) → LeavesWhole pair classes number
whole_is pair number classes start first second s f g a b = record {
  first = λ run. subst (HoldIn (places_of pair) classes) f (a (starts_of pair number start s run));
  second = λ hold. subst (HoldIn (places_of pair) classes) g (b (subst (HoldIn (places_of pair) classes) (sym f) hold));
}

-- where no path divides a class, the classes are stable
every_whole : (pair : Pair) (classes : Classes) → ((number : ℕ) → number < 2 ^ free_bits pair → LeavesWhole pair classes number) → (path : Path) → IsPath pair path → length path.inputs ≡ 2
    → (IsRun pair path → HoldIn (places_of pair) classes (row_at pair path 0)) × (HoldIn (places_of pair) classes (row_at pair path 0) → HoldIn (places_of pair) classes (row_at pair path 1))
every_whole pair classes all = every_path pair 2 Whole (λ bits size. every_bits (free_bits pair) (λ bs. Whole (path_of_bits pair 2 bs)) (λ x lt. let w = all x lt in (w.first, w.second)) bits size)
  where
    Whole : Path → Type 0
    Whole path = (IsRun pair path → HoldIn (places_of pair) classes (row_at pair path 0)) × (HoldIn (places_of pair) classes (row_at pair path 0) → HoldIn (places_of pair) classes (row_at pair path 1))

abbrev doubled : Path → Path
doubled run = record { start = run.start; inputs = inputs_at run 0 ∷ inputs_at run 0 ∷ [] }

same_first_row : (pair : Pair) (run : Path) → row_at pair (doubled run) 0 ≡ row_at pair run 0
unfolding state_at
same_first_row pair run = refl

doubled_run : (pair : Pair) (run : Path) → IsRun pair run → length run.inputs ≡ 1 → IsRun pair (doubled run)
doubled_run pair run is len =
    let first : IsInputRow pair (inputs_at run 0) = is.is_path.inputs 0 [] (omega arith) in
    record {
      is_path = record { start = is.is_path.start; inputs = All-cons (IsInputRow pair) (inputs_at run 0) (inputs_at run 0 ∷ []) first (All-cons (IsInputRow pair) (inputs_at run 0) [] first (All-nil (IsInputRow pair))) };
      reset = is.reset;
      ties = is.ties;
    }

pub stable : (pair : Pair) (classes : Classes) → ((number : ℕ) → number < 2 ^ free_bits pair → LeavesWhole pair classes number) → IsStable pair 1 classes
stable pair classes all = record {
  base = λ run is len t lt.
      let twice = doubled_run pair run is len in
      let z : 0 ≡ t = omega arith in
      subst (λ (u : ℕ). HoldIn (places_of pair) classes (row_at pair run u)) z (subst (HoldIn (places_of pair) classes) (same_first_row pair run) ((every_whole pair classes all (doubled run) twice.is_path refl).0 twice));
  step = λ path is len hold. (every_whole pair classes all path is len).1 (hold 0 (omega arith));
}

pub greatest_is : (pair : Pair) (classes : Classes) → ArePartition (places_of pair) classes → KeepsGreatest pair 1 classes → ((number : ℕ) → number < 2 ^ free_bits pair → LeavesWhole pair classes number) → AreOfGreatest pair 1 classes
greatest_is pair classes partition keeps all = exact pair 1 classes partition keeps (passes_from_stable pair 1 classes (stable pair classes all))

-- the first state is the start of the quiet run, and its row the phases
pub first_state_is : (pair : Pair) (state : List Bool) → length state ≡ latches_of pair → ((k : ℕ) → k < latches_of pair → bit state k ≡ first_bit (slice_index_or (resets pair) k Free)) → state ≡ map first_bit (resets pair)
first_state_is pair state size bits =
    let n : length (resets pair) ≡ latches_of pair = length_resets pair in
    ext_get_or false state (map first_bit (resets pair)) (omega (arith, size, n, length-map (resets pair) first_bit))
    (λ k lt. bits k (omega (arith, size)) ∙ sym (get_or-map first_bit (resets pair) k Free false (omega (arith, size, n))))

pub phases_are : (pair : Pair) (state inputs : List Bool) → state ≡ map first_bit (resets pair) → inputs ≡ replicate (length pair.left.inputs) false → row pair state inputs ≡ phases pair
unfolding state_at
phases_are pair state inputs s i = ap₂ (row pair) s i

pub one_keeps : (pair : Pair) (values : List Bool) → values ≡ phases pair → KeepsGreatest pair 1 (one_class values)
one_keeps pair values e = subst (λ (v : List Bool). KeepsGreatest pair 1 (one_class v)) (sym e) (one_class_keeps pair 1)
