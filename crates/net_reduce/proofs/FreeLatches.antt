-- A free latch is the least of its class: in frame 0 it may be either bit, whatever stands before it.
use Rattle.std.proofs.Common.{◌≡◌, ◌≢◌, ◌∙◌, ◌<◌, ◌≤◌, ◌+◌, ◌-◌, ⊎_elim, ℕ, List, ◌∷◌, length, set, get_or, ap, sym, subst, arith, Bool, true, false, true≢false, eq-eqb, get_or-take}
use Rattle.std.proofs.lemmas.Bool.{cases_eq, cases_lt}
use Rattle.std.proofs.lemmas.List.{get_or-map, length-set, get_or-set_same, get_or-set_other, get_or_append_left, get_or_default}
use Rattle.circ_model.specs.declared.netlist.Latch.{Latch}
use Rattle.circ_model.specs.declared.netlist.Reset.{Reset}
use Rattle.circ_model.specs.declared.netlist.Reset.TheVariants.{Free}
use Rattle.circ_model.specs.Netlist.{Netlist, leaf_variables, place_in}
use Rattle.circ_model.specs.Meaning.{Leaves, Pair, Path, IsRun, IsSoundPair, MayStartAt, leaf_bits, signed, bit, value, places_of, resets, state_at, inputs_at, left_leaves_at, row_at}
use Rattle.circ_model.specs.Runs.{first_bit, quiet_run}
use Rattle.circ_model.proofs.Order.{ordered, length_variables, leaf_variable, place_of_variable}
use Rattle.circ_model.proofs.Values.{value_obeys}
use Rattle.circ_model.proofs.Rows.{row_left, length_leaves, inputs_length}
use Rattle.circ_model.proofs.Paths.{quiet_is_run, length_quiet, left_reset_at, length_resets}
use Rattle.product_machine.specs.Cells.{no_latch}
use Rattle.product_machine.proofs.Sides.{latch_at, latch_variable, state_bit}
use Rattle.class_partition.specs.Classes.{Classes, ArePartition, AreOfGreatest, least_of, phase_of}
use Rattle.net_reduce.specs.Stub.{stub_of}
use Rattle.net_reduce.specs.Reduced.{stays, FreeLatchesStay}
use Rattle.net_reduce.proofs.Bare.{bare_places, bare_latches, bare_ties}
use Rattle.net_reduce.proofs.Replacing.{needed_holds}

-- the bits of a path's frame 0 at the constant, the inputs and the latches
first_bits : (pair : Pair) (path : Path) (q : ℕ) → IsSoundPair pair → q < length (leaf_variables pair.left) → bit (row_at pair path 0) q ≡ bit (leaf_bits (left_leaves_at pair path 0)) q
first_bits pair path q sound lt =
    row_left pair path 0 q (omega (arith, length_variables pair.left)) ∙ ap (value pair.left (left_leaves_at pair path 0)) (leaf_variable pair.left q lt)
    ∙ (value_obeys pair.left (left_leaves_at pair path 0) (ordered pair.left sound.left)).at_leaves q lt

first_latch : (pair : Pair) (path : Path) (i : ℕ) → length (inputs_at path 0) ≡ length pair.left.inputs → i < length pair.left.latches → bit (leaf_bits (left_leaves_at pair path 0)) (1 + length pair.left.inputs + i) ≡ bit path.start i
unfolding state_at
first_latch pair path i len lt = state_bit (left_leaves_at pair path 0) (length pair.left.inputs) i len ∙ get_or-take (length pair.left.latches) path.start i false lt

-- the quiet run with latch i set
abbrev raised : Pair → ℕ → Path
raised pair i = record { start = set (quiet_run pair 1).start i true; inputs = (quiet_run pair 1).inputs }

reset_of_latch : (pair : Pair) (i : ℕ) → i < length pair.left.latches → get_or (resets pair) i Free ≡ (latch_at pair.left i).reset
reset_of_latch pair i lt = left_reset_at pair i lt ∙ get_or-map (λ (l : Latch). l.reset) pair.left.latches i no_latch Free lt

raised_is_run : (pair : Pair) (i : ℕ) → pair.right ≡ stub_of pair.left → i < length pair.left.latches → (latch_at pair.left i).reset ≡ Free → IsRun pair (raised pair i)
raised_is_run pair i bare lt free =
    let quiet = quiet_is_run pair 1 in
    let start : List Bool = (quiet_run pair 1).start in
    record {
      is_path = record { start = length-set start i true ∙ quiet.is_path.start; inputs = quiet.is_path.inputs };
      reset = λ j less. ⊎_elim
          (λ (same : j ≡ i). subst (λ (r : Reset). MayStartAt r (bit (set start i true) j)) (sym (ap (λ (n : ℕ). get_or (resets pair) n Free) same ∙ reset_of_latch pair i lt ∙ free)) tt)
          (λ (other : j ≢ i). subst (MayStartAt (get_or (resets pair) j Free)) (sym (get_or-set_other start i j true false other)) (quiet.reset j (omega (arith, length-set start i true))))
          (cases_eq j i);
      ties = λ yes. bare_ties pair (raised pair i) bare;
    }

-- what stands before latch i is the same in both runs
same_before : (pair : Pair) (i r : ℕ) → IsSoundPair pair → i < length pair.left.latches → r < 1 + length pair.left.inputs + i → bit (row_at pair (quiet_run pair 1) 0) r ≡ bit (row_at pair (raised pair i) 0) r
same_before pair i r sound lt less =
    let quiet : Path = quiet_run pair 1 in
    let given : ℕ = length pair.left.inputs in
    let leaf : r < length (leaf_variables pair.left) = omega (arith, length_leaves pair.left) in
    let len = inputs_length pair quiet 0 (quiet_is_run pair 1).is_path (omega (arith, length_quiet pair 1)) in
    first_bits pair quiet r sound leaf
    ∙ ⊎_elim
    (λ (low : r < 1 + given).
    let a : Leaves = left_leaves_at pair quiet 0 in
    let b : Leaves = left_leaves_at pair (raised pair i) 0 in
    get_or_append_left (false ∷ a.inputs) a.state false r (omega arith) ∙ sym (get_or_append_left (false ∷ b.inputs) b.state false r (omega arith)))
    (λ (high : 1 + given ≤ r).
    let j : ℕ = r - (1 + given) in
    let at : r ≡ 1 + given + j = omega arith in
    rw at (first_latch pair quiet j len (omega arith) ∙ sym (get_or-set_other quiet.start i j true false (λ e. absurd (omega arith))) ∙ sym (first_latch pair (raised pair i) j len (omega arith))))
    (cases_lt r (1 + given))
    ∙ sym (first_bits pair (raised pair i) r sound leaf)

signed_apart : (s : Bool) → signed s false ≡ signed s true → ⊥
signed_apart true e = true≢false e
signed_apart false e = true≢false (sym e)

-- so it is no class's later place
pub free_is_least : (pair : Pair) (k : ℕ) (classes : Classes) (i : ℕ) → IsSoundPair pair → pair.right ≡ stub_of pair.left → ArePartition (places_of pair) classes → AreOfGreatest pair k classes
    → i < length pair.left.latches → (latch_at pair.left i).reset ≡ Free → least_of classes (1 + length pair.left.inputs + i) ≡ 1 + length pair.left.inputs + i
free_is_least pair k classes i sound bare is of lt free =
    let quiet : Path = quiet_run pair 1 in
    let p : ℕ = 1 + length pair.left.inputs + i in
    let leaf : p < length (leaf_variables pair.left) = omega (arith, length_leaves pair.left) in
    let room : p < places_of pair = omega (arith, bare_places pair bare, length_variables pair.left) in
    let r : ℕ = least_of classes p in
    let s : Bool = signed (phase_of classes r) (phase_of classes p) in
    let low = is.lower p room in
    let rows = length_quiet pair 1 in
    let runs = quiet_is_run pair 1 in
    let len = inputs_length pair quiet 0 runs.is_path (omega arith) in
    let raises = raised_is_run pair i bare lt free in
    let size : length quiet.start ≡ length pair.left.latches = runs.is_path.start ∙ bare_latches pair bare in
    let off : bit quiet.start i ≡ false = get_or-map first_bit (resets pair) i Free false (omega (arith, length_resets pair, bare_latches pair bare)) ∙ ap first_bit (reset_of_latch pair i lt ∙ free) in
    let on : bit (raised pair i).start i ≡ true = get_or-set_same quiet.start i true false (omega arith) in
    let below = needed_holds pair k classes p is of room quiet runs 0 (omega arith) ∙ ap (signed s) (first_bits pair quiet p sound leaf ∙ first_latch pair quiet i len lt ∙ off) in
    let above = needed_holds pair k classes p is of room (raised pair i) raises 0 (omega arith) ∙ ap (signed s) (first_bits pair (raised pair i) p sound leaf ∙ first_latch pair (raised pair i) i len lt ∙ on) in
    ⊎_elim (λ (same : r ≡ p). same) (λ (other : r ≢ p). absurd (signed_apart s (sym below ∙ same_before pair i r sound lt (omega arith) ∙ above))) (cases_eq r p)

pub free_stay : (pair : Pair) (k : ℕ) (classes : Classes) → IsSoundPair pair → pair.right ≡ stub_of pair.left → ArePartition (places_of pair) classes → AreOfGreatest pair k classes → FreeLatchesStay pair.left classes
free_stay pair k classes sound bare is of i d lt free =
    let net : Netlist = pair.left in
    let read : get_or net.latches i d ≡ latch_at net i = get_or_default net.latches i d no_latch lt in
    let q : ℕ = 1 + length net.inputs + i in
    let place : place_in net (latch_at net i).var ≡ q = place_of_variable net q (latch_at net i).var sound.left.once (omega (arith, length_variables net, length_leaves net)) (latch_variable net i lt) in
    let least = free_is_least pair k classes i sound bare is of lt (ap (λ (l : Latch). l.reset) (sym read) ∙ free) in
    ap (λ (l : Latch). stays net classes l.var) read ∙ eq-eqb (least_of classes (place_in net (latch_at net i).var)) (place_in net (latch_at net i).var) (ap (least_of classes) place ∙ least ∙ sym place)
