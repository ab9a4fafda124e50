-- A netlist and what it is reduced to, on shared inputs with the free latches tied: the latches that stay go along with their
-- sources from frame to frame, so the outputs agree.
use Rattle.std.proofs.Common.{◌≡◌, ◌∙◌, ◌<◌, ◌+◌, ℕ, zero, suc, List, length, take, get_or, refl, ap, sym, subst, arith, Bool, false, length-take, get_or-take, get_or-drop}
use Rattle.std.specs.Prelude.{count_by}
use Rattle.std.proofs.lemmas.List.{get_or-map, length-map, take_all}
use Rattle.circ_model.specs.declared.netlist.Latch.{Latch}
use Rattle.circ_model.specs.declared.netlist.Reset.{Reset}
use Rattle.circ_model.specs.declared.netlist.Reset.TheVariants.{Zero, One, Free}
use Rattle.circ_model.specs.Netlist.{Netlist, IsDefined}
use Rattle.circ_model.specs.Meaning.{Leaves, Pair, Path, IsRun, IsSoundPair, MayStartAt, literal_value, bit, value, next_of, is_free, own_resets, free_latches, resets, state_at, inputs_at, left_leaves_at, right_leaves_at}
use Rattle.circ_model.proofs.FreeLatches.{free_latch, free_number}
use Rattle.circ_model.proofs.Rows.{inputs_length}
use Rattle.circ_model.proofs.Paths.{left_next, right_next, left_reset_at, right_reset_at}
use Rattle.product_machine.specs.Cells.{no_latch}
use Rattle.product_machine.proofs.Sides.{latch_at}
use Rattle.class_partition.specs.Classes.{Classes, ArePartition, AreOfGreatest}
use Rattle.circ_model.specs.Meaning.{places_of}
use Rattle.net_reduce.specs.Stub.{stub_of}
use Rattle.net_reduce.specs.Reduced.{stays, replaced, IsReduced, tied_pair, OutputsAgree}
use Rattle.net_reduce.proofs.Staying.{resets_of, staying, ComesFrom, comes_from, same_free}
use Rattle.net_reduce.proofs.Bare.{bare_places, bare_latches, bare_ties}
use Rattle.net_reduce.proofs.Replacing.{Replaces, replaces}
use Rattle.net_reduce.proofs.FreeLatches.{free_stay}
use Rattle.net_reduce.proofs.Values.{latch_bit, obeys_reduced, same_values}

-- What is given: a pair whose right side is a stub, the classes of its greatest correspondence, and what its left side is reduced to.
pub record IsReduction (pair : Pair) (k : ℕ) (classes : Classes) (r : Netlist) : Type 0 where
  pub sound : IsSoundPair pair
  pub bare : pair.right ≡ stub_of pair.left
  pub partition : ArePartition (places_of pair) classes
  pub greatest : AreOfGreatest pair k classes
  pub reduced : IsReduced pair.left classes r

-- the left side's part of a path
abbrev pub alone : Pair → Path → Path
alone pair run = record { start = take (length pair.left.latches) run.start; inputs = run.inputs }

alone_is_run : (pair : Pair) (r : Netlist) (run : Path) → pair.right ≡ stub_of pair.left → IsRun (tied_pair pair.left r) run → IsRun pair (alone pair run)
alone_is_run pair r run bare runs =
    let n : ℕ = length pair.left.latches in
    let size = runs.is_path.start in
    let short : length (take n run.start) ≡ n = omega (arith, length-take n run.start) in
    record {
      is_path = record { start = omega (arith, bare_latches pair bare); inputs = runs.is_path.inputs };
      reset = λ i lt.
          let less : i < n = omega arith in
          let same : get_or (resets (tied_pair pair.left r)) i Free ≡ get_or (resets pair) i Free = left_reset_at (tied_pair pair.left r) i less ∙ sym (left_reset_at pair i less) in
          subst (λ (x : Reset). MayStartAt x (bit (take n run.start) i)) same (subst (MayStartAt (get_or (resets (tied_pair pair.left r)) i Free)) (sym (get_or-take n run.start i false less)) (runs.reset i (omega arith)));
      ties = λ yes. bare_ties pair (alone pair run) bare;
    }

-- it has the left side's leaves
same_states : (pair : Pair) (r : Netlist) (run : Path) (t : ℕ) → (left_leaves_at (tied_pair pair.left r) run t).state ≡ (left_leaves_at pair (alone pair run) t).state
unfolding state_at
same_states pair r run zero =
    let n : ℕ = length pair.left.latches in
    sym (take_all n (take n run.start) (omega (arith, length-take n run.start)))
same_states pair r run (suc t) =
    left_next (tied_pair pair.left r) run t
    ∙ ap (λ (s : List Bool). next_of pair.left (record { state = s; inputs = inputs_at run t })) (same_states pair r run t)
    ∙ sym (left_next pair (alone pair run) t)

same_leaves : (pair : Pair) (r : Netlist) (run : Path) (t : ℕ) → left_leaves_at (tied_pair pair.left r) run t ≡ left_leaves_at pair (alone pair run) t
same_leaves pair r run t = ap leaves (same_states pair r run t)
  where
    leaves : List Bool → Leaves
    leaves s = record { state = s; inputs = inputs_at run t }

-- so each literal has the value of what stands for it in a run of the two as well
replaces_tied : (pair : Pair) (k : ℕ) (classes : Classes) (r : Netlist) (run : Path) (t : ℕ) → IsReduction pair k classes r → IsRun (tied_pair pair.left r) run → t < length run.inputs
    → Replaces pair.left classes (value pair.left (left_leaves_at (tied_pair pair.left r) run t))
replaces_tied pair k classes r run t is runs within =
    subst (λ (l : Leaves). Replaces pair.left classes (value pair.left l)) (sym (same_leaves pair r run t))
    (replaces pair k classes is.sound (bare_places pair is.bare) is.partition is.greatest (alone pair run) (alone_is_run pair r run is.bare runs) t within)

-- the source of a latch that stays
source : (pair : Pair) (k : ℕ) (classes : Classes) (r : Netlist) (i : ℕ) → IsReduction pair k classes r → i < length r.latches → ComesFrom (replaced pair.left classes) pair.left.latches r.latches i
source pair k classes r i is lt =
    let kept : List Latch = staying (stays pair.left classes) (replaced pair.left classes) pair.left.latches in
    let same : r.latches ≡ kept = is.reduced.latches in
    subst (λ (ls : List Latch). ComesFrom (replaced pair.left classes) pair.left.latches ls i) (sym same)
    (comes_from (stays pair.left classes) (replaced pair.left classes) pair.left.latches (free_stay pair k classes is.sound is.bare is.partition is.greatest) i (let n = ap length same in omega arith))

-- what latches with one reset start with, the free ones equal
start_equal : (r : Reset) (a b : Bool) → MayStartAt r a → MayStartAt r b → (r ≡ Free → a ≡ b) → a ≡ b
start_equal Zero a b x y free = x ∙ sym y
start_equal One a b x y free = x ∙ sym y
start_equal Free a b x y free = free refl

own_reset : (net : Netlist) (i : ℕ) → i < length net.latches → get_or (own_resets net) i Free ≡ (latch_at net i).reset
own_reset net i lt = get_or-map (λ (l : Latch). l.reset) net.latches i no_latch Free lt

-- a latch that stays starts as its source
starts_equal : (net r : Netlist) (literals : ℕ → ℕ) (run : Path) (k : ℕ) (from : ComesFrom literals net.latches r.latches k) → IsRun (tied_pair net r) run → k < length r.latches → bit run.start (length net.latches + k) ≡ bit run.start from.at
starts_equal net r literals run k from runs lt =
    let n : ℕ = length net.latches in
    let i : ℕ = from.at in
    let reset : Reset = (latch_at net i).reset in
    let pair : Pair = tied_pair net r in
    let size = runs.is_path.start in
    let within = from.within in
    let same : get_or (own_resets r) k Free ≡ reset = own_reset r k lt ∙ ap (λ (l : Latch). l.reset) from.is in
    start_equal reset (bit run.start (n + k)) (bit run.start i)
    (subst (λ (x : Reset). MayStartAt x (bit run.start (n + k))) (right_reset_at pair k ∙ same) (runs.reset (n + k) (omega arith)))
    (subst (λ (x : Reset). MayStartAt x (bit run.start i)) (left_reset_at pair i within ∙ own_reset net i within) (runs.reset i (omega arith)))
    (λ free.
    let right = free_latch r k lt (same ∙ free) in
    let left = free_latch net i within (own_reset net i within ∙ free) in
    let j : ℕ = count_by is_free (take i (own_resets net)) in
    let listed : j < length (free_latches r) = subst (λ (m : ℕ). m < length (free_latches r)) from.before right.listed in
    let at : get_or (free_latches r) j 0 ≡ k = ap (λ (m : ℕ). get_or (free_latches r) m 0) (sym from.before) ∙ right.is in
    ap (λ (m : ℕ). bit run.start (n + m)) (sym at) ∙ sym (runs.ties refl j left.listed listed) ∙ ap (bit run.start) left.is)

-- the latches that stay have the bits of their sources
abbrev StatesAgree : Netlist → Netlist → Path → ℕ → Type 0
StatesAgree net r run t = (k : ℕ) → k < length r.latches → bit (right_leaves_at (tied_pair net r) run t).state k ≡ value net (left_leaves_at (tied_pair net r) run t) (latch_at r k).var

-- where they have, the values of the netlist obey the reduced one
obeys_at : (pair : Pair) (k : ℕ) (classes : Classes) (r : Netlist) (run : Path) (t : ℕ) → IsReduction pair k classes r → IsRun (tied_pair pair.left r) run → t < length run.inputs → StatesAgree pair.left r run t
    → (lit : ℕ) → IsDefined r lit → literal_value (value r (right_leaves_at (tied_pair pair.left r) run t)) lit ≡ literal_value (value pair.left (left_leaves_at (tied_pair pair.left r) run t)) lit
obeys_at pair k classes r run t is runs within states =
    let both : Pair = tied_pair pair.left r in
    same_values pair.left r (left_leaves_at both run t) (right_leaves_at both run t) is.reduced.sound
    (obeys_reduced pair.left r classes (left_leaves_at both run t) (right_leaves_at both run t) is.sound.left is.reduced refl (inputs_length both run t runs.is_path within) states (replaces_tied pair k classes r run t is runs within))

-- they do in every frame
states_agree : (pair : Pair) (k : ℕ) (classes : Classes) (r : Netlist) (run : Path) (t : ℕ) → IsReduction pair k classes r → IsRun (tied_pair pair.left r) run → t < length run.inputs → StatesAgree pair.left r run t
unfolding state_at
states_agree pair k classes r run zero is runs within i lt =
    let net : Netlist = pair.left in
    let both : Pair = tied_pair net r in
    let from = source pair k classes r i is lt in
    get_or-drop (length net.latches) run.start i false ∙ starts_equal net r (replaced net classes) run i from runs lt ∙ sym (get_or-take (length net.latches) run.start from.at false from.within)
    ∙ sym (latch_bit net (left_leaves_at both run 0) from.at is.sound.left (inputs_length both run 0 runs.is_path within) from.within) ∙ ap (λ (l : Latch). value net (left_leaves_at both run 0) l.var) (sym from.is)
states_agree pair k classes r run (suc t) is runs within i lt =
    let net : Netlist = pair.left in
    let both : Pair = tied_pair net r in
    let from = source pair k classes r i is lt in
    let earlier : t < length run.inputs = omega arith in
    let left : Leaves = left_leaves_at both run t in
    let right : Leaves = right_leaves_at both run t in
    let old : Latch = latch_at net from.at in
    let values = obeys_at pair k classes r run t is runs earlier (states_agree pair k classes r run t is runs earlier) in
    ap (λ (s : List Bool). bit s i) (right_next both run t)
    ∙ get_or-map (λ (l : Latch). literal_value (value r right) l.next) r.latches i no_latch false lt
    ∙ values (latch_at r i).next (is.reduced.sound.all_defined.latches i no_latch lt)
    ∙ ap (λ (l : Latch). literal_value (value net left) l.next) from.is
    ∙ replaces_tied pair k classes r run t is runs earlier old.next (is.sound.left.all_defined.latches from.at no_latch from.within)
    ∙ sym (get_or-map (λ (l : Latch). literal_value (value net left) l.next) net.latches from.at no_latch false from.within)
    ∙ ap (λ (s : List Bool). bit s from.at) (sym (left_next both run t))
    ∙ sym (latch_bit net (left_leaves_at both run (suc t)) from.at is.sound.left (inputs_length both run (suc t) runs.is_path within) from.within)
    ∙ ap (λ (l : Latch). value net (left_leaves_at both run (suc t)) l.var) (sym from.is)

-- the netlist and its reduction are a pair, with as many free latches on both sides
pub is_pair : (pair : Pair) (k : ℕ) (classes : Classes) (r : Netlist) → IsReduction pair k classes r → IsSoundPair (tied_pair pair.left r)
is_pair pair k classes r is =
    let net : Netlist = pair.left in
    let stay = free_stay pair k classes is.sound is.bare is.partition is.greatest in
    record {
      left = is.sound.left;
      right = is.reduced.sound;
      inputs = sym (ap length is.reduced.inputs);
      outputs = sym (ap length is.reduced.outputs ∙ length-map net.outputs (replaced net classes));
      ties = λ yes. free_number 0 (own_resets net) ∙ sym (same_free (stays net classes) (replaced net classes) net.latches stay) ∙ ap (λ (ls : List Latch). count_by is_free (resets_of ls)) (sym is.reduced.latches) ∙ sym (free_number 0 (own_resets r));
    }

-- and its outputs agree for ever
pub outputs_agree : (pair : Pair) (k : ℕ) (classes : Classes) (r : Netlist) → IsReduction pair k classes r → OutputsAgree pair.left r
outputs_agree pair k classes r is j lt run runs t within =
    let net : Netlist = pair.left in
    let both : Pair = tied_pair net r in
    let same = ap length is.reduced.outputs ∙ length-map net.outputs (replaced net classes) in
    let at : get_or r.outputs j 0 ≡ replaced net classes (get_or net.outputs j 0) = ap (λ (os : List ℕ). get_or os j 0) is.reduced.outputs ∙ get_or-map (replaced net classes) net.outputs j 0 0 lt in
    sym (
    obeys_at pair k classes r run t is runs within (states_agree pair k classes r run t is runs within) (get_or r.outputs j 0) (is.reduced.sound.all_defined.outputs j 0 (omega arith))
    ∙ ap (literal_value (value net (left_leaves_at both run t))) at
    ∙ replaces_tied pair k classes r run t is runs within (get_or net.outputs j 0) (is.sound.left.all_defined.outputs j 0 lt)
    )
