-- Places by variables, and the answers of a search for a place.
use Rattle.std.proofs.Common.{◌≡◌, ◌∙◌, ◌<◌, ◌≤◌, ◌+◌, ◌-◌, ℕ, List, ◌∷◌, length, get_or, ap, sym, subst, arith, length-append, Contains}
use Rattle.std.specs.Prelude.{Option, Some, None, IfSome, IfNone}
use Rattle.std.proofs.lemmas.List.{get_or_default}
use Rattle.circ_model.specs.declared.netlist.Signal.{Signal}
use Rattle.circ_model.specs.declared.netlist.Signal.TheVariants.{Left, Right}
use Rattle.circ_model.specs.Netlist.{Netlist, IsSound, variables, own}
use Rattle.circ_model.specs.Meaning.{Pair, IsSoundPair, places_of}
use Rattle.circ_model.proofs.Rows.{own_variable, length_row_left, variables_split}
use Rattle.product_machine.specs.Cells.{signals}
use Rattle.product_machine.specs.Signals.{signal_at}
use Rattle.product_machine.specs.Tables.{Places, IsOwnPlace, says}
use Rattle.product_machine.proofs.Signalling.{signal_left, signal_right, holds_left, holds_right}
use Rattle.product_machine.proofs.Tabling.{place_high}

-- what a table says of a latch or gate
pub record SaysOwn (net : Netlist) (shift v : ℕ) (table : List ℕ) : Type 0 where
  pub at : ℕ
  pub from : 1 + length net.inputs ≤ at
  pub within : at < length (variables net)
  pub is : get_or (variables net) at 0 ≡ v
  pub place : says table v ≡ at + shift
  pub room : v < length table

pub says_own : (net : Netlist) (shift v : ℕ) (table : List ℕ) → IsSound net → Places net shift table → Contains (own net) v → SaysOwn net shift v table
says_own net shift v table sound places (k, lt, is) =
    let q : ℕ = 1 + length net.inputs + k in
    let split = ap length (variables_split net) in
    let parts_of = length-append (0 ∷ net.inputs) (own net) in
    let within : q < length (variables net) = omega arith in
    let e : get_or (variables net) q 0 ≡ v = own_variable net q (omega arith) ∙ ap (λ (n : ℕ). get_or (own net) n 0) (let z : q - (1 + length net.inputs) ≡ k = omega arith in z) ∙ get_or_default (own net) k 0 v lt ∙ is in
    let top = sound.in_range q 0 within in
    let size = places.size in
    record {
      at = q;
      from = omega arith;
      within = within;
      is = e;
      place = ap (says table) (sym e) ∙ places.at q within within ∙ sym (place_high net shift q (omega arith));
      room = omega arith;
    }

-- where the right side's own variables stand among its variables
pub record IsRightIndex (pair : Pair) (p q : ℕ) : Type 0 where
  pub within : q < length (variables pair.right)
  pub from : 1 + length pair.right.inputs ≤ q
  pub is : p ≡ q + length (own pair.left)

pub right_index : (pair : Pair) (p own_left : ℕ) → IsSoundPair pair → own_left ≡ length (own pair.left) → p < places_of pair → length pair.left.inputs + own_left < p → IsRightIndex pair p (p - own_left)
right_index pair p own_left sound e lt high =
    let i = sound.inputs in
    let total = length_row_left pair in
    let split = ap length (variables_split pair.right) in
    let parts_of = length-append (0 ∷ pair.right.inputs) (own pair.right) in
    record { within = omega arith; from = omega arith; is = omega arith }

-- the answers of a search for a place, as answers of the pair
pub left_within : (pair : Pair) (net : Netlist) (v : ℕ) (o : Option ℕ) → net ≡ pair.left → IfSome o (IsOwnPlace net 0 v) → IfSome o (λ p. p < places_of pair)
left_within pair net v None e h = tt
left_within pair net v (Some p) e h = let w = h.within in let n = ap (λ (x : Netlist). length (variables x)) e in omega arith

pub left_found : (pair : Pair) (net : Netlist) (v : ℕ) (s : Signal) (o : Option ℕ) → net ≡ pair.left → s ≡ Left v → IfSome o (IsOwnPlace net 0 v) → IfSome o (λ p. signal_at pair p ≡ s)
left_found pair net v s None e at h = tt
left_found pair net v s (Some p) e at h =
    let is : IsOwnPlace pair.left 0 v p = subst (λ (x : Netlist). IsOwnPlace x 0 v p) e h in
    let f = is.from in let w = is.within in
    signal_left pair p (omega arith) (omega arith) ∙ ap Left (ap (λ (q : ℕ). get_or (variables pair.left) q 0) (let z : p ≡ p - 0 = omega arith in z) ∙ is.is) ∙ sym at

pub left_none : (pair : Pair) (net : Netlist) (v : ℕ) (s : Signal) (o : Option ℕ) → net ≡ pair.left → s ≡ Left v → IfNone o (Contains (own net) v → ⊥) → IfNone o (Contains (signals pair) s → ⊥)
left_none pair net v s None e at h = λ c. h (subst (λ (x : Netlist). Contains (own x) v) (sym e) (holds_left pair v (subst (Contains (signals pair)) at c)))
left_none pair net v s (Some p) e at h = tt

pub right_within : (pair : Pair) (net : Netlist) (shift v : ℕ) (o : Option ℕ) → IsSoundPair pair → net ≡ pair.right → shift ≡ length (own pair.left) → IfSome o (IsOwnPlace net shift v) → IfSome o (λ p. p < places_of pair)
right_within pair net shift v None sound e len h = tt
right_within pair net shift v (Some p) sound e len h =
    let w = h.within in
    let n = ap (λ (x : Netlist). length (variables x)) e in
    let i = sound.inputs in
    let total = length_row_left pair in
    let split = ap length (variables_split pair.right) in
    let parts_of = length-append (0 ∷ pair.right.inputs) (own pair.right) in
    omega arith

pub right_found : (pair : Pair) (net : Netlist) (shift v : ℕ) (s : Signal) (o : Option ℕ) → IsSoundPair pair → net ≡ pair.right → shift ≡ length (own pair.left) → s ≡ Right v → IfSome o (IsOwnPlace net shift v) → IfSome o (λ p. signal_at pair p ≡ s)
right_found pair net shift v s None sound e len at h = tt
right_found pair net shift v s (Some p) sound e len at h =
    let is : IsOwnPlace pair.right shift v p = subst (λ (x : Netlist). IsOwnPlace x shift v p) e h in
    let f = is.from in let w = is.within in
    signal_right pair p (p - shift) sound (omega arith) (omega arith) (omega arith) ∙ ap Right is.is ∙ sym at

pub right_none : (pair : Pair) (net : Netlist) (v : ℕ) (s : Signal) (o : Option ℕ) → net ≡ pair.right → s ≡ Right v → IfNone o (Contains (own net) v → ⊥) → IfNone o (Contains (signals pair) s → ⊥)
right_none pair net v s None e at h = λ c. h (subst (λ (x : Netlist). Contains (own x) v) (sym e) (holds_right pair v (subst (Contains (signals pair)) at c)))
right_none pair net v s (Some p) e at h = tt
