-- The row of a state and a row of inputs, place by place.
use Rattle.std.proofs.Common.{◌≡◌, ◌≢◌, ⊎_elim, ◌∙◌, ◌<◌, ◌≤◌, ◌+◌, ◌/◌, ℕ, suc, List, [], ◌∷◌, length, set, get_or, refl, ap, ap₂, sym, subst, arith, Bool, false, ◌&&◌, zero-add}
use Rattle.std.proofs.lemmas.List.{get_or-take, get_or-drop, length-set, get_or-set_same, get_or-set_other, ext_get_or}
use Rattle.std.proofs.lemmas.Bool.{cases_eq}
use Rattle.std.proofs.lemmas.List.Elements.{All-cons, All-nil}
use Rattle.product_machine.specs.declared.cell.Cell.{Cell}
use Rattle.product_machine.specs.declared.cell.Cell.TheVariants.{Low, Given, Held, Product}
use Rattle.circ_model.proofs.Order.{ordered}
use Rattle.circ_model.proofs.Rows.{length_row, rows_of, row_left, shared_bit, length_row_left}
use Rattle.circ_model.proofs.Values.{literal_same}
use Rattle.circ_model.specs.Meaning.{bit, literal_value, Pair, IsSoundPair, Path, IsPath, row, row_at, state_at, left_place, right_place, left_literal, right_literal, left_from, right_from, left_leaves_at, right_leaves_at}
use Rattle.circ_model.specs.Netlist.{Netlist}
use Rattle.product_machine.proofs.Follow.{left_placed, right_placed, left_runs, right_runs, path_follows, arranged, each_cell}
use Rattle.product_machine.proofs.Sides.{latch_value, each_side}
use Rattle.product_machine.specs.Eval.{IsFrame, Ready}
use Rattle.product_machine.specs.Cells.{cells, partners, own_cells, EachAt, Fits, Rests}
use Rattle.circ_model.specs.Meaning.{places_of}
use Rattle.product_machine.proofs.Follow.{length_cells}

pub inside : (pair : Pair) (p : ℕ) → p < places_of pair → p < length (cells pair)
inside pair p lt = omega (arith, length_cells pair)

-- a state and a row of inputs as a path of one frame
abbrev pub one_frame : List Bool → List Bool → Path
one_frame state inputs = record { start = state; inputs = inputs ∷ [] }

pub one_path : (pair : Pair) (state inputs : List Bool) → IsFrame pair state inputs → IsPath pair (one_frame state inputs)
one_path pair state inputs is = record {
  start = is.state_length;
  inputs = All-cons (λ r. length r ≡ length pair.left.inputs) inputs [] is.input_length (All-nil (λ r. length r ≡ length pair.left.inputs));
}

pub one_row : (pair : Pair) (state inputs : List Bool) → row_at pair (one_frame state inputs) 0 ≡ row pair state inputs
unfolding state_at
one_row pair state inputs = refl

pub constant_bit : (pair : Pair) (state inputs : List Bool) → IsSoundPair pair → IsFrame pair state inputs → bit (row pair state inputs) 0 ≡ false
unfolding state_at
constant_bit pair state inputs is on =
    row_left pair (one_frame state inputs) 0 0 (omega (arith, length_row_left pair)) ∙ shared_bit pair.left (left_leaves_at pair (one_frame state inputs) 0) 0 (ordered pair.left is.left) on.input_length (omega arith)

pub input_bit : (pair : Pair) (state inputs : List Bool) (k : ℕ) → IsSoundPair pair → IsFrame pair state inputs → k < length pair.left.inputs → bit (row pair state inputs) (1 + k) ≡ bit inputs k
unfolding state_at
input_bit pair state inputs k is on lt =
    let e : 1 + k ≡ suc k = omega arith in
    row_left pair (one_frame state inputs) 0 (1 + k) (omega (arith, length_row_left pair)) ∙ shared_bit pair.left (left_leaves_at pair (one_frame state inputs) 0) (1 + k) (ordered pair.left is.left) on.input_length (omega arith)
    ∙ ap (bit (false ∷ inputs)) e

pub left_bit : (pair : Pair) (state inputs : List Bool) (k : ℕ) → IsSoundPair pair → IsFrame pair state inputs → k < length pair.left.latches → bit (row pair state inputs) (left_from pair + k) ≡ bit state k
unfolding state_at
left_bit pair state inputs k is on lt =
    let path : Path = one_frame state inputs in
    let runs = left_runs pair path 1 is (one_path pair state inputs on) (omega arith) in
    latch_value pair.left (left_place pair) (left_from pair) 1 (rows_of pair path) (left_leaves_at pair path) 0 k (left_placed pair is) runs (omega arith) lt
    ∙ get_or-take (length pair.left.latches) state k false lt

pub right_bit : (pair : Pair) (state inputs : List Bool) (k : ℕ) → IsSoundPair pair → IsFrame pair state inputs → k < length pair.right.latches → bit (row pair state inputs) (right_from pair + k) ≡ bit state (length pair.left.latches + k)
unfolding state_at
right_bit pair state inputs k is on lt =
    let path : Path = one_frame state inputs in
    let runs = right_runs pair path 1 is (one_path pair state inputs on) (omega arith) in
    latch_value pair.right (right_place pair) (right_from pair) 1 (rows_of pair path) (right_leaves_at pair path) 0 k (right_placed pair is) runs (omega arith) lt
    ∙ get_or-drop (length pair.left.latches) state k false

-- where a product's operands have their values, it gets its own
pub product_bit : (pair : Pair) (state inputs values : List Bool) (p a b : ℕ) → IsSoundPair pair → IsFrame pair state inputs → p < places_of pair → get_or (cells pair) p Low ≡ Product a b
    → ((q : ℕ) → q < p → bit values q ≡ bit (row pair state inputs) q) → (literal_value (bit values) a && literal_value (bit values) b) ≡ bit (row pair state inputs) p
unfolding state_at
product_bit pair state inputs values p a b is on lt e done =
    let path : Path = one_frame state inputs in
    let f = (path_follows false pair path 1 is (one_path pair state inputs on) (λ n. absurd (let f : ⊥ = cc in f)) (omega arith)).fits 0 (omega arith) p (inside pair p lt) in
    let r = (arranged pair is).rests p (inside pair p lt) in
    let g : Fits false (rows_of pair path) 0 (0 + p) (Product a b) = subst (Fits false (rows_of pair path) 0 (0 + p)) e f in
    let h : Rests (length (cells pair)) (0 + p) (Product a b) = subst (Rests (length (cells pair)) (0 + p)) e r in
    let z = zero-add p in
    let row' : List Bool = row pair state inputs in
    ap₂ (λ (x y : Bool). x && y) (literal_same (bit values) (bit row') a (done (a / 2) (omega (arith, h.0)))) (literal_same (bit values) (bit row') b (done (b / 2) (omega (arith, h.1))))
    ∙ sym g ∙ ap (bit row') z

-- the constant's cell
pub low_bit : (pair : Pair) (state inputs : List Bool) (p : ℕ) → IsSoundPair pair → IsFrame pair state inputs → p < places_of pair → get_or (cells pair) p Low ≡ Low → false ≡ bit (row pair state inputs) p
unfolding state_at
low_bit pair state inputs p is on lt e =
    let path : Path = one_frame state inputs in
    let f = (path_follows false pair path 1 is (one_path pair state inputs on) (λ n. absurd (let f : ⊥ = cc in f)) (omega arith)).fits 0 (omega arith) p (inside pair p lt) in
    let g : Fits false (rows_of pair path) 0 (0 + p) Low = subst (Fits false (rows_of pair path) 0 (0 + p)) e f in
    sym g ∙ ap (bit (row pair state inputs)) (zero-add p)

side_ready : (values r : List Bool) (from : ℕ) (literal : ℕ → ℕ) (starts : List ℕ) (net : Netlist) → ((k : ℕ) → k < length net.latches → bit values (from + k) ≡ bit r (from + k)) → EachAt (Ready values r) from (own_cells literal starts net)
side_ready values r from literal starts net h = each_side (Ready values r) from literal starts net h (λ k less. tt)

pub ready : (pair : Pair) (state inputs values : List Bool) → IsSoundPair pair → IsFrame pair state inputs → ((k : ℕ) → k < length pair.left.inputs → bit values (1 + k) ≡ bit inputs k)
    → ((k : ℕ) → k < length pair.left.latches → bit values (left_from pair + k) ≡ bit state k) → ((k : ℕ) → k < length pair.right.latches → bit values (right_from pair + k) ≡ bit state (length pair.left.latches + k))
    → EachAt (Ready values (row pair state inputs)) 0 (cells pair)
ready pair state inputs values is on i l r =
    each_cell (Ready values (row pair state inputs)) pair is tt (λ k lt. i k lt ∙ sym (input_bit pair state inputs k is on lt))
    (side_ready values (row pair state inputs) (left_from pair) (left_literal pair) [] pair.left (λ k lt. l k lt ∙ sym (left_bit pair state inputs k is on lt)))
    (side_ready values (row pair state inputs) (right_from pair) (right_literal pair) (partners pair) pair.right (λ k lt. r k lt ∙ sym (right_bit pair state inputs k is on lt)))

-- after the first p places
pub record IsWritten (pair : Pair) (state inputs : List Bool) (p : ℕ) (values : List Bool) : Type 0 where
  pub size : length values ≡ places_of pair
  pub done : (q : ℕ) → q < p → bit values q ≡ bit (row pair state inputs) q
  pub free : (k : ℕ) → k < places_of pair → p ≤ k → Ready values (row pair state inputs) k (get_or (cells pair) k Low)

pub begun : (pair : Pair) (state inputs values : List Bool) → length values ≡ places_of pair → EachAt (Ready values (row pair state inputs)) 0 (cells pair) → IsWritten pair state inputs 0 values
begun pair state inputs values size h = record {
  size = size;
  done = λ q lt. absurd (omega arith);
  free = λ k lt le. let z = zero-add k in subst (λ (m : ℕ). Ready values (row pair state inputs) m (get_or (cells pair) k Low)) z (h k (inside pair k lt));
}

ready_set : (values r : List Bool) (p k : ℕ) (b : Bool) (c : Cell) → k ≢ p → Ready values r k c → Ready (set values p b) r k c
ready_set values r p k b Low ne h = tt
ready_set values r p k b Given ne h = get_or-set_other values p k b false ne ∙ h
ready_set values r p k b (Held start next) ne h = get_or-set_other values p k b false ne ∙ h
ready_set values r p k b (Product x y) ne h = tt

pub written_set : (pair : Pair) (state inputs values : List Bool) (p : ℕ) (b : Bool) → p < places_of pair → IsWritten pair state inputs p values → b ≡ bit (row pair state inputs) p → IsWritten pair state inputs (p + 1) (set values p b)
written_set pair state inputs values p b lt h e = record {
  size = length-set values p b ∙ h.size;
  done = λ q less. ⊎_elim
      (λ (s : q ≡ p). rw s (get_or-set_same values p b false (let z = h.size in omega arith) ∙ e))
      (λ (n : q ≢ p). get_or-set_other values p q b false n ∙ h.done q (omega arith))
      (cases_eq q p);
  free = λ k less le. ready_set values (row pair state inputs) p k b (get_or (cells pair) k Low) (λ e. omega arith) (h.free k less (omega arith));
}

abbrev pub IsFreeCell : Cell → Type 0
IsFreeCell Low = ⊥
IsFreeCell Given = Unit {0}
IsFreeCell (Held start next) = Unit {0}
IsFreeCell (Product a b) = ⊥

ready_bit : (values r : List Bool) (p : ℕ) (c : Cell) → IsFreeCell c → Ready values r p c → bit values p ≡ bit r p
ready_bit values r p Low f h = absurd f
ready_bit values r p Given f h = h
ready_bit values r p (Held start next) f h = h
ready_bit values r p (Product a b) f h = absurd f

pub written_free : (pair : Pair) (state inputs values : List Bool) (p : ℕ) → p < places_of pair → IsWritten pair state inputs p values → IsFreeCell (get_or (cells pair) p Low) → IsWritten pair state inputs (p + 1) values
written_free pair state inputs values p lt h f = record {
  size = h.size;
  done = λ q less. ⊎_elim
      (λ (s : q ≡ p). rw s (ready_bit values (row pair state inputs) p (get_or (cells pair) p Low) f (h.free p lt (omega arith))))
      (λ (n : q ≢ p). h.done q (omega arith))
      (cases_eq q p);
  free = λ k less le. h.free k less (omega arith);
}

pub written_all : (pair : Pair) (state inputs values : List Bool) (p : ℕ) → places_of pair ≤ p → IsWritten pair state inputs p values → values ≡ row pair state inputs
unfolding state_at
written_all pair state inputs values p le h =
    ext_get_or false values (row pair state inputs) (h.size ∙ sym (length_row pair (one_frame state inputs) 0)) (λ i lt. h.done i (let s = h.size in omega arith))
