-- Where the free bits of a path stand in its rows.
use Rattle.std.proofs.Common.{◌≡◌, ◌∙◌, ◌<◌, ◌≤◌, ◌+◌, ◌-◌, ℕ, suc, false, List, [], ◌∷◌, length, get_or, ap, sym, subst, arith, zero-add}
use Rattle.std.proofs.lemmas.List.{get_or_default, get_or-take, get_or-drop}
use Rattle.circ_model.specs.Netlist.{Netlist, no_gate}
use Rattle.circ_model.specs.Meaning.{Pair, IsSoundPair, Path, IsPath, bit, inputs_at, latches_of, left_from, left_leaves_at, left_literal, left_place, places_of, right_from, right_leaves_at, right_literal, right_place, row_at, state_at}
use Rattle.circ_model.proofs.Order.{ordered}
use Rattle.circ_model.proofs.Rows.{inputs_length, length_own, length_row_left, row_left, rows_of, shared_bit}
use Rattle.product_machine.specs.declared.cell.Cell.{Cell}
use Rattle.product_machine.specs.declared.cell.Cell.TheVariants.{Low, Given, Held, Product}
use Rattle.product_machine.specs.Cells.{EachAt, Rests, cells, latch_cell, own_cells, partners}
use Rattle.product_machine.specs.Signals.{cell_at}
use Rattle.product_machine.proofs.Follow.{arranged, each_cell, left_placed, left_runs, length_cells, right_placed, right_runs}
use Rattle.product_machine.proofs.Sides.{each_side, latch_value}
use Rattle.frame_graph.specs.Cells.{IsInput, IsLatch}

-- what is read of the cells, and what it rests on
pub cell_read : (pair : Pair) (items : List Cell) (p : ℕ) (cell : Cell) → p < places_of pair → items ≡ cells pair → cell ≡ get_or items p cell → cell ≡ cell_at pair p
cell_read pair items p cell lt same is = is ∙ ap (λ (cs : List Cell). get_or cs p cell) same ∙ get_or_default (cells pair) p cell Low (omega (arith, length_cells pair))

pub rests_at : (pair : Pair) (p : ℕ) (cell : Cell) → IsSoundPair pair → p < places_of pair → cell ≡ cell_at pair p → Rests (places_of pair) p cell
rests_at pair p cell is lt e =
    subst (λ (n : ℕ). Rests n p cell) (length_cells pair)
    (subst (Rests (length (cells pair)) p) (sym e) (subst (λ (q : ℕ). Rests (length (cells pair)) q (cell_at pair p)) (zero-add p) ((arranged pair is).rests p (omega (arith, length_cells pair)))))

-- something of each cell, read at a place
each_at : (P : ℕ → Cell → Type 0) (pair : Pair) (p : ℕ) → EachAt P 0 (cells pair) → p < places_of pair → P p (cell_at pair p)
each_at P pair p each lt = subst (λ (q : ℕ). P q (cell_at pair p)) (zero-add p) (each p (omega (arith, length_cells pair)))

side : (P : ℕ → Cell → Type 0) (from : ℕ) (literal : ℕ → ℕ) (starts : List ℕ) (net : Netlist) → ((k : ℕ) → k < length net.latches → (c : Cell) → IsLatch c → P (from + k) c) → ((k : ℕ) (a b : ℕ) → P (from + length net.latches + k) (Product a b)) → EachAt P from (own_cells literal starts net)
side P from literal starts net latch gate =
    each_side P from literal starts net (λ k lt. latch k lt (latch_cell literal starts net.latches k) tt) (λ k lt. gate k (literal (get_or net.gates k no_gate).left) (literal (get_or net.gates k no_gate).right))

-- an input's place, and its bit
pub record IsInputBit (pair : Pair) (p : ℕ) : Type 0 where
  pub some : 0 < p
  pub within : p ≤ length pair.left.inputs
  pub bits : (path : Path) (t : ℕ) → IsPath pair path → t < length path.inputs → bit (row_at pair path t) p ≡ bit (inputs_at path t) (p - 1)

pub input_bit : (pair : Pair) (k : ℕ) → IsSoundPair pair → k < length pair.left.inputs → IsInputBit pair (1 + k)
input_bit pair k is lt = record {
  some = omega arith;
  within = omega arith;
  bits = λ path t on less.
      let e : 1 + k ≡ suc (1 + k - 1) = omega arith in
      row_left pair path t (1 + k) (omega (arith, length_row_left pair))
      ∙ shared_bit pair.left (left_leaves_at pair path t) (1 + k) (ordered pair.left is.left) (inputs_length pair path t on less) (omega arith)
      ∙ ap (bit (false ∷ inputs_at path t)) e;
}

pub input_at : (pair : Pair) (p : ℕ) → IsSoundPair pair → p < places_of pair → IsInput (cell_at pair p) → IsInputBit pair p
input_at pair p is lt input =
    each_at (λ q c. IsInput c → IsInputBit pair q) pair p
    (each_cell (λ q c. IsInput c → IsInputBit pair q) pair is (λ no. absurd no) (λ k less yes. input_bit pair k is less)
    (side (λ q c. IsInput c → IsInputBit pair q) (left_from pair) (left_literal pair) [] pair.left (λ k less c. no_input c) (λ k a b no. absurd no))
    (side (λ q c. IsInput c → IsInputBit pair q) (right_from pair) (right_literal pair) (partners pair) pair.right (λ k less c. no_input c) (λ k a b no. absurd no)))
    lt input
  where
    no_input : {X : Type 0} (c : Cell) → IsLatch c → IsInput c → X
    no_input Low never is = absurd never
    no_input Given never is = absurd never
    no_input (Held start next) latch never = absurd never
    no_input (Product a b) never is = absurd never

-- a latch's place, its position in the state, and its bit
pub record IsLatchBit (pair : Pair) (p j : ℕ) : Type 0 where
  pub within : j < latches_of pair
  pub bits : (path : Path) → IsPath pair path → 0 < length path.inputs → bit (row_at pair path 0) p ≡ bit path.start j

-- what the place of a latch tells of it: it is one of the left netlist's, or of the right one's after the left's gates
pub record IsLatchAt (pair : Pair) (p : ℕ) : Type 0 where
  pub after : 1 + length pair.left.inputs ≤ p
  pub left : p - 1 - length pair.left.inputs < length pair.left.latches → IsLatchBit pair p (p - 1 - length pair.left.inputs)
  pub gates : length pair.left.latches ≤ p - 1 - length pair.left.inputs → length pair.left.gates ≤ p - 1 - length pair.left.inputs
  pub right : length pair.left.latches ≤ p - 1 - length pair.left.inputs → IsLatchBit pair p (p - 1 - length pair.left.inputs - length pair.left.gates)

pub left_bit : (pair : Pair) (k : ℕ) → IsSoundPair pair → k < length pair.left.latches → IsLatchBit pair (left_from pair + k) k
unfolding state_at
left_bit pair k is lt = record {
  within = omega arith;
  bits = λ path on some.
      latch_value pair.left (left_place pair) (left_from pair) (length path.inputs) (rows_of pair path) (left_leaves_at pair path) 0 k (left_placed pair is)
      (left_runs pair path (length path.inputs) is on (omega arith)) some lt
      ∙ get_or-take (length pair.left.latches) path.start k false lt;
}

pub right_bit : (pair : Pair) (k : ℕ) → IsSoundPair pair → k < length pair.right.latches → IsLatchBit pair (right_from pair + k) (length pair.left.latches + k)
unfolding state_at
right_bit pair k is lt = record {
  within = omega arith;
  bits = λ path on some.
      latch_value pair.right (right_place pair) (right_from pair) (length path.inputs) (rows_of pair path) (right_leaves_at pair path) 0 k (right_placed pair is)
      (right_runs pair path (length path.inputs) is on (omega arith)) some lt
      ∙ get_or-drop (length pair.left.latches) path.start k false;
}

left_at : (pair : Pair) (k : ℕ) → IsSoundPair pair → k < length pair.left.latches → IsLatchAt pair (left_from pair + k)
left_at pair k is lt =
    let e : left_from pair + k - 1 - length pair.left.inputs ≡ k = omega arith in
    record {
      after = omega arith;
      left = λ _. subst (IsLatchBit pair (left_from pair + k)) (sym e) (left_bit pair k is lt);
      gates = λ le. absurd (omega arith);
      right = λ le. absurd (omega arith);
    }

right_at : (pair : Pair) (k : ℕ) → IsSoundPair pair → k < length pair.right.latches → IsLatchAt pair (right_from pair + k)
right_at pair k is lt =
    let i = is.inputs in
    let own = length_own pair.left in
    let e : right_from pair + k - 1 - length pair.left.inputs ≡ length pair.left.latches + length pair.left.gates + k = omega arith in
    let j : right_from pair + k - 1 - length pair.left.inputs - length pair.left.gates ≡ length pair.left.latches + k = omega arith in
    record {
      after = omega arith;
      left = λ less. absurd (omega arith);
      gates = λ le. omega arith;
      right = λ le. subst (IsLatchBit pair (right_from pair + k)) (sym j) (right_bit pair k is lt);
    }

pub latch_at : (pair : Pair) (p : ℕ) → IsSoundPair pair → p < places_of pair → IsLatch (cell_at pair p) → IsLatchAt pair p
latch_at pair p is lt latch =
    each_at (λ q c. IsLatch c → IsLatchAt pair q) pair p
    (each_cell (λ q c. IsLatch c → IsLatchAt pair q) pair is (λ no. absurd no) (λ k less no. absurd no)
    (side (λ q c. IsLatch c → IsLatchAt pair q) (left_from pair) (left_literal pair) [] pair.left (λ k less c yes on. left_at pair k is less) (λ k a b no. absurd no))
    (side (λ q c. IsLatch c → IsLatchAt pair q) (right_from pair) (right_literal pair) (partners pair) pair.right (λ k less c yes on. right_at pair k is less) (λ k a b no. absurd no)))
    lt latch

-- as the code finds it
pub left_position : (pair : Pair) (p q inputs lefts : ℕ) → IsLatchAt pair p → inputs ≡ length pair.left.inputs → lefts ≡ length pair.left.latches → q ≡ p - 1 - inputs → q < lefts → IsLatchBit pair p q
left_position pair p q inputs lefts at wide many is lt = let e : p - 1 - length pair.left.inputs ≡ q = omega arith in subst (IsLatchBit pair p) e (at.left (omega arith))

pub right_position : (pair : Pair) (p q inputs lefts gates : ℕ) → IsLatchAt pair p → inputs ≡ length pair.left.inputs → lefts ≡ length pair.left.latches → gates ≡ length pair.left.gates → q ≡ p - 1 - inputs → lefts ≤ q
    → (gates ≤ q) × IsLatchBit pair p (q - gates)
right_position pair p q inputs lefts gates at wide many most is le =
    let past : length pair.left.latches ≤ p - 1 - length pair.left.inputs = omega arith in
    let e : p - 1 - length pair.left.inputs - length pair.left.gates ≡ q - gates = omega arith in
    let after = at.gates past in
    (omega arith, subst (IsLatchBit pair p) e (at.right past))
