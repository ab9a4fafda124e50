-- The table of places.
use Rattle.std.proofs.Common.{◌≡◌, ◌≢◌, ◌∙◌, ◌<◌, ◌≤◌, ◌+◌, ◌/◌, ⊎_elim, ℕ, suc, List, [], ◌∷◌, ◌++◌, length, map, set, get_or, refl, ap, ap₂, sym, subst, arith, Bool, if◌then◌else◌}
use Rattle.std.specs.List.{All}
use Rattle.std.proofs.lemmas.Bool.{cases_eq, cases_lt, lt-ltb, le-ltb}
use Rattle.std.proofs.lemmas.List.{get_or_default, get_or-set_same, get_or-set_other, length-set}
use Rattle.std.proofs.lemmas.List.Elements.{All-set}
use Rattle.circ_model.specs.declared.netlist.Latch.{Latch}
use Rattle.circ_model.specs.declared.netlist.Gate.{Gate}
use Rattle.product_machine.specs.declared.cell.Cell.{Cell}
use Rattle.product_machine.specs.declared.cell.Cell.TheVariants.{Held, Product}
use Rattle.circ_model.specs.Netlist.{Netlist, IsSound, AllDefined, IsDefined, variables, no_gate}
use Rattle.circ_model.specs.Meaning.{Pair, is_odd, literal as literal_of, IsSoundPair, literal_by, left_place, right_place, left_literal, right_literal, outputs_of, own_resets}
use Rattle.product_machine.specs.Cells.{own_cells, partners, no_latch, start_at, latch_cell, gate_cell}
use Rattle.circ_model.proofs.Rows.{left_at, right_at}
use Rattle.product_machine.specs.Tables.{IsTable, AreTables, outputs_by, moved, says}
use Rattle.product_machine.specs.States.{output_pair, output_pairs}
use Rattle.std.specs.List.{range_with_len}
use Rattle.std.proofs.lemmas.List.FromFn.{length-range_with_len, get_or-range_with_len}

-- one variable more
pub table_more : (net : Netlist) (shift q place : ℕ) (table : List ℕ) → IsSound net → q < length (variables net) → place < 2147483648 → place ≡ moved net shift q → IsTable net shift q table → IsTable net shift (q + 1) (set table (get_or (variables net) q 0) place)
table_more net shift q place table sound lt low e h = record {
  small = All-set (λ p. p < 2147483648) table (get_or (variables net) q 0) place low h.small;
  size = length-set table (get_or (variables net) q 0) place ∙ h.size;
  at = λ r less within. ⊎_elim
      (λ (s : r ≡ q). let room = sound.in_range q 0 lt in rw s (get_or-set_same table (get_or (variables net) q 0) place 0 (let z = h.size in omega arith) ∙ e))
      (λ (n : r ≢ q). get_or-set_other table (get_or (variables net) q 0) (get_or (variables net) r 0) place 0 (λ z. sound.once r q 0 (omega arith) lt z) ∙ h.at r (omega arith) within)
      (cases_eq r q);
}

pub place_low : (net : Netlist) (shift q : ℕ) → q < 1 + length net.inputs → q ≡ moved net shift q
place_low net shift q lt = sym (ap (λ (b : Bool). if b then q else q + shift) (lt-ltb q (1 + length net.inputs) lt))

pub place_high : (net : Netlist) (shift q : ℕ) → 1 + length net.inputs ≤ q → q + shift ≡ moved net shift q
place_high net shift q le = sym (ap (λ (b : Bool). if b then q else q + shift) (le-ltb q (1 + length net.inputs) le))

-- the cells of a netlist by its table
pub map_same : {X Y : Type 0} (f h : X → Y) (xs : List X) (d : X) → ((k : ℕ) → k < length xs → f (get_or xs k d) ≡ h (get_or xs k d)) → map f xs ≡ map h xs
map_same f h [] d e = refl
map_same f h (x ∷ xs) d e = ap₂ (λ y ys. y ∷ ys) (e 0 (omega arith)) (map_same f h xs d (λ k lt. e (suc k) (omega arith)))

defined_within : (net : Netlist) (n lit : ℕ) → IsSound net → n ≡ net.max_var + 1 → IsDefined net lit → lit / 2 < n
defined_within net n lit sound e (q, lt, is) = let h = sound.in_range q (lit / 2) lt in omega arith

-- two ways to place variables agree on those that are there
abbrev pub AgreeOn : Netlist → (ℕ → ℕ) → (ℕ → ℕ) → Type 0
AgreeOn net f h = (q : ℕ) → q < length (variables net) → f (get_or (variables net) q 0) ≡ h (get_or (variables net) q 0)

-- and so on each literal that is used
same_literal : (net : Netlist) (f h : ℕ → ℕ) (lit : ℕ) → AgreeOn net f h → IsDefined net lit → literal_by f lit ≡ literal_by h lit
same_literal net f h lit same (q, within, is) =
    let e : get_or (variables net) q 0 ≡ lit / 2 = get_or_default (variables net) q 0 (lit / 2) within ∙ is in
    ap (λ (p : ℕ). literal_of p (is_odd lit)) (subst (λ (v : ℕ). f v ≡ h v) e (same q within))

same_cells : (net : Netlist) (f h : ℕ → ℕ) (starts : List ℕ) → AllDefined net → AgreeOn net f h → own_cells (literal_by f) starts net ≡ own_cells (literal_by h) starts net
same_cells net f h starts defined same =
    ap₂ (λ (xs ys : List Cell). xs ++ ys)
    (map_same (latch_cell (literal_by f) starts net.latches) (latch_cell (literal_by h) starts net.latches) (range_with_len 0 (length net.latches)) 0 (λ i within.
    let lt : i < length net.latches = omega (arith, length-range_with_len 0 (length net.latches)) in
    let e : i ≡ get_or (range_with_len 0 (length net.latches)) i 0 = sym (get_or-range_with_len 0 (length net.latches) i 0 lt ∙ omega arith) in
    subst (λ (k : ℕ). latch_cell (literal_by f) starts net.latches k ≡ latch_cell (literal_by h) starts net.latches k) e
    (ap (Held (start_at starts (own_resets net) i)) (same_literal net f h (get_or net.latches i no_latch).next same (defined.latches i no_latch lt)))))
    (map_same (gate_cell (literal_by f)) (gate_cell (literal_by h)) net.gates no_gate (λ k lt. let d = defined.gates k no_gate lt in ap₂ Product (same_literal net f h (get_or net.gates k no_gate).left same d.0) (same_literal net f h (get_or net.gates k no_gate).right same d.1)))

same_nexts : (net : Netlist) (f h : ℕ → ℕ) → AllDefined net → AgreeOn net f h → map (λ (l : Latch). literal_by f l.next) net.latches ≡ map (λ (l : Latch). literal_by h l.next) net.latches
same_nexts net f h defined same = map_same (λ (l : Latch). literal_by f l.next) (λ (l : Latch). literal_by h l.next) net.latches no_latch (λ k lt. same_literal net f h (get_or net.latches k no_latch).next same (defined.latches k no_latch lt))

left_agrees : (pair : Pair) (left right : List ℕ) → IsSoundPair pair → AreTables pair.left pair.right left right → AgreeOn pair.left (says left) (left_place pair)
left_agrees pair left right is t q lt =
    t.is_left.at q lt lt ∙ ⊎_elim (λ (h : q < 1 + length pair.left.inputs). sym (place_low pair.left 0 q h)) (λ (h : 1 + length pair.left.inputs ≤ q). sym (place_high pair.left 0 q h) ∙ (let z : q + 0 ≡ q = omega arith in z)) (cases_lt q (1 + length pair.left.inputs))
    ∙ sym (left_at pair q is lt)

right_agrees : (pair : Pair) (left right : List ℕ) → IsSoundPair pair → AreTables pair.left pair.right left right → AgreeOn pair.right (says right) (right_place pair)
right_agrees pair left right is t q lt = t.is_right.at q lt lt ∙ sym (right_at pair q is lt)

pub left_cells : (pair : Pair) (left right : List ℕ) → IsSoundPair pair → AreTables pair.left pair.right left right → own_cells (literal_by (says left)) [] pair.left ≡ own_cells (left_literal pair) [] pair.left
left_cells pair left right is t = same_cells pair.left (says left) (left_place pair) [] is.left.all_defined (left_agrees pair left right is t)

pub right_cells : (pair : Pair) (left right : List ℕ) → IsSoundPair pair → AreTables pair.left pair.right left right → own_cells (literal_by (says right)) (partners pair) pair.right ≡ own_cells (right_literal pair) (partners pair) pair.right
right_cells pair left right is t = same_cells pair.right (says right) (right_place pair) (partners pair) is.right.all_defined (right_agrees pair left right is t)

pub left_nexts : (pair : Pair) (left right : List ℕ) → IsSoundPair pair → AreTables pair.left pair.right left right → map (λ (l : Latch). literal_by (says left) l.next) pair.left.latches ≡ map (λ (l : Latch). left_literal pair l.next) pair.left.latches
left_nexts pair left right is t = same_nexts pair.left (says left) (left_place pair) is.left.all_defined (left_agrees pair left right is t)

pub right_nexts : (pair : Pair) (left right : List ℕ) → IsSoundPair pair → AreTables pair.left pair.right left right → map (λ (l : Latch). literal_by (says right) l.next) pair.right.latches ≡ map (λ (l : Latch). right_literal pair l.next) pair.right.latches
right_nexts pair left right is t = same_nexts pair.right (says right) (right_place pair) is.right.all_defined (right_agrees pair left right is t)

-- the outputs by their tables
pub outputs_are : (pair : Pair) (left right : List ℕ) → IsSoundPair pair → AreTables pair.left pair.right left right → outputs_by (says left) (says right) pair.left.outputs pair.right.outputs ≡ output_pairs pair
outputs_are pair left right is t = map_same by_tables (output_pair pair) (range_with_len 0 (outputs_of pair)) 0 (λ k lt.
    let short : k < outputs_of pair = omega (arith, length-range_with_len 0 (outputs_of pair)) in
    let e : k ≡ get_or (range_with_len 0 (outputs_of pair)) k 0 = sym (get_or-range_with_len 0 (outputs_of pair) k 0 short ∙ omega arith) in
    subst (λ (j : ℕ). by_tables j ≡ output_pair pair j) e (one k short))
  where
    by_tables : ℕ → ℕ × ℕ
    by_tables j = (literal_by (says left) (get_or pair.left.outputs j 0), literal_by (says right) (get_or pair.right.outputs j 0))

    one : (j : ℕ) → j < outputs_of pair → by_tables j ≡ output_pair pair j
    one j lt =
        let same = is.outputs in
        ap₂ (λ (a b : ℕ). (a, b)) (same_literal pair.left (says left) (left_place pair) (get_or pair.left.outputs j 0) (left_agrees pair left right is t) (is.left.all_defined.outputs j 0 lt))
        (same_literal pair.right (says right) (right_place pair) (get_or pair.right.outputs j 0) (right_agrees pair left right is t) (is.right.all_defined.outputs j 0 (omega arith)))

pub output_within : (net : Netlist) (n : ℕ) → IsSound net → n ≡ net.max_var + 1 → All (λ (o : ℕ). o / 2 < n) net.outputs
output_within net n sound e k d lt = defined_within net n (get_or net.outputs k d) sound e (sound.all_defined.outputs k d lt)

-- each literal of a netlist is within its table
pub next_within : (net : Netlist) (n : ℕ) → IsSound net → n ≡ net.max_var + 1 → All (λ (l : Latch). l.next / 2 < n) net.latches
next_within net n sound e k d lt = defined_within net n (get_or net.latches k d).next sound e (sound.all_defined.latches k d lt)

pub left_within : (net : Netlist) (n : ℕ) → IsSound net → n ≡ net.max_var + 1 → All (λ (g : Gate). g.left / 2 < n) net.gates
left_within net n sound e k d lt = defined_within net n (get_or net.gates k d).left sound e (sound.all_defined.gates k d lt).0

pub right_within : (net : Netlist) (n : ℕ) → IsSound net → n ≡ net.max_var + 1 → All (λ (g : Gate). g.right / 2 < n) net.gates
right_within net n sound e k d lt = defined_within net n (get_or net.gates k d).right sound e (sound.all_defined.gates k d lt).1
