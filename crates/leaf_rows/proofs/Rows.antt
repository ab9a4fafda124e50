-- The row that leaves determine, one place after another.
use Rattle.std.proofs.Common.{◌≡◌, ◌∙◌, ◌<◌, ◌≤◌, ◌+◌, ◌/◌, ℕ, zero, suc, List, [], ◌∷◌, ◌++◌, length, take, drop, get_or, set, length-set, refl, ap, ap₂, sym, subst, arith, Bool, false, ◌&&◌, zero-add}
use Rattle.std.specs.Prelude.{IsTrue}
use Rattle.std.proofs.lemmas.Grind.{get_or_after_one}
use Rattle.std.proofs.lemmas.List.{get_or-take, take_all, take_more, take_more_set}
use Rattle.circ_model.specs.Meaning.{bit}
use Rattle.circ_model.proofs.Values.{literal_same}
use Rattle.product_machine.specs.declared.cell.Cell.{Cell}
use Rattle.product_machine.specs.declared.cell.Cell.TheVariants.{Low, Given, Held, Product}
use Rattle.product_machine.specs.Cells.{IsArranged, Rests}
use Rattle.leaf_rows.specs.Rows.{cell_value, is_leaf, leaf_count, leaves_in, row_by, row_on, IsRowOf, ObeysAt}
use Rattle.leaf_rows.proofs.Leaves.{count_more, leaf_bit}

-- with one cell more
row_more : (row leaves : List Bool) (xs : List Cell) (c : Cell) → row_on row leaves (xs ++ (c ∷ [])) ≡ row_on row leaves xs ++ (cell_value (row_on row leaves xs) (bit leaves (leaf_count xs)) c ∷ [])
unfolding row_on
row_more row leaves [] c = refl
row_more row leaves (Low ∷ xs) c = row_more (row ++ (false ∷ [])) leaves xs c
row_more row leaves (Given ∷ xs) c =
    let so : List Bool = row_on (row ++ (bit leaves 0 ∷ [])) (drop 1 leaves) xs in
    row_more (row ++ (bit leaves 0 ∷ [])) (drop 1 leaves) xs c
    ∙ ap (λ (b : Bool). so ++ (cell_value so b c ∷ [])) (get_or_after_one leaves (leaf_count xs) false ∙ ap (bit leaves) (sym (count_more Given xs)))
row_more row leaves (Held start next ∷ xs) c =
    let so : List Bool = row_on (row ++ (bit leaves 0 ∷ [])) (drop 1 leaves) xs in
    row_more (row ++ (bit leaves 0 ∷ [])) (drop 1 leaves) xs c
    ∙ ap (λ (b : Bool). so ++ (cell_value so b c ∷ [])) (get_or_after_one leaves (leaf_count xs) false ∙ ap (bit leaves) (sym (count_more (Held start next) xs)))
row_more row leaves (Product a b ∷ xs) c = row_more (row ++ (cell_value row (bit leaves 0) (Product a b) ∷ [])) leaves xs c

-- with one place more
row_by_more : (cs : List Cell) (leaves : List Bool) (p : ℕ) → p < length cs
    → row_by (take (p + 1) cs) leaves ≡ row_by (take p cs) leaves ++ (cell_value (row_by (take p cs) leaves) (bit leaves (leaf_count (take p cs))) (get_or cs p Low) ∷ [])
row_by_more cs leaves p lt = ap (λ (l : List Cell). row_by l leaves) (take_more cs p Low lt) ∙ row_more [] leaves (take p cs) (get_or cs p Low)

-- what a product multiplies stands before it
value_before : (row : List Bool) (leaf : Bool) (n p : ℕ) (c : Cell) → Rests n p c → cell_value row leaf c ≡ cell_value (take p row) leaf c
value_before row leaf n p Low r = refl
value_before row leaf n p Given r = refl
value_before row leaf n p (Held start next) r = refl
value_before row leaf n p (Product a b) r =
    ap₂ (λ (x y : Bool). x && y)
    (literal_same (bit row) (bit (take p row)) a (sym (get_or-take p row (a / 2) false r.0)))
    (literal_same (bit row) (bit (take p row)) b (sym (get_or-take p row (b / 2) false r.1)))

pub rests_at : (cs : List Cell) (p : ℕ) → IsArranged cs → p < length cs → Rests (length cs) p (get_or cs p Low)
rests_at cs p is lt = let z = zero-add p in subst (λ (n : ℕ). Rests (length cs) n (get_or cs p Low)) z (is.rests p lt)

-- after the first p places: so many leaves are read, and the row there is the one that they determine
pub record IsFilled (cs : List Cell) (leaves : List Bool) (p at : ℕ) (row : List Bool) : Type 0 where
  pub size : length row ≡ length cs
  pub count : at ≡ leaf_count (take p cs)
  pub done : take p row ≡ row_by (take p cs) leaves

pub filled_none : (cs : List Cell) (leaves row : List Bool) → length row ≡ length cs → IsFilled cs leaves 0 0 row
unfolding row_on
filled_none cs leaves row size = record { size = size; count = refl; done = refl }

pub filled_more : (cs : List Cell) (leaves : List Bool) (p at next : ℕ) (row : List Bool) (b : Bool) → IsArranged cs → p < length cs → IsFilled cs leaves p at row
    → b ≡ cell_value row (bit leaves at) (get_or cs p Low) → next ≡ leaf_count (take (p + 1) cs) → IsFilled cs leaves (p + 1) next (set row p b)
filled_more cs leaves p at next row b arranged lt is e count =
    let c : Cell = get_or cs p Low in
    let value : b ≡ cell_value (row_by (take p cs) leaves) (bit leaves (leaf_count (take p cs))) c =
    e ∙ value_before row (bit leaves at) (length cs) p c (rests_at cs p arranged lt)
    ∙ ap₂ (λ (r : List Bool) (n : ℕ). cell_value r (bit leaves n) c) is.done is.count in
    record {
      size = length-set row p b ∙ is.size;
      count = count;
      done = take_more_set row p b (omega (arith, is.size)) ∙ ap₂ (λ (r : List Bool) (x : Bool). r ++ (x ∷ [])) is.done value ∙ sym (row_by_more cs leaves p lt);
    }

pub filled_all : (cs : List Cell) (leaves : List Bool) (p at : ℕ) (row : List Bool) → length cs ≤ p → IsFilled cs leaves p at row → row ≡ row_by cs leaves
filled_all cs leaves p at row le is = sym (take_all p row (omega (arith, is.size))) ∙ is.done ∙ ap (λ (l : List Cell). row_by l leaves) (take_all p cs le)

-- a cell's bit in a row that obeys it
obeyed : (row : List Bool) (leaf : Bool) (n p : ℕ) (c : Cell) → Rests n p c → ObeysAt row p c → (IsTrue (is_leaf c) → leaf ≡ bit row p) → cell_value (take p row) leaf c ≡ bit row p
obeyed row leaf n p Low r h l = sym h
obeyed row leaf n p Given r h l = l refl
obeyed row leaf n p (Held start next) r h l = l refl
obeyed row leaf n p (Product a b) r h l = sym (value_before row leaf n p (Product a b) r) ∙ sym h

first_places : (cs : List Cell) (row : List Bool) → IsArranged cs → IsRowOf cs row → (p : ℕ) → p ≤ length cs → row_by (take p cs) (leaves_in cs row) ≡ take p row
unfolding row_on
first_places cs row arranged is zero le = refl
first_places cs row arranged is (suc p) le =
    let leaves : List Bool = leaves_in cs row in
    let c : Cell = get_or cs p Low in
    let lt : p < length cs = omega arith in
    let within : p < length row = omega (arith, is.size) in
    let z = zero-add p in
    let n : p + 1 ≡ suc p = omega arith in
    let value : cell_value (take p row) (bit leaves (leaf_count (take p cs))) c ≡ bit row p =
    obeyed row (bit leaves (leaf_count (take p cs))) (length cs) p c (rests_at cs p arranged lt) (subst (λ (m : ℕ). ObeysAt row m c) z (is.obeys p lt)) (leaf_bit cs row p lt) in
    subst (λ (m : ℕ). row_by (take m cs) leaves ≡ take m row) n
    (row_by_more cs leaves p lt
    ∙ ap (λ (r : List Bool). r ++ (cell_value r (bit leaves (leaf_count (take p cs))) c ∷ [])) (first_places cs row arranged is p (omega arith))
    ∙ ap (λ (x : Bool). take p row ++ (x ∷ [])) value
    ∙ sym (take_more row p false within))

-- a row that obeys the cells is the one that its leaves determine
pub only_row : (cs : List Cell) (row : List Bool) → IsArranged cs → IsRowOf cs row → row_by cs (leaves_in cs row) ≡ row
only_row cs row arranged is =
    ap (λ (l : List Cell). row_by l (leaves_in cs row)) (sym (take_all (length cs) cs (omega arith)))
    ∙ first_places cs row arranged is (length cs) (omega arith)
    ∙ take_all (length cs) row (omega (arith, is.size))
