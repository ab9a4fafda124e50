-- The places of leaves and their bits, one place after another.
use Rattle.std.proofs.Common.{◌≡◌, ◌∙◌, ◌<◌, ◌≤◌, ◌+◌, ℕ, zero, suc, List, [], ◌∷◌, ◌++◌, length, take, drop, get_or, set, refl, ap, sym, arith, Bool, false, if◌then◌else◌, length-set}
use Rattle.std.specs.Prelude.{IsTrue}
use Rattle.std.proofs.lemmas.List.{append-nil, get_or_append_left, get_or_default, get_or_push, get_or-map, length-map, length-take-le, take-append-drop, take_all, take_more, take_more_set}
use Rattle.std.proofs.lemmas.List.Sums.{count_by_more_yes, sum_by-cons, sum_by-take-le}
use Rattle.circ_model.specs.Meaning.{bit}
use Rattle.product_machine.specs.declared.cell.Cell.{Cell}
use Rattle.product_machine.specs.declared.cell.Cell.TheVariants.{Low, Given, Held, Product}
use Rattle.leaf_rows.specs.Rows.{is_leaf, leaf_count, leaf_places, leaves_in}

-- a leaf counts for one
pub count_more : (c : Cell) (cs : List Cell) → leaf_count (c ∷ cs) ≡ (if is_leaf c then 1 else 0) + leaf_count cs
count_more c cs = sum_by-cons (λ (x : Cell). if is_leaf x then 1 else 0) c cs

-- the leaves of a list's cells and then those of what follows it
pub places_append : (p q : ℕ) (xs ys : List Cell) → p + length xs ≡ q → leaf_places p (xs ++ ys) ≡ leaf_places p xs ++ leaf_places q ys
unfolding leaf_places
places_append p q [] ys e = let i : p ≡ q = omega arith in ap (λ (n : ℕ). leaf_places n ys) i
places_append p q (Low ∷ xs) ys e = places_append (p + 1) q xs ys (omega arith)
places_append p q (Given ∷ xs) ys e = ap (λ (l : List ℕ). p ∷ l) (places_append (p + 1) q xs ys (omega arith))
places_append p q (Held start next ∷ xs) ys e = ap (λ (l : List ℕ). p ∷ l) (places_append (p + 1) q xs ys (omega arith))
places_append p q (Product a b ∷ xs) ys e = places_append (p + 1) q xs ys (omega arith)

pub length_places : (p : ℕ) (cs : List Cell) → length (leaf_places p cs) ≡ leaf_count cs
unfolding leaf_places
length_places p [] = refl
length_places p (Low ∷ cs) = length_places (p + 1) cs
length_places p (Given ∷ cs) = omega (arith, length_places (p + 1) cs, count_more Given cs)
length_places p (Held start next ∷ cs) = omega (arith, length_places (p + 1) cs, count_more (Held start next) cs)
length_places p (Product a b ∷ cs) = length_places (p + 1) cs

-- each is the place of a cell
places_below : (p : ℕ) (cs : List Cell) (i d : ℕ) → i < length (leaf_places p cs) → get_or (leaf_places p cs) i d < p + length cs
unfolding leaf_places
places_below p [] i d lt = absurd (omega arith)
places_below p (Low ∷ cs) i d lt = omega (arith, places_below (p + 1) cs i d lt)
places_below p (Given ∷ cs) zero d lt = omega arith
places_below p (Given ∷ cs) (suc i) d lt = omega (arith, places_below (p + 1) cs i d (omega (arith, lt)))
places_below p (Held start next ∷ cs) zero d lt = omega arith
places_below p (Held start next ∷ cs) (suc i) d lt = omega (arith, places_below (p + 1) cs i d (omega (arith, lt)))
places_below p (Product a b ∷ cs) i d lt = omega (arith, places_below (p + 1) cs i d lt)

-- what is read from the table of places
pub place_read : (items : List ℕ) (inside cs : List Cell) (at x : ℕ) → items ≡ leaf_places 0 inside → inside ≡ cs → at < leaf_count cs → x ≡ get_or items at x → x ≡ get_or (leaf_places 0 cs) at 0
place_read items inside cs at x is e lt read =
    read ∙ ap (λ (l : List ℕ). get_or l at x) (is ∙ ap (leaf_places 0) e) ∙ get_or_default (leaf_places 0 cs) at x 0 (omega (arith, length_places 0 cs))

-- it is the place of a cell
pub place_inside : (cs : List Cell) (at x : ℕ) → at < leaf_count cs → x ≡ get_or (leaf_places 0 cs) at 0 → x < length cs
place_inside cs at x lt e = omega (arith, e, places_below 0 cs at 0 (omega (arith, length_places 0 cs)))

one_leaf : (p : ℕ) (c : Cell) → IsTrue (is_leaf c) → leaf_places p (c ∷ []) ≡ p ∷ []
unfolding leaf_places
one_leaf p Low h = absurd (let f : ⊥ = cc in f)
one_leaf p Given h = refl
one_leaf p (Held start next) h = refl
one_leaf p (Product a b) h = absurd (let f : ⊥ = cc in f)

no_leaf : (p : ℕ) (c : Cell) → is_leaf c ≡ false → leaf_places p (c ∷ []) ≡ []
unfolding leaf_places
no_leaf p Low h = refl
no_leaf p Given h = absurd (let f : ⊥ = cc in f)
no_leaf p (Held start next) h = absurd (let f : ⊥ = cc in f)
no_leaf p (Product a b) h = refl

-- of one place more
places_more : (cs : List Cell) (p : ℕ) → p < length cs → leaf_places 0 (take (p + 1) cs) ≡ leaf_places 0 (take p cs) ++ leaf_places p (get_or cs p Low ∷ [])
places_more cs p lt =
    ap (leaf_places 0) (take_more cs p Low lt)
    ∙ places_append 0 p (take p cs) (get_or cs p Low ∷ []) (let e = length-take-le p cs (omega arith) in omega arith)

pub places_with : (cs : List Cell) (p : ℕ) → p < length cs → IsTrue (is_leaf (get_or cs p Low)) → leaf_places 0 (take (p + 1) cs) ≡ leaf_places 0 (take p cs) ++ (p ∷ [])
places_with cs p lt leaf = places_more cs p lt ∙ ap (λ (l : List ℕ). leaf_places 0 (take p cs) ++ l) (one_leaf p (get_or cs p Low) leaf)

pub places_without : (cs : List Cell) (p : ℕ) → p < length cs → is_leaf (get_or cs p Low) ≡ false → leaf_places 0 (take (p + 1) cs) ≡ leaf_places 0 (take p cs)
places_without cs p lt other = places_more cs p lt ∙ ap (λ (l : List ℕ). leaf_places 0 (take p cs) ++ l) (no_leaf p (get_or cs p Low) other) ∙ append-nil (leaf_places 0 (take p cs))

pub no_places : (cs : List Cell) → [] ≡ leaf_places 0 (take 0 cs)
unfolding leaf_places
no_places cs = refl

-- a leaf's place stands behind those of the leaves before it
place_at : (cs : List Cell) (p : ℕ) → p < length cs → IsTrue (is_leaf (get_or cs p Low)) → get_or (leaf_places 0 cs) (leaf_count (take p cs)) 0 ≡ p
place_at cs p lt leaf =
    let n : ℕ = leaf_count (take p cs) in
    let some : List ℕ = leaf_places 0 (take (p + 1) cs) in
    let rest : List ℕ = leaf_places (p + 1) (drop (p + 1) cs) in
    let all : leaf_places 0 cs ≡ some ++ rest =
    ap (leaf_places 0) (sym (take-append-drop (p + 1) cs))
    ∙ places_append 0 (p + 1) (take (p + 1) cs) (drop (p + 1) cs) (let e = length-take-le (p + 1) cs (omega arith) in omega arith) in
    let less : n < length some = omega (arith, length_places 0 (take (p + 1) cs), count_by_more_yes is_leaf cs p Low lt leaf) in
    ap (λ (l : List ℕ). get_or l n 0) all
    ∙ get_or_append_left some rest 0 n less
    ∙ ap (λ (l : List ℕ). get_or l n 0) (places_with cs p lt leaf)
    ∙ get_or_push (leaf_places 0 (take p cs)) p 0 n (length_places 0 (take p cs))

-- the number of leaves before a place is less than all, where a leaf stands there
pub leaf_before : (cs : List Cell) (p : ℕ) → p < length cs → IsTrue (is_leaf (get_or cs p Low)) → leaf_count (take p cs) < leaf_count cs
leaf_before cs p lt leaf = omega (arith, count_by_more_yes is_leaf cs p Low lt leaf, sum_by-take-le (λ (x : Cell). if is_leaf x then 1 else 0) cs (p + 1))

pub length_leaves : (cs : List Cell) (row : List Bool) → length (leaves_in cs row) ≡ leaf_count cs
length_leaves cs row = length-map (leaf_places 0 cs) (bit row) ∙ length_places 0 cs

-- a leaf's bit stands behind those of the leaves before it
pub leaf_bit : (cs : List Cell) (row : List Bool) (p : ℕ) → p < length cs → IsTrue (is_leaf (get_or cs p Low)) → bit (leaves_in cs row) (leaf_count (take p cs)) ≡ bit row p
leaf_bit cs row p lt leaf =
    get_or-map (bit row) (leaf_places 0 cs) (leaf_count (take p cs)) 0 false (omega (arith, length_places 0 cs, leaf_before cs p lt leaf))
    ∙ ap (bit row) (place_at cs p lt leaf)

-- after the first leaves: so many bits are written
pub record ArePacked (cs : List Cell) (row : List Bool) (at : ℕ) (leaves : List Bool) : Type 0 where
  pub size : length leaves ≡ leaf_count cs
  pub done : take at leaves ≡ take at (leaves_in cs row)

pub packed_more : (cs : List Cell) (row : List Bool) (at place : ℕ) (leaves : List Bool) → at < leaf_count cs → place ≡ get_or (leaf_places 0 cs) at 0 → ArePacked cs row at leaves → ArePacked cs row (at + 1) (set leaves at (bit row place))
packed_more cs row at place leaves lt e is = record {
  size = length-set leaves at (bit row place) ∙ is.size;
  done = take_more_set leaves at (bit row place) (omega (arith, is.size))
      ∙ ap (λ (l : List Bool). l ++ (bit row place ∷ [])) is.done
      ∙ ap (λ (b : Bool). take at (leaves_in cs row) ++ (b ∷ [])) (ap (bit row) e ∙ sym (get_or-map (bit row) (leaf_places 0 cs) at 0 false (omega (arith, length_places 0 cs))))
      ∙ sym (take_more (leaves_in cs row) at false (omega (arith, length_leaves cs row)));
}

pub packed_all : (cs : List Cell) (row : List Bool) (at : ℕ) (leaves : List Bool) → leaf_count cs ≤ at → ArePacked cs row at leaves → leaves ≡ leaves_in cs row
packed_all cs row at leaves le is =
    sym (take_all at leaves (omega (arith, is.size))) ∙ is.done ∙ take_all at (leaves_in cs row) (omega (arith, length_leaves cs row))
