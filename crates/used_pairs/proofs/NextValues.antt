-- Latches whose next literals are equal in a frame are equal in the next one.
use Rattle.std.proofs.Common.{◌≡◌, ◌∙◌, ◌<◌, ◌/◌, ℕ, suc, Bool, true, false, not, List, length, get_or, Some, refl, ap, sym, subst, arith, zero-add}
use Rattle.std.proofs.lemmas.List.{get_or_default}
use Rattle.circ_model.specs.Meaning.{Pair, Path, IsPath, IsSoundPair, bit, is_odd, signed, literal, literal_value, value_in, row_at, places_of}
use Rattle.circ_model.specs.Correspondence.{HoldsIn}
use Rattle.circ_model.proofs.Literals.{half_literal, value_of_literal, value_of_negated}
use Rattle.product_machine.specs.declared.cell.Cell.{Cell}
use Rattle.product_machine.specs.declared.cell.Cell.TheVariants.{Low, Given, Held, Product}
use Rattle.product_machine.specs.Cells.{EachAt, Fits, Rests, cells}
use Rattle.product_machine.specs.Signals.{cell_at}
use Rattle.product_machine.proofs.Follow.{arranged, length_cells, path_follows}
use Rattle.used_pairs.specs.Latches.{at_sign, next_at, next_in}

-- the cell that is read from a pair's cells is the one at the place
pub cell_read : (pair : Pair) (items : List Cell) (p : ℕ) (cell : Cell) → p < places_of pair → items ≡ cells pair → cell ≡ get_or items p cell → cell ≡ cell_at pair p
cell_read pair items p cell lt same is = is ∙ ap (λ (cs : List Cell). get_or cs p cell) same ∙ get_or_default (cells pair) p cell Low (omega (arith, length_cells pair))

-- what holds of each cell of a pair holds of the one at a place
each_at : (P : ℕ → Cell → Type 0) (pair : Pair) (p : ℕ) → EachAt P 0 (cells pair) → p < places_of pair → P p (cell_at pair p)
each_at P pair p each lt = subst (λ (q : ℕ). P q (cell_at pair p)) (zero-add p) (each p (omega (arith, length_cells pair)))

-- a latch's next literal is of a place of the pair
pub next_within : (pair : Pair) (p a : ℕ) → IsSoundPair pair → p < places_of pair → next_at pair p ≡ Some a → a / 2 < places_of pair
next_within pair p a sound lt e = subst (λ (n : ℕ). a / 2 < n) (length_cells pair) (of_cell (length (cells pair)) (cell_at pair p) (each_at (Rests (length (cells pair))) pair p (arranged pair sound).rests lt) e)
  where
    of_cell : (n : ℕ) (cell : Cell) → Rests n p cell → next_in cell ≡ Some a → a / 2 < n
    of_cell n Low h e = absurd (let f : ⊥ = cc in f)
    of_cell n Given h e = absurd (let f : ⊥ = cc in f)
    of_cell n (Held start next) h e = let same : next ≡ a = cc in subst (λ (lit : ℕ). lit / 2 < n) same h.0
    of_cell n (Product x y) h e = absurd (let f : ⊥ = cc in f)

-- a latch's value is its next literal's in the frame before
pub next_value : (pair : Pair) (path : Path) (t p a : ℕ) → IsSoundPair pair → IsPath pair path → suc t < length path.inputs → p < places_of pair → next_at pair p ≡ Some a
    → bit (row_at pair path (suc t)) p ≡ value_in (row_at pair path t) a
next_value pair path t p a sound is lt within e =
    of_cell (cell_at pair p) (each_at (Fits false w (suc t)) pair p ((path_follows false pair path (length path.inputs) sound is (λ yes. absurd (let f : ⊥ = cc in f)) (omega arith)).fits (suc t) lt) within) e
  where
    w : ℕ → ℕ → Bool
    w t p = bit (row_at pair path t) p

    of_cell : (cell : Cell) → Fits false w (suc t) p cell → next_in cell ≡ Some a → w (suc t) p ≡ literal_value (w t) a
    of_cell Low h e = absurd (let f : ⊥ = cc in f)
    of_cell Given h e = absurd (let f : ⊥ = cc in f)
    of_cell (Held start next) h e = let same : next ≡ a = cc in subst (λ (lit : ℕ). w (suc t) p ≡ literal_value (w t) lit) same h
    of_cell (Product x y) h e = absurd (let f : ⊥ = cc in f)

-- a literal's value at a sign
value_at_sign : (row : List Bool) (s : Bool) (lit : ℕ) → value_in row (at_sign s lit) ≡ signed s (value_in row lit)
value_at_sign row true lit = value_of_negated row lit
value_at_sign row false lit = refl

-- a literal's place is the same at either sign
pub half_at_sign : (s : Bool) (lit : ℕ) → at_sign s lit / 2 ≡ lit / 2
half_at_sign true lit = half_literal (lit / 2) (not (is_odd lit))
half_at_sign false lit = refl

-- two latches are equal, at a sign, after each frame in which their next literals are, at this sign
pub latches_equal : (pair : Pair) (path : Path) (t p q a b : ℕ) (s : Bool) → IsSoundPair pair → IsPath pair path → suc t < length path.inputs → p < places_of pair → q < places_of pair
    → next_at pair p ≡ Some a → next_at pair q ≡ Some b → HoldsIn (row_at pair path t) (a, at_sign s b) → HoldsIn (row_at pair path (suc t)) (literal p false, literal q s)
latches_equal pair path t p q a b s sound is lt lp lq ea eb equal =
    value_of_literal (row_at pair path (suc t)) p false
    ∙ next_value pair path t p a sound is lt lp ea
    ∙ equal
    ∙ value_at_sign (row_at pair path t) s b
    ∙ ap (signed s) (sym (next_value pair path t q b sound is lt lq eb))
    ∙ sym (value_of_literal (row_at pair path (suc t)) q s)
