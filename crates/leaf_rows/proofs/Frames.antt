-- Rows of a pair's frames obey its cells.
use Rattle.std.proofs.Common.{◌≡◌, ◌∙◌, ◌<◌, ◌+◌, ℕ, List, length, get_or, ap, sym, subst, arith, refl, Bool, false, ◌&&◌}
use Rattle.circ_model.specs.Correspondence.{MaySplit, MaySplit.OfRun, MaySplit.OfPath}
use Rattle.circ_model.specs.Meaning.{Pair, IsSoundPair, Path, IsPath, row, row_at, bit, literal_value}
use Rattle.circ_model.proofs.Rows.{length_row, rows_of}
use Rattle.product_machine.specs.declared.cell.Cell.{Cell}
use Rattle.product_machine.specs.declared.cell.Cell.TheVariants.{Low, Given, Held, Product}
use Rattle.product_machine.specs.Cells.{cells, Fits}
use Rattle.product_machine.specs.Eval.{IsFrame}
use Rattle.product_machine.proofs.Follow.{length_cells, path_follows}
use Rattle.product_machine.proofs.OneRow.{one_frame, one_path, one_row}
use Rattle.leaf_rows.specs.Rows.{IsRowOf, ObeysAt}

obeys : (w : ℕ → ℕ → Bool) (bits : List Bool) (t p : ℕ) (c : Cell) → w t ≡ bit bits → Fits false w t p c → ObeysAt bits p c
obeys w bits t p Low e h = ap (λ (f : ℕ → Bool). f p) (sym e) ∙ h
obeys w bits t p Given e h = tt
obeys w bits t p (Held start next) e h = tt
obeys w bits t p (Product a b) e h = subst (λ (f : ℕ → Bool). f p ≡ (literal_value f a && literal_value f b)) e h

-- the row of each frame of a path
pub path_rows : (pair : Pair) (path : Path) (t : ℕ) → IsSoundPair pair → IsPath pair path → t < length path.inputs → IsRowOf (cells pair) (row_at pair path t)
path_rows pair path t is on lt = record {
  size = length_row pair path t ∙ sym (length_cells pair);
  obeys = λ p less. obeys (rows_of pair path) (row_at pair path t) t (0 + p) (get_or (cells pair) p Low) refl
      ((path_follows false pair path (length path.inputs) is on (λ n. absurd (let f : ⊥ = cc in f)) (omega arith)).fits t lt p less);
}

pub frame_rows : (pair : Pair) (state inputs : List Bool) → IsSoundPair pair → IsFrame pair state inputs → IsRowOf (cells pair) (row pair state inputs)
frame_rows pair state inputs is on = subst (IsRowOf (cells pair)) (one_row pair state inputs) (path_rows pair (one_frame state inputs) 0 is (one_path pair state inputs on) (omega arith))

pub split_rows : (pair : Pair) (k : ℕ) (bits : List Bool) → IsSoundPair pair → MaySplit pair k bits → IsRowOf (cells pair) bits
split_rows pair k bits is (OfRun run t run_of lt e) = subst (IsRowOf (cells pair)) (sym e) (path_rows pair run t is run_of.is_path lt)
split_rows pair k bits is (OfPath path on lt agrees e) = subst (IsRowOf (cells pair)) (sym e) (path_rows pair path k is on lt)
