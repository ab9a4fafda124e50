-- Outputs by their literals in a row.
use Rattle.std.proofs.Common.{◌≡◌, ◌∙◌, ◌<◌, ◌/◌, ◌+◌, ℕ, suc, ap, Bool, true, false, not, List, length, slice_index, inl, inr, Some, None, refl, sym, subst, arith}
use Rattle.std.proofs.lemmas.Bool.{cases_lt}
use mathlib.Core.Bool.{beq}
use Rattle.circ_model.specs.Meaning.{Pair, Path, IsSoundPair, IsPath, outputs_of, places_of, row, row_at, state_at, inputs_at, next_state}
use Rattle.circ_model.specs.Verdict.{OutputAgrees, IsFirstDifference}
use Rattle.circ_model.proofs.Paths.{state_next}
use Rattle.circ_model.proofs.Rows.{left_literal_is, right_literal_is, left_value, right_value}
use Rattle.product_machine.specs.States.{output_pair}
use Rattle.trace_witness.specs.Replay.{AgreesIn, FirstInRow}

-- they stand in the row
pub left_within : (pair : Pair) (j : ℕ) → IsSoundPair pair → j < outputs_of pair → (output_pair pair j).0 / 2 < places_of pair
left_within pair j sound lt = left_literal_is pair (slice_index pair.left.outputs j) sound (sound.left.all_defined.outputs j 0 lt)

pub right_within : (pair : Pair) (j : ℕ) → IsSoundPair pair → j < outputs_of pair → (output_pair pair j).1 / 2 < places_of pair
right_within pair j sound lt =
    let same = sound.outputs in
    right_literal_is pair (slice_index pair.right.outputs j) sound (sound.right.all_defined.outputs j 0 (omega arith))

-- outputs agree in a frame where they agree in its row, and nowhere else
pub row_to_outputs : (pair : Pair) (path : Path) (t j : ℕ) → IsSoundPair pair → IsPath pair path → t < length path.inputs → j < outputs_of pair → AgreesIn pair (row_at pair path t) j → OutputAgrees pair path t j
row_to_outputs pair path t j sound is within lt agree =
    let same = sound.outputs in
    sym (left_value pair path t (slice_index pair.left.outputs j) sound (sound.left.all_defined.outputs j 0 lt)) ∙ agree
    ∙ right_value pair path t (slice_index pair.right.outputs j) sound is within (sound.right.all_defined.outputs j 0 (omega arith))

pub outputs_to_row : (pair : Pair) (path : Path) (t j : ℕ) → IsSoundPair pair → IsPath pair path → t < length path.inputs → j < outputs_of pair → OutputAgrees pair path t j → AgreesIn pair (row_at pair path t) j
outputs_to_row pair path t j sound is within lt agree =
    let same = sound.outputs in
    left_value pair path t (slice_index pair.left.outputs j) sound (sound.left.all_defined.outputs j 0 lt) ∙ agree
    ∙ sym (right_value pair path t (slice_index pair.right.outputs j) sound is within (sound.right.all_defined.outputs j 0 (omega arith)))

-- bits that don't differ are equal
pub same_bit : (a b : Bool) → not (beq a b) ≡ false → a ≡ b
same_bit true true e = refl
same_bit false false e = refl
same_bit true false e = absurd cc
same_bit false true e = absurd cc

-- one more place of which a property holds
pub one_more : (P : ℕ → Type 0) (n : ℕ) → ((i : ℕ) → i < n → P i) → P n → (i : ℕ) → i < n + 1 → P i
one_more P n below here i lt = elim (cases_lt i n) [
  | inl less ↦ below i less
  | inr more ↦ let e : n ≡ i = omega arith in subst P e here
]

-- all outputs agree in each frame before this one
abbrev pub AgreeBefore : Pair → Path → ℕ → Type 0
AgreeBefore pair path t = (s i : ℕ) → s < t → i < outputs_of pair → OutputAgrees pair path s i

pub first_here : (pair : Pair) (path : Path) (t j : ℕ) (row : List Bool) → IsSoundPair pair → IsPath pair path → t < length path.inputs → AgreeBefore pair path t → row ≡ row_at pair path t → FirstInRow pair row (Some j) → IsFirstDifference pair path t j
first_here pair path t j row sound is lt before e here =
    let h = subst (λ (r : List Bool). FirstInRow pair r (Some j)) e here in
    record {
      frame = lt;
      output = h.0;
      differs = λ agree. h.1 (outputs_to_row pair path t j sound is lt h.0 agree);
      earlier_frames = before;
      earlier_outputs = λ i less. let within = h.0 in row_to_outputs pair path t i sound is lt (omega arith) (h.2 i less);
    }

pub none_here : (pair : Pair) (path : Path) (t : ℕ) (row : List Bool) → IsSoundPair pair → IsPath pair path → t < length path.inputs → AgreeBefore pair path t → row ≡ row_at pair path t → FirstInRow pair row None → AgreeBefore pair path (t + 1)
none_here pair path t row sound is lt before e here s i within small =
    let h = subst (λ (r : List Bool). FirstInRow pair r None) e here in
    one_more (λ (s : ℕ). OutputAgrees pair path s i) t (λ s less. before s i less small) (row_to_outputs pair path t i sound is lt small (h i small)) s within

-- a step from the state of a frame writes its values, and goes to the state of the next
pub frame_stepped : (pair : Pair) (path : Path) (t : ℕ) (state inputs values : List Bool) → state ≡ state_at pair path t → inputs ≡ inputs_at path t → values ≡ row pair state inputs → values ≡ row_at pair path t
frame_stepped pair path t state inputs values s i v = v ∙ ap (λ (x : List Bool). row pair x inputs) s ∙ ap (row pair (state_at pair path t)) i

pub state_stepped : (pair : Pair) (path : Path) (t : ℕ) (state inputs next : List Bool) → state ≡ state_at pair path t → inputs ≡ inputs_at path t → next ≡ next_state pair state inputs → next ≡ state_at pair path (t + 1)
state_stepped pair path t state inputs next s i n =
    let one : suc t ≡ t + 1 = omega arith in
    n ∙ ap (λ (x : List Bool). next_state pair x inputs) s ∙ ap (next_state pair (state_at pair path t)) i ∙ sym (state_next pair path t) ∙ ap (state_at pair path) one
