-- Circuits that differ, or that induction can't decide, shown from the definitions.
use Rattle.std.proofs.Common.{◌≡◌, ◌∙◌, ◌<◌, ◌⊎◌, ℕ, zero, suc, Bool, true, false, List, [], ◌∷◌, length, slice_index_or, Contains, refl, ap, ap₂, sym, subst, arith, true≢false, inl}
use Rattle.std.proofs.lemmas.List.Elements.{All-from_recursion}
use Rattle.circ_model.specs.declared.netlist.Reset.TheVariants.{Free}
use Rattle.circ_model.specs.Meaning.{Path, IsRun, IsInputRow, MayStartAt, resets, bit, literal_value, value, left_leaves, right_leaves, inputs_at, state_at, value_at_level}
use Rattle.circ_model.specs.Correspondence.{Together, IsLeastOfClass}
use Rattle.circ_model.specs.Verdict.{AgreeBelow, OutputAgrees, IsPaired}
use Rattle.circ_model.specs.Rows.{toggle, zero as constant, toggle_and_zero, two_kept, ToggleIsUndecided, ToggleIsDifferent, KeptAreDifferent, ToggleFirstDiffers}
use Rattle.circ_model.proofs.Greatest.{greatest_holds}
use Rattle.circ_model.proofs.WorkedVerdicts.{never_together, one_bit, no_bits, short, long}

-- the toggling latch beside the constant: its run
run_is : IsRun toggle_and_zero (long (false ∷ []))
run_is = record { is_path = record { start = refl; inputs = All-from_recursion (IsInputRow toggle_and_zero) ([] ∷ [] ∷ []) (refl, (refl, tt)) }; reset = reset; ties = λ no. absurd (let f : ⊥ = cc in f) }
  where
    reset : (i : ℕ) → i < 1 → MayStartAt (slice_index_or (resets toggle_and_zero) i Free) (bit (false ∷ []) i)
    reset zero lt = refl
    reset (suc i) lt = absurd (omega arith)

start_is : (run : Path) → IsRun toggle_and_zero run → run.start ≡ false ∷ []
start_is run is =
    let (a, e) = one_bit run.start is.is_path.start in
    let at : a ≡ false = sym (ap (λ (xs : List Bool). bit xs 0) e) ∙ is.reset 0 (let h = is.is_path.start in omega arith) in
    e ∙ ap (λ (x : Bool). x ∷ []) at

-- in frame 0 both outputs are 0
agrees_at_0 : (run : Path) → IsRun toggle_and_zero run → 0 < length run.inputs → OutputAgrees toggle_and_zero run 0 0
unfolding state_at value_at_level
agrees_at_0 run is within =
    let given : inputs_at run 0 ≡ [] = no_bits (inputs_at run 0) (is.is_path.inputs 0 [] within) in
    ap₂ (λ (s i : List Bool). literal_value (value toggle (left_leaves toggle_and_zero s i)) 2) (start_is run is) given
    ∙ sym (ap₂ (λ (s i : List Bool). literal_value (value constant (right_leaves toggle_and_zero s i)) 0) (start_is run is) given)

agree_below_1 : AgreeBelow toggle_and_zero 1
agree_below_1 run is zero lt within zero below = agrees_at_0 run is within
agree_below_1 run is zero lt within (suc j) below = absurd (omega arith)
agree_below_1 run is (suc t) lt within j below = absurd (omega arith)

not_paired : (j : ℕ) → j < 1 → IsPaired toggle_and_zero 1 j → ⊥
unfolding state_at value_at_level
not_paired zero lt h = true≢false (greatest_holds toggle_and_zero 1 2 0 h (long (false ∷ [])) run_is 1 (omega arith))
not_paired (suc j) lt h = absurd (omega arith)

apart : (q : ℕ) → q < 1 → ¬ Together toggle_and_zero 1 q 1
unfolding state_at value_at_level
apart zero lt = never_together toggle_and_zero 1 0 1 (long (false ∷ [])) 0 1 run_is (omega arith) (omega arith) refl (λ e. true≢false (sym e))
apart (suc q) lt = absurd (omega arith)

least : (p : ℕ) → p < 2 → IsLeastOfClass toggle_and_zero 1 p (bit (true ∷ true ∷ []) p)
least zero lt = λ q less. absurd (omega arith)
least (suc zero) lt = apart
least (suc (suc p)) lt = absurd (omega arith)

unpaired_below : (j : ℕ) → Contains (0 ∷ []) j → (j < 1) × (IsPaired toggle_and_zero 1 j → ⊥)
unpaired_below j (zero, lt, is) = subst (λ (i : ℕ). (i < 1) × (IsPaired toggle_and_zero 1 i → ⊥)) is (omega arith, not_paired 0 (omega arith))
unpaired_below j (suc n, lt, is) = absurd (omega arith)

unpaired_others : (j : ℕ) → j < 1 → Contains (0 ∷ []) j ⊎ IsPaired toggle_and_zero 1 j
unpaired_others zero lt = inl (0, omega arith, refl)
unpaired_others (suc j) lt = absurd (omega arith)

pub toggle_is_undecided : ToggleIsUndecided
toggle_is_undecided = (
  agree_below_1,
  λ e. let h = ap length e in omega arith,
  record { rising = λ k lt. absurd (omega arith); below = unpaired_below; others = unpaired_others },
  (true ∷ true ∷ [], refl, least, refl),
)

-- in frame 1 the latch is 1
differs_at_1 : OutputAgrees toggle_and_zero (long (false ∷ [])) 1 0 → ⊥
unfolding state_at value_at_level
differs_at_1 e = true≢false e

pub toggle_is_different : ToggleIsDifferent
toggle_is_different = (
  omega arith,
  record {
    output = omega arith;
    shown = (long (false ∷ []), run_is, refl, differs_at_1);
    earlier_frames = agree_below_1;
    earlier_outputs = λ run is len i lt. absurd (omega arith);
  },
)

-- latches that are free may start at 0 and 1
kept_run : IsRun two_kept (short (false ∷ true ∷ []))
kept_run = record { is_path = record { start = refl; inputs = All-from_recursion (IsInputRow two_kept) ([] ∷ []) (refl, tt) }; reset = reset; ties = λ no. absurd (let f : ⊥ = cc in f) }
  where
    reset : (i : ℕ) → i < 2 → MayStartAt (slice_index_or (resets two_kept) i Free) (bit (false ∷ true ∷ []) i)
    reset zero lt = tt
    reset (suc zero) lt = tt
    reset (suc (suc i)) lt = absurd (omega arith)

kept_differ : OutputAgrees two_kept (short (false ∷ true ∷ [])) 0 0 → ⊥
unfolding state_at value_at_level
kept_differ e = true≢false (sym e)

pub kept_are_different : KeptAreDifferent
kept_are_different = (
  omega arith,
  record {
    output = omega arith;
    shown = (short (false ∷ true ∷ []), kept_run, refl, kept_differ);
    earlier_frames = λ run is t lt within j below. absurd (omega arith);
    earlier_outputs = λ run is len i lt. absurd (omega arith);
  },
)

abbrev three : Path
three = record { start = false ∷ []; inputs = [] ∷ [] ∷ [] ∷ [] }

three_differs : OutputAgrees toggle_and_zero three 1 0 → ⊥
unfolding state_at value_at_level
three_differs e = true≢false e

three_agrees : (s i : ℕ) → s < 1 → i < 1 → OutputAgrees toggle_and_zero three s i
unfolding state_at value_at_level
three_agrees zero zero ls li = refl
three_agrees zero (suc i) ls li = absurd (omega arith)
three_agrees (suc s) i ls li = absurd (omega arith)

-- a path of three frames differs first in frame 1
pub toggle_first_differs : ToggleFirstDiffers
toggle_first_differs = record { frame = omega arith; output = omega arith; differs = three_differs; earlier_frames = three_agrees; earlier_outputs = λ i lt. absurd (omega arith) }
