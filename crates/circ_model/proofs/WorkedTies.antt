-- Two latches that keep what they start with, and start equal where they are tied: equivalent, shown from the definitions.
use Rattle.std.proofs.Common.{◌≡◌, ◌∙◌, ◌<◌, ℕ, zero, suc, Bool, true, false, List, [], ◌∷◌, length, slice_index_or, refl, ap, ap₂, sym, subst, arith, true≢false}
use Rattle.std.proofs.lemmas.List.Elements.{All-from_recursion, All-head}
use Rattle.circ_model.specs.declared.netlist.Reset.TheVariants.{Free}
use Rattle.circ_model.specs.Meaning.{Path, IsRun, IsInputRow, MayStartAt, StartsTied, resets, bit, literal_value, value, left_leaves, right_leaves, inputs_at, row_at, state_at, value_at_level}
use Rattle.circ_model.specs.Correspondence.{HoldsIn, HoldsAt, IsCorrespondence, IsLiteralPair, Together, IsLeastOfClass}
use Rattle.circ_model.specs.Verdict.{AgreeBelow, OutputAgrees, IsPaired}
use Rattle.circ_model.specs.Rows.{kept, tied_kept, TiedKeptAreEquivalent}
use Rattle.circ_model.proofs.WorkedVerdicts.{never_together_in, two_bits, no_bits, one_row, two_rows, short, long, both}

-- a run starts both latches alike
start_is : (run : Path) → IsRun tied_kept run → (a : Bool) × (run.start ≡ a ∷ a ∷ [])
start_is run is =
    let (a, b, e) = two_bits run.start is.is_path.start in
    let same : b ≡ a = sym (sym (ap (λ (xs : List Bool). bit xs 0) e) ∙ is.ties refl 0 (omega arith) (omega arith) ∙ ap (λ (xs : List Bool). bit xs 1) e) in
    (a, e ∙ ap (λ (x : Bool). a ∷ x ∷ []) same)

base_at : (a : Bool) (t : ℕ) → t < 1 → HoldsAt tied_kept (short (a ∷ a ∷ [])) t both
unfolding state_at value_at_level
base_at true zero lt = All-from_recursion (HoldsIn (row_at tied_kept (short (true ∷ true ∷ [])) 0)) both (refl, tt)
base_at false zero lt = All-from_recursion (HoldsIn (row_at tied_kept (short (false ∷ false ∷ [])) 0)) both (refl, tt)
base_at a (suc t) lt = absurd (omega arith)

step_at : (a b : Bool) → HoldsAt tied_kept (long (a ∷ b ∷ [])) 0 both → HoldsAt tied_kept (long (a ∷ b ∷ [])) 1 both
unfolding state_at value_at_level
step_at true true h = All-from_recursion (HoldsIn (row_at tied_kept (long (true ∷ true ∷ [])) 1)) both (refl, tt)
step_at true false h = absurd (true≢false (All-head (HoldsIn (row_at tied_kept (long (true ∷ false ∷ [])) 0)) (2, 4) [] h))
step_at false true h = absurd (true≢false (sym (All-head (HoldsIn (row_at tied_kept (long (false ∷ true ∷ [])) 0)) (2, 4) [] h)))
step_at false false h = All-from_recursion (HoldsIn (row_at tied_kept (long (false ∷ false ∷ [])) 1)) both (refl, tt)

correspond : IsCorrespondence tied_kept 1 both
correspond = record {
  literals = All-from_recursion (IsLiteralPair tied_kept) both ((omega arith, omega arith), tt);
  base = λ run is len t lt.
      let (a, e) = start_is run is in
      subst (λ (p : Path). HoldsAt tied_kept p t both) (sym (ap₂ (λ (s : List Bool) (rows : List (List Bool)). record { start = s; inputs = rows }) e (one_row run.inputs len is.is_path.inputs))) (base_at a t lt);
  step = λ path is len h.
      let (a, b, e) = two_bits path.start is.start in
      let same : path ≡ long (a ∷ b ∷ []) = ap₂ (λ (s : List Bool) (rows : List (List Bool)). record { start = s; inputs = rows }) e (two_rows path.inputs len is.inputs) in
      subst (λ (p : Path). HoldsAt tied_kept p 1 both) (sym same) (step_at a b (subst (λ (p : Path). HoldsAt tied_kept p 0 both) same (h 0 (omega arith))));
}

-- latches that start alike are a run
alike : (a : Bool) → IsRun tied_kept (short (a ∷ a ∷ []))
alike a = record { is_path = record { start = refl; inputs = All-from_recursion (IsInputRow tied_kept) ([] ∷ []) (refl, tt) }; reset = reset; ties = λ _. ties }
  where
    reset : (i : ℕ) → i < 2 → MayStartAt (slice_index_or (resets tied_kept) i Free) (bit (a ∷ a ∷ []) i)
    reset zero lt = tt
    reset (suc zero) lt = tt
    reset (suc (suc i)) lt = absurd (omega arith)

    ties : StartsTied tied_kept (short (a ∷ a ∷ []))
    ties zero lt less = refl
    ties (suc j) lt less = absurd (omega arith)

-- the latches aren't in the constant's class
apart : (q : ℕ) → q < 1 → ¬ Together tied_kept 1 q 1
unfolding state_at value_at_level
apart zero lt = never_together_in tied_kept 1 0 1 (short (false ∷ false ∷ [])) (short (true ∷ true ∷ [])) 0 0 (alike false) (omega arith) (alike true) (omega arith) refl (λ e. true≢false (sym e))
apart (suc q) lt = absurd (omega arith)

least : (p : ℕ) → p < 3 → IsLeastOfClass tied_kept 1 p (bit (true ∷ true ∷ false ∷ []) p)
least zero lt = λ q less. absurd (omega arith)
least (suc zero) lt = apart
least (suc (suc zero)) lt = (1, omega arith, (false, (both, correspond, (0, omega arith, refl))))
least (suc (suc (suc p))) lt = absurd (omega arith)

paired : (j : ℕ) → j < 1 → IsPaired tied_kept 1 j
paired zero lt = (both, correspond, (0, omega arith, refl))
paired (suc j) lt = absurd (omega arith)

-- both outputs are what the latches start with
agrees_at_0 : (run : Path) → IsRun tied_kept run → 0 < length run.inputs → OutputAgrees tied_kept run 0 0
unfolding state_at value_at_level
agrees_at_0 run is within =
    let (a, e) = start_is run is in
    let given : inputs_at run 0 ≡ [] = no_bits (inputs_at run 0) (is.is_path.inputs 0 [] within) in
    ap₂ (λ (s i : List Bool). literal_value (value kept (left_leaves tied_kept s i)) 2) e given
    ∙ sym (ap₂ (λ (s i : List Bool). literal_value (value kept (right_leaves tied_kept s i)) 2) e given)

agree_below_1 : AgreeBelow tied_kept 1
agree_below_1 run is zero lt within zero below = agrees_at_0 run is within
agree_below_1 run is zero lt within (suc j) below = absurd (omega arith)
agree_below_1 run is (suc t) lt within j below = absurd (omega arith)

pub tied_kept_are_equivalent : TiedKeptAreEquivalent
tied_kept_are_equivalent = (agree_below_1, paired, (true ∷ true ∷ false ∷ [], refl, least, refl))
