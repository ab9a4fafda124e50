-- What a check of the worked circuits answers, shown from the definitions.
use Rattle.std.proofs.Common.{◌≡◌, ◌≢◌, ◌∙◌, ◌<◌, ℕ, zero, suc, Bool, true, false, not, List, [], ◌∷◌, length, slice_index_or, All, refl, ap, ap₂, sym, subst, arith, true≢false}
use Rattle.std.proofs.lemmas.List.Elements.{All-from_recursion, All-head, All-tail}
use Rattle.circ_model.specs.declared.netlist.Reset.TheVariants.{Free}
use Rattle.circ_model.specs.Meaning.{Pair, Path, IsRun, IsSoundPair, IsInputRow, MayStartAt, resets, bit, literal, row_at, state_at, value_at_level}
use Rattle.circ_model.specs.Correspondence.{HoldsIn, HoldsAt, IsLiteralPair, Together, IsLeastOfClass}
use Rattle.circ_model.specs.Verdict.{IsPaired}
use Rattle.circ_model.specs.Rows.{two, TogglesCorrespond, TogglesAreEquivalent}
use Rattle.circ_model.proofs.Literals.{value_of_literal}
use Rattle.circ_model.proofs.Greatest.{greatest_holds}
use Rattle.circ_model.proofs.Outputs.{paired_agree}
use Rattle.circ_model.proofs.Example.{toggle_sound}

-- two places that are equal in a frame of one run and differ in a frame of another are not together
pub never_together_in : (pair : Pair) (k p q : ℕ) (run other : Path) (t u : ℕ) → IsRun pair run → t < length run.inputs → IsRun pair other → u < length other.inputs
    → bit (row_at pair run t) p ≡ bit (row_at pair run t) q → bit (row_at pair other u) p ≢ bit (row_at pair other u) q → Together pair k p q → ⊥
never_together_in pair k p q run other t u is lt on lu same apart (false, h) =
    apart (sym (value_of_literal (row_at pair other u) p false) ∙ greatest_holds pair k (literal p false) (literal q false) h other on u lu ∙ value_of_literal (row_at pair other u) q false)
never_together_in pair k p q run other t u is lt on lu same apart (true, h) =
    not_self (bit (row_at pair run t) q) (sym same ∙ sym (value_of_literal (row_at pair run t) p false) ∙ greatest_holds pair k (literal p false) (literal q true) h run is t lt ∙ value_of_literal (row_at pair run t) q true)
  where
    not_self : (b : Bool) → b ≡ not b → ⊥
    not_self true e = true≢false e
    not_self false e = true≢false (sym e)

-- so are two that are equal in one frame of a run and differ in another
pub never_together : (pair : Pair) (k p q : ℕ) (run : Path) (t u : ℕ) → IsRun pair run → t < length run.inputs → u < length run.inputs
    → bit (row_at pair run t) p ≡ bit (row_at pair run t) q → bit (row_at pair run u) p ≢ bit (row_at pair run u) q → Together pair k p q → ⊥
never_together pair k p q run t u is lt lu = never_together_in pair k p q run run t u is lt is lu

-- lists of known lengths
pub one_bit : (xs : List Bool) → length xs ≡ 1 → (a : Bool) × (xs ≡ a ∷ [])
one_bit [] e = absurd (omega arith)
one_bit (a ∷ []) e = (a, refl)
one_bit (a ∷ b ∷ xs) e = absurd (omega arith)

pub two_bits : (xs : List Bool) → length xs ≡ 2 → (a : Bool) × (b : Bool) × (xs ≡ a ∷ b ∷ [])
two_bits [] e = absurd (omega arith)
two_bits (a ∷ xs) e = let (b, is) = one_bit xs (omega arith) in (a, b, ap (λ (ys : List Bool). a ∷ ys) is)

pub no_bits : (xs : List Bool) → length xs ≡ 0 → xs ≡ []
no_bits [] e = refl
no_bits (a ∷ xs) e = absurd (omega arith)

pub one_row : (rows : List (List Bool)) → length rows ≡ 1 → All (λ (r : List Bool). length r ≡ 0) rows → rows ≡ [] ∷ []
one_row [] e all = absurd (omega arith)
one_row (r ∷ []) e all = ap (λ (s : List Bool). s ∷ []) (no_bits r (All-head (λ (r : List Bool). length r ≡ 0) r [] all))
one_row (r ∷ s ∷ rows) e all = absurd (omega arith)

pub two_rows : (rows : List (List Bool)) → length rows ≡ 2 → All (λ (r : List Bool). length r ≡ 0) rows → rows ≡ [] ∷ [] ∷ []
two_rows [] e all = absurd (omega arith)
two_rows (r ∷ rows) e all = ap₂ (λ (s : List Bool) (ss : List (List Bool)). s ∷ ss) (no_bits r (All-head (λ (r : List Bool). length r ≡ 0) r rows all)) (one_row rows (omega arith) (All-tail (λ (r : List Bool). length r ≡ 0) r rows all))

-- a path without inputs, with one row and with two
abbrev pub short : List Bool → Path
short start = record { start = start; inputs = [] ∷ [] }

abbrev pub long : List Bool → Path
long start = record { start = start; inputs = [] ∷ [] ∷ [] }

abbrev pub both : List (ℕ × ℕ)
both = (2, 4) ∷ []

-- a run of the toggling latches starts at 0 and 0
toggles_start : (run : Path) → IsRun two run → run.start ≡ false ∷ false ∷ []
toggles_start run is =
    let (a, b, e) = two_bits run.start is.is_path.start in
    let at_0 : a ≡ false = sym (ap (λ (xs : List Bool). bit xs 0) e) ∙ is.reset 0 (let h = is.is_path.start in omega arith) in
    let at_1 : b ≡ false = sym (ap (λ (xs : List Bool). bit xs 1) e) ∙ is.reset 1 (let h = is.is_path.start in omega arith) in
    e ∙ ap₂ (λ (x y : Bool). x ∷ y ∷ []) at_0 at_1

base_at : (t : ℕ) → t < 1 → HoldsAt two (short (false ∷ false ∷ [])) t both
unfolding state_at value_at_level
base_at zero lt = All-from_recursion (HoldsIn (row_at two (short (false ∷ false ∷ [])) 0)) both (refl, tt)
base_at (suc t) lt = absurd (omega arith)

-- latches that agree in a frame agree in the next
step_at : (a b : Bool) → HoldsAt two (long (a ∷ b ∷ [])) 0 both → HoldsAt two (long (a ∷ b ∷ [])) 1 both
unfolding state_at value_at_level
step_at true true h = All-from_recursion (HoldsIn (row_at two (long (true ∷ true ∷ [])) 1)) both (refl, tt)
step_at true false h = absurd (true≢false (All-head (HoldsIn (row_at two (long (true ∷ false ∷ [])) 0)) (2, 4) [] h))
step_at false true h = absurd (true≢false (sym (All-head (HoldsIn (row_at two (long (false ∷ true ∷ [])) 0)) (2, 4) [] h)))
step_at false false h = All-from_recursion (HoldsIn (row_at two (long (false ∷ false ∷ [])) 1)) both (refl, tt)

pub toggles_correspond : TogglesCorrespond
toggles_correspond = record {
  literals = All-from_recursion (IsLiteralPair two) both ((omega arith, omega arith), tt);
  base = λ run is len t lt.
      subst (λ (p : Path). HoldsAt two p t both) (sym (ap₂ (λ (s : List Bool) (rows : List (List Bool)). record { start = s; inputs = rows }) (toggles_start run is) (one_row run.inputs len is.is_path.inputs))) (base_at t lt);
  step = λ path is len h.
      let (a, b, e) = two_bits path.start is.start in
      let same : path ≡ long (a ∷ b ∷ []) = ap₂ (λ (s : List Bool) (rows : List (List Bool)). record { start = s; inputs = rows }) e (two_rows path.inputs len is.inputs) in
      subst (λ (p : Path). HoldsAt two p 1 both) (sym same) (step_at a b (subst (λ (p : Path). HoldsAt two p 0 both) same (h 0 (omega arith))));
}

together : Together two 1 1 2
together = (false, (both, toggles_correspond, (0, omega arith, refl)))

two_run : IsRun two (long (false ∷ false ∷ []))
two_run = record { is_path = record { start = refl; inputs = All-from_recursion (IsInputRow two) ([] ∷ [] ∷ []) (refl, (refl, tt)) }; reset = reset; ties = λ no. absurd (let f : ⊥ = cc in f) }
  where
    reset : (i : ℕ) → i < 2 → MayStartAt (slice_index_or (resets two) i Free) (bit (false ∷ false ∷ []) i)
    reset zero lt = refl
    reset (suc zero) lt = refl
    reset (suc (suc i)) lt = absurd (omega arith)

-- the toggling latch isn't in the constant's class
two_apart : (q : ℕ) → q < 1 → ¬ Together two 1 q 1
unfolding state_at value_at_level
two_apart zero lt = never_together two 1 0 1 (long (false ∷ false ∷ [])) 0 1 two_run (omega arith) (omega arith) refl (λ e. true≢false (sym e))
two_apart (suc q) lt = absurd (omega arith)

two_least : (p : ℕ) → p < 3 → IsLeastOfClass two 1 p (bit (true ∷ true ∷ false ∷ []) p)
two_least zero lt = λ q less. absurd (omega arith)
two_least (suc zero) lt = two_apart
two_least (suc (suc zero)) lt = (1, omega arith, together)
two_least (suc (suc (suc p))) lt = absurd (omega arith)

two_sound : IsSoundPair two
two_sound = record { left = toggle_sound; right = toggle_sound; inputs = refl; outputs = refl; ties = λ no. absurd (let f : ⊥ = cc in f) }

two_paired : (j : ℕ) → j < 1 → IsPaired two 1 j
two_paired zero lt = (both, toggles_correspond, (0, omega arith, refl))
two_paired (suc j) lt = absurd (omega arith)

pub toggles_are_equivalent : TogglesAreEquivalent
toggles_are_equivalent = (
  λ run is t lt within j below. paired_agree two 1 j two_sound below (two_paired j below) run is t within,
  two_paired,
  (true ∷ true ∷ false ∷ [], refl, two_least, refl),
)
