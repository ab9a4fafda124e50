-- What an answer to a question of frames from reset says of the runs.
use Rattle.std.proofs.Common.{◌≡◌, ◌<◌, ◌≤◌, ℕ, ◌+◌, ◌-◌, ◌⊎◌, Bool, true, false, not, List, length, inl, inr, refl, sym, subst, arith, take, length-take}
use Rattle.std.proofs.lemmas.List.Elements.{All-nil}
use Rattle.circ_model.specs.Meaning.{Pair, Path, IsRun, row_at, value_in}
use Rattle.circ_model.specs.Correspondence.{HoldsIn}
use Rattle.circ_model.proofs.Paths.{IsWindow, cut_is_run, row_of_cut, window, window_is, window_of_run}
use Rattle.frame_unroll.specs.Unrolled.{Unrolling, Differs, IsSought, from_reset, NoneSought, asks, asking}
use Rattle.frame_questions.specs.Found.{IsSeen, IsFound}
use Rattle.frame_questions.specs.declared.found.Separation.{Separation}
use Rattle.frame_questions.specs.declared.found.Separation.TheVariants as found
use Rattle.frame_questions.specs.declared.found.Seen.{Seen}
use Rattle.induction_base.specs.declared.base.Base.{Base}
use Rattle.induction_base.specs.declared.base.Base.TheVariants.{Holds, Breaks}
use Rattle.induction_base.specs.Base.{HoldInRuns, BreaksIn, IsBase}
use Rattle.induction_base.specs.Search.{ApartAtEnd, AreOfRuns, HoldAt}

-- two bits are equal, or one is the other's complement, and not both
pub same_or_apart : (x y : Bool) → (x ≡ y) ⊎ (x ≡ not y)
same_or_apart true true = inl refl
same_or_apart true false = inr refl
same_or_apart false true = inr refl
same_or_apart false false = inl refl

pub not_both : (x y : Bool) → x ≡ y → x ≡ not y → ⊥
not_both true true e d = cc
not_both true false e d = cc
not_both false true e d = cc
not_both false false e d = cc

zero_more : (t : ℕ) → 0 + t ≡ t
zero_more t = omega arith

-- a run of any length, with k rows
sought : (pair : Pair) (k a b last : ℕ) (run : Path) (t : ℕ) → IsRun pair run → t ≤ last → last < k → t < length run.inputs → Differs pair run t a b
    → IsSought (asking (from_reset pair k) (asks a b 0 last)) (window pair run 0 k)
sought pair k a b last run t is le within short apart =
    let w : IsWindow pair run 0 k (window pair run 0 k) = window_is pair run 0 k is.is_path in
    let same : row_at pair (window pair run 0 k) t ≡ row_at pair run t =
    subst (λ (n : ℕ). row_at pair (window pair run 0 k) t ≡ row_at pair run n) (zero_more t) (w.rows t (omega arith) (omega arith)) in
    record {
      is_path = w.is_path;
      rows = w.len;
      reset = λ yes. window_of_run pair run k is;
      classes = λ s lt. All-nil (HoldsIn (row_at pair (window pair run 0 k) s));
      asked = (t, omega arith, subst (λ (n : ℕ). Differs pair (window pair run 0 k) n a b) (sym (zero_more t)) (subst (λ (r : List Bool). value_in r a ≡ not (value_in r b)) (sym same) apart));
    }

-- over all frames: the base
hold_in_runs : (pair : Pair) (k a b : ℕ) → 0 < k → NoneSought (from_reset pair k) (asks a b 0 (k - 1)) → HoldInRuns pair k a b
hold_in_runs pair k a b some none run is rows t lt = elim (same_or_apart (value_in (row_at pair run t) a) (value_in (row_at pair run t) b)) [
  | inl same ↦ same
  | inr apart ↦ absurd (none (window pair run 0 k) (sought pair k a b (k - 1) run t is (omega arith) (omega arith) (omega arith) apart))
]

breaks_in : (pair : Pair) (k a b : ℕ) (seen : Seen) → 0 < k → IsSeen (from_reset pair k) (asks a b 0 (k - 1)) seen → BreaksIn pair k a b seen.path seen.frame
breaks_in pair k a b seen some is = record {
  is_run = is.sought.reset refl;
  rows = is.sought.rows;
  frame = (let to = is.to in omega arith);
  differs = subst (λ (r : List Bool). value_in r a ≡ not (value_in r b)) is.row is.apart;
}

-- what an answer over all frames is of the base
abbrev pub base_of : Separation → Base
base_of (found.None log) = Holds log
base_of (found.Path seen) = Breaks seen.path seen.frame

pub is_base : (pair : Pair) (u : Unrolling) (k a b : ℕ) (f : Separation) → u ≡ from_reset pair k → 0 < k → IsFound u (asks a b 0 (k - 1)) f → IsBase pair k a b (base_of f)
is_base pair u k a b (found.None log) e some is = let h = subst (λ (v : Unrolling). IsFound v (asks a b 0 (k - 1)) (found.None log)) e is in (hold_in_runs pair k a b some h.0, h.1)
is_base pair u k a b (found.Path seen) e some is = breaks_in pair k a b seen some (subst (λ (v : Unrolling). IsFound v (asks a b 0 (k - 1)) (found.Path seen)) e is)

-- one frame: a run of any length
sought_at : (pair : Pair) (k a b t : ℕ) (run : Path) → IsRun pair run → t < k → t < length run.inputs → Differs pair run t a b → IsSought (asking (from_reset pair k) (asks a b t t)) (window pair run 0 k)
sought_at pair k a b t run is within short apart =
    let w : IsWindow pair run 0 k (window pair run 0 k) = window_is pair run 0 k is.is_path in
    let same : row_at pair (window pair run 0 k) t ≡ row_at pair run t =
    subst (λ (n : ℕ). row_at pair (window pair run 0 k) t ≡ row_at pair run n) (zero_more t) (w.rows t (omega arith) (omega arith)) in
    let here : t ≡ t + 0 = omega arith in
    record {
      is_path = w.is_path;
      rows = w.len;
      reset = λ yes. window_of_run pair run k is;
      classes = λ s lt. All-nil (HoldsIn (row_at pair (window pair run 0 k) s));
      asked = (0, omega arith, subst (λ (n : ℕ). Differs pair (window pair run 0 k) n a b) here (subst (λ (r : List Bool). value_in r a ≡ not (value_in r b)) (sym same) apart));
    }

-- where no path is sought the two are equal there
pub hold_at : (pair : Pair) (u : Unrolling) (a b t : ℕ) → AreOfRuns pair u → t < u.frames → NoneSought u (asks a b t t) → HoldAt pair t a b
hold_at pair u a b t are within none run is short = elim (same_or_apart (value_in (row_at pair run t) a) (value_in (row_at pair run t) b)) [
  | inl same ↦ same
  | inr apart ↦
      absurd (subst (λ (v : Unrolling). NoneSought v (asks a b t t)) are.are none (window pair run 0 u.frames) (sought_at pair u.frames a b t run is within short apart))
]

-- what is seen, cut after the frame, ends with a frame in which they differ
pub apart_at : (pair : Pair) (u : Unrolling) (a b t : ℕ) (seen : Seen) (rows : List (List Bool)) → AreOfRuns pair u → t < u.frames → IsSeen u (asks a b t t) seen → rows ≡ take (t + 1) seen.path.inputs → ApartAtEnd pair t a b (record { start = seen.path.start; inputs = rows })
apart_at pair u a b t seen rows are within is e =
    let seen_is = subst (λ (v : Unrolling). IsSeen v (asks a b t t) seen) are.are is in
    let from = seen_is.from in
    let to = seen_is.to in
    let len = seen_is.sought.rows in
    let there : seen.frame ≡ t = omega arith in
    let differs : Differs pair seen.path t a b =
    subst (λ (n : ℕ). Differs pair seen.path n a b) there (subst (λ (r : List Bool). value_in r a ≡ not (value_in r b)) seen_is.row seen_is.apart) in
    subst (λ (rs : List (List Bool)). ApartAtEnd pair t a b (record { start = seen.path.start; inputs = rs })) (sym e)
    (record {
      is_run = cut_is_run pair seen.path (t + 1) (seen_is.sought.reset refl);
      rows = omega (arith, length-take (t + 1) seen.path.inputs);
      differs = subst (λ (r : List Bool). value_in r a ≡ not (value_in r b)) (sym (row_of_cut pair seen.path (t + 1) t (omega arith))) differs;
    })
