-- What two accepted logs say of a needed pair: it passes.
use Rattle.std.proofs.Common.{◌≡◌, ◌∙◌, ◌<◌, ◌≤◌, ◌⊎◌, ◌+◌, ◌-◌, ℕ, Bool, true, false, not, List, length, refl, ap, sym, subst, arith, inl, inr, ⊎_elim, true≢false}
use Rattle.std.proofs.lemmas.Bool.{eqb-true}
use Rattle.std.proofs.lemmas.List.Elements.{All-nil}
use Rattle.circ_model.specs.Meaning.{Pair, Path, IsSoundPair, IsPath, IsRun, places_of, row_at, value_in, literal, signed}
use Rattle.circ_model.specs.Correspondence.{HoldsIn, IsLiteral}
use Rattle.circ_model.proofs.Literals.{half_literal}
use Rattle.class_partition.specs.Classes.{Classes, ArePartition, HoldIn, Passes, needed, is_least, least_of, phase_of}
use Rattle.class_partition.proofs.Signs.{signed-self}
use Rattle.sat_log.specs.Derivations.{Line, IsAccepted}
use Rattle.sat_log.proofs.Soundness.{refuted}
use Rattle.frame_unroll.specs.declared.question.Question.{Question}
use Rattle.frame_unroll.specs.Unrolled.{from_reset, after_classes, asks, NoneSought}
use Rattle.frame_unroll.proofs.Standing.{none_sought}
use Rattle.frame_unroll.proofs.Members.{members_from, members_within}
use Rattle.corr_certificate.specs.Parts.{base_formula, step_formula}
use Rattle.corr_certificate.proofs.Supporting.{IsProved}

-- two literals hold in a row where they don't differ
same_or_not : (x y : Bool) → (x ≡ y) ⊎ (x ≡ not y)
same_or_not true true = inl refl
same_or_not true false = inr refl
same_or_not false true = inr refl
same_or_not false false = inl refl

holds_unless : (row : List Bool) (p : ℕ × ℕ) → (value_in row p.0 ≡ not (value_in row p.1) → ⊥) → HoldsIn row p
holds_unless row p never = ⊎_elim (λ (h : HoldsIn row p). h) (λ (s : value_in row p.0 ≡ not (value_in row p.1)). absurd (never s)) (same_or_not (value_in row p.0) (value_in row p.1))

-- the literals of a needed pair are of the pair of netlists
needed_left : (pair : Pair) (classes : Classes) (p : ℕ) → ArePartition (places_of pair) classes → p < places_of pair → IsLiteral pair (needed classes p).0
needed_left pair classes p is lt = let low = is.lower p lt in subst (λ (n : ℕ). n < places_of pair) (sym (half_literal (least_of classes p) false)) (omega arith)

needed_right : (pair : Pair) (classes : Classes) (p : ℕ) → p < places_of pair → IsLiteral pair (needed classes p).1
needed_right pair classes p lt = subst (λ (n : ℕ). n < places_of pair) (sym (half_literal p (signed (phase_of classes (least_of classes p)) (phase_of classes p)))) lt

base_asks : ℕ → Classes → ℕ → Question
base_asks k classes p = asks (needed classes p).0 (needed classes p).1 0 (k - 1)

step_asks : ℕ → Classes → ℕ → Question
step_asks k classes p = asks (needed classes p).0 (needed classes p).1 k k

no_run : (pair : Pair) (k : ℕ) (classes : Classes) (p : ℕ) (log : List Line) → IsSoundPair pair → ArePartition (places_of pair) classes → 1 ≤ k → p < places_of pair
    → IsAccepted (base_formula pair k classes p) log → NoneSought (from_reset pair k) (base_asks k classes p)
unfolding base_asks
no_run pair k classes p log sound is some lt ok =
    none_sought (from_reset pair k) (base_asks k classes p) sound
    (record { frames = omega arith; needed = All-nil _; asked = (needed_left pair classes p is lt, needed_right pair classes p lt, omega arith) })
    (refuted (base_formula pair k classes p) log ok)

no_path : (pair : Pair) (k : ℕ) (classes : Classes) (p : ℕ) (log : List Line) → IsSoundPair pair → ArePartition (places_of pair) classes → p < places_of pair
    → IsAccepted (step_formula pair k classes p) log → NoneSought (after_classes pair k classes) (step_asks k classes p)
unfolding step_asks
no_path pair k classes p log sound is lt ok =
    none_sought (after_classes pair k classes) (step_asks k classes p) sound
    (record { frames = omega arith; needed = members_within (places_of pair) classes is; asked = (needed_left pair classes p is lt, needed_right pair classes p lt, omega arith) })
    (refuted (step_formula pair k classes p) log ok)

-- no run is sought: the pair holds in the first frames of each
in_runs : (pair : Pair) (k : ℕ) (classes : Classes) (p : ℕ) → NoneSought (from_reset pair k) (base_asks k classes p) → (run : Path) → IsRun pair run → length run.inputs ≡ k → (t : ℕ) → t < k → HoldsIn (row_at pair run t) (needed classes p)
unfolding base_asks
in_runs pair k classes p none run runs len t lt = holds_unless (row_at pair run t) (needed classes p) (λ apart. none run (record {
  is_path = runs.is_path;
  rows = len;
  reset = λ from. runs;
  classes = λ s less. All-nil (HoldsIn (row_at pair run s));
  asked = (t, omega arith, let e : 0 + t ≡ t = omega arith in subst (λ (s : ℕ). value_in (row_at pair run s) (needed classes p).0 ≡ not (value_in (row_at pair run s) (needed classes p).1)) (sym e) apart);
}))

-- no path is sought: the pair holds in frame k of each on which the classes hold before
on_paths : (pair : Pair) (k : ℕ) (classes : Classes) (p : ℕ) → NoneSought (after_classes pair k classes) (step_asks k classes p) → (path : Path) → IsPath pair path → length path.inputs ≡ k + 1
    → ((t : ℕ) → t < k → HoldIn (places_of pair) classes (row_at pair path t)) → HoldsIn (row_at pair path k) (needed classes p)
unfolding step_asks
on_paths pair k classes p none path is len hold = holds_unless (row_at pair path k) (needed classes p) (λ apart. none path (record {
  is_path = is;
  rows = len;
  reset = λ from. absurd (true≢false (sym from));
  classes = λ t less. members_from (places_of pair) classes (row_at pair path t) (hold t (omega arith));
  asked = (0, omega arith, let e : k + 0 ≡ k = omega arith in subst (λ (s : ℕ). value_in (row_at pair path s) (needed classes p).0 ≡ not (value_in (row_at pair path s) (needed classes p).1)) (sym e) apart);
}))

-- a least place passes with itself
itself : (classes : Classes) (row : List Bool) (p : ℕ) → least_of classes p ≡ p → HoldsIn row (needed classes p)
itself classes row p e =
    ap (λ (q : ℕ). value_in row (literal q false)) e
    ∙ ap (λ (s : Bool). value_in row (literal p s)) (sym (signed-self (phase_of classes p)))
    ∙ ap (λ (q : ℕ). value_in row (literal p (signed (phase_of classes q) (phase_of classes p)))) (sym e)

pub passes : (pair : Pair) (k : ℕ) (classes : Classes) → IsSoundPair pair → ArePartition (places_of pair) classes → 1 ≤ k
    → ((p : ℕ) → p < places_of pair → is_least classes p ≡ false → IsProved pair k classes p) → (p : ℕ) → p < places_of pair → Passes pair k classes p
passes pair k classes sound is some all p lt = by (is_least classes p) refl
  where
    by : (b : Bool) → is_least classes p ≡ b → Passes pair k classes p
    by true e = record {
      base = λ run runs len t less. itself classes (row_at pair run t) p (eqb-true (least_of classes p) p e);
      step = λ path path_is len hold. itself classes (row_at pair path k) p (eqb-true (least_of classes p) p e);
    }
    by false e =
        let (base, step) = all p lt e in
        record {
          base = in_runs pair k classes p (no_run pair k classes p base.0 sound is some lt base.1);
          step = on_paths pair k classes p (no_path pair k classes p step.0 sound is lt step.1);
        }
