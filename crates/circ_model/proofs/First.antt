-- The first difference of a path.
use Rattle.std.proofs.Common.{◌≡◌, ◌+◌, ℕ, Option, Some, None, refl, ap, ap₂, subst, arith, inl, inr, length}
use Rattle.std.proofs.lemmas.Bool.{cases_order}
use Rattle.circ_model.specs.Meaning.{Pair, Path}
use Rattle.circ_model.specs.Verdict.{IsFirstDifference, FirstDifference, IsLeastDifference}

same_frame : (pair : Pair) (path : Path) (t i u j : ℕ) → IsFirstDifference pair path t i → IsFirstDifference pair path u j → t ≡ u
same_frame pair path t i u j a b = elim (cases_order t u) [
  | inl e ↦ e
  | inr (inl lt) ↦ absurd (a.differs (b.earlier_frames t i lt a.output))
  | inr (inr gt) ↦ absurd (b.differs (a.earlier_frames u j gt b.output))
]

same_output : (pair : Pair) (path : Path) (t i j : ℕ) → IsFirstDifference pair path t i → IsFirstDifference pair path t j → i ≡ j
same_output pair path t i j a b = elim (cases_order i j) [
  | inl e ↦ e
  | inr (inl lt) ↦ absurd (a.differs (b.earlier_outputs i lt))
  | inr (inr gt) ↦ absurd (b.differs (a.earlier_outputs j gt))
]

pub one_first : (pair : Pair) (path : Path) (a b : Option (ℕ × ℕ)) → FirstDifference pair path a → FirstDifference pair path b → a ≡ b
one_first pair path None None a b = refl
one_first pair path None (Some (u, j)) a b = absurd (b.differs (a u j b.frame b.output))
one_first pair path (Some (t, i)) None a b = absurd (a.differs (b t i a.frame a.output))
one_first pair path (Some (t, i)) (Some (u, j)) a b =
    let e : t ≡ u = same_frame pair path t i u j a b in
    ap Some (ap₂ (λ (x y : ℕ). (x, y)) e (same_output pair path u i j (subst (λ (f : ℕ). IsFirstDifference pair path f i) e a) b))

-- the run that shows the least difference differs there first
pub least_is_first : (pair : Pair) (t j : ℕ) (least : IsLeastDifference pair t j) → IsFirstDifference pair least.shown.0 t j
least_is_first pair t j least =
    let run : Path = least.shown.0 in
    let len : length run.inputs ≡ t + 1 = least.shown.2 in
    record {
      frame = omega arith;
      output = least.output;
      differs = least.shown.3;
      earlier_frames = λ s i lt within. least.earlier_frames run least.shown.1 s lt (omega arith) i within;
      earlier_outputs = λ i lt. least.earlier_outputs run least.shown.1 len i lt;
    }
