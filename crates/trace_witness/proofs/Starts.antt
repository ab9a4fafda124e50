-- Rows of bits by what they hold, and start bits by their resets.
use Rattle.std.proofs.Common.{◌≡◌, ◌<◌, ℕ, zero, suc, List, [], ◌∷◌, length, Bool, true, false, not, inl, inr, if◌then◌else◌, get_or, refl, ap, arith}
use Rattle.std.proofs.lemmas.List.{ext_get_or}
use Rattle.plain_text.proofs.Choices.{chosen}
use Rattle.circ_model.specs.declared.netlist.Reset.{Reset}
use Rattle.circ_model.specs.declared.netlist.Reset.TheVariants.{Zero, One, Free}
use Rattle.circ_model.specs.Meaning.{bit, Pair, Path, IsRun, MayStartAt, resets}
use Rattle.trace_witness.specs.Bits.{clashes, is_against}

-- rows of one length with the same bits are one row
pub one_row : (r s : List Bool) → length r ≡ length s → ((k : ℕ) → k < length s → bit r k ≡ bit s k) → r ≡ s
one_row r s len same = ext_get_or false r s len (λ k lt. same k (omega (arith, len)))

no_clash : (r : Reset) (b : Bool) → MayStartAt r b → clashes r b ≡ false
no_clash Zero b may = may
no_clash One b may = ap not may
no_clash Free b may = refl

may_start : (r : Reset) (b : Bool) → clashes r b ≡ false → MayStartAt r b
may_start Zero b e = e
may_start One true e = refl
may_start One false e = absurd cc
may_start Free b e = tt

none_against : (rs : List Reset) (bits : List Bool) → ((i : ℕ) → i < length bits → MayStartAt (get_or rs i Free) (bit bits i)) → is_against rs bits ≡ false
none_against [] bits may = refl
none_against (r ∷ rs) [] may = refl
none_against (r ∷ rs) (b ∷ bits) may =
    let t = no_clash r b (may 0 (omega arith)) in
    let h = none_against rs bits (λ i lt. may (suc i) (omega arith)) in
    rw (t, h) refl

pub not_against_run : (pair : Pair) (run : Path) → IsRun pair run → is_against (resets pair) run.start ≡ false
not_against_run pair run is = none_against (resets pair) run.start is.reset

first_of : (r : Reset) (b : Bool) (more : Bool) → (if clashes r b then true else more) ≡ false → (clashes r b ≡ false) × (more ≡ false)
first_of r b more e = elim (chosen (clashes r b) true more false e) [
  | inl p ↦ absurd (no p.1)
  | inr p ↦ p
]
  where
    no : true ≡ false → ⊥
    no e = cc

pub start_from : (rs : List Reset) (bits : List Bool) → is_against rs bits ≡ false → (i : ℕ) → i < length bits → MayStartAt (get_or rs i Free) (bit bits i)
start_from [] bits e i lt = tt
start_from (r ∷ rs) [] e i lt = absurd (omega arith)
start_from (r ∷ rs) (b ∷ bits) e zero lt = may_start r b (first_of r b (is_against rs bits) e).0
start_from (r ∷ rs) (b ∷ bits) e (suc i) lt = start_from rs bits (first_of r b (is_against rs bits) e).1 i (omega arith)
