-- Pairs of places on which a proof rests, and what passes by them.
use Rattle.std.specs.Prelude.{◌≡◌, ◌==◌, ◌&&◌, ℕ, ◌+◌, ◌<◌, List, [], ◌∷◌, Bool, false, true, ltb, All, length}
use Rattle.circ_model.specs.Meaning.{Pair, Path, IsPath, IsRun, bit, signed, literal, row_at}
use Rattle.circ_model.specs.Correspondence.{HoldsIn}
use Rattle.class_partition.specs.declared.classes.Needed.{Needed}
use Rattle.class_partition.specs.Classes.{Classes, least_of}

-- a pair of places as two literals, at their relative phase
abbrev pub literals_of : List Bool → Needed → ℕ × ℕ
literals_of phase u = (literal u.rep false, literal u.member (signed (bit phase u.rep) (bit phase u.member)))

-- all pairs of a list hold in a row
abbrev pub AllHold : List Bool → List Needed → List Bool → Type 0
AllHold phase pairs row = All (λ u. HoldsIn row (literals_of phase u)) pairs

-- two literals are equal in the last frame of every path of k + 1 frames in the first k of which the pairs hold
abbrev pub StepsBy : Pair → ℕ → List Bool → List Needed → ℕ × ℕ → Type 0
StepsBy pair k phase pairs lits = (path : Path) → IsPath pair path → length path.inputs ≡ k + 1 → ((t : ℕ) → t < k → AllHold phase pairs (row_at pair path t)) → HoldsIn (row_at pair path k) lits

-- they pass by the pairs: they are equal there, and in the first k frames of every run, whatever holds
pub record PassesBy (pair : Pair) (k : ℕ) (phase : List Bool) (pairs : List Needed) (lits : ℕ × ℕ) : Type 0 where
  pub base : (run : Path) → IsRun pair run → length run.inputs ≡ k → (t : ℕ) → t < k → HoldsIn (row_at pair run t) lits
  pub step : StepsBy pair k phase pairs lits

-- classes have the two places of a pair together
abbrev pub is_together : Classes → Needed → Bool
is_together classes u = ltb u.rep (length classes.least) && ltb u.member (length classes.least) && (least_of classes u.rep == least_of classes u.member)

-- and those of all pairs of a list
abbrev pub all_together : Classes → List Needed → Bool
all_together classes [] = true
all_together classes (u ∷ us) = is_together classes u && all_together classes us
