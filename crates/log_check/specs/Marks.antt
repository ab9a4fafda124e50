-- What is assumed, by marks: two for each variable.
use Rattle.std.specs.Prelude.{◌≡◌, ◌≢◌, ◌+◌, ◌*◌, ℕ, suc, ℤ, pos, negsuc, neg_ℤ, Bool, true, false, List, slice_index_or, ◌⊎◌}
use Rattle.std.specs.List.{All, Contains}
use Rattle.sat_log.specs.Derivations.{LeavesOnly}
use Rattle.log_check.specs.declared.scan.Scan.{Scan}
use Rattle.log_check.specs.declared.scan.Scan.TheVariants.{Conflict, Unit, Neither}

-- the place of a literal among the marks
abbrev pub code : ℤ → ℕ
code (pos n) = 2 * n
code (negsuc n) = 2 * suc n + 1

abbrev pub mark_at : List Bool → ℤ → Bool
mark_at marks l = slice_index_or marks (code l) false

-- marked are the literals that are assumed
pub record AreMarks (marks : List Bool) (assumed : List ℤ) : Type 0 where
  pub held : (l : ℤ) → mark_at marks l ≡ true → Contains assumed l
  pub marked : (l : ℤ) → Contains assumed l → mark_at marks l ≡ true

abbrev pub IsFalse : List ℤ → ℤ → Type 0
IsFalse assumed m = Contains assumed (neg_ℤ m)

-- what a clause is under what is assumed
abbrev pub IsScan : List ℤ → List ℤ → Scan → Type 0
IsScan assumed clause Conflict = All (IsFalse assumed) clause
IsScan assumed clause (Unit l) = LeavesOnly assumed clause l
IsScan assumed clause Neither = (All (IsFalse assumed) clause → ⊥) × ((l : ℤ) → LeavesOnly assumed clause l → ⊥)

-- there is an open literal already, and it is another one; 0 stands for none
abbrev pub IsOther : Bool → ℤ → ℤ → Type 0
IsOther true unit lit = (unit ≢ pos 0) × (unit ≢ lit)
IsOther false unit lit = (unit ≡ pos 0) ⊎ (unit ≡ lit)
