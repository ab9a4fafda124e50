-- Counts of faults, and what grows where it is told.
use Rattle.std.specs.Prelude.{◌≡◌, ℕ, min, ◌+◌, ◌-◌, ◌^◌, ◌<◌, ◌≤◌, List, ◌++◌, length, take, Option, None, Some}

-- A count has risen. At its last value it stands still, and that counts as well.
abbrev pub Rose : ℕ → ℕ → Type 0
Rose before now = min (before + 1) (2 ^ 64 - 1) ≤ now

-- these at the end of a list, where the list is told
abbrev pub appended : {T : Type 0} → Option (List T) → List T → Option (List T)
appended None more = None
appended (Some told) more = Some (told ++ more)

-- of these bytes a part from the front was taken, and not all of them
abbrev pub IsCutShort : Option (List ℕ) → List ℕ → Option (List ℕ) → Type 0
IsCutShort before bytes after = (count : ℕ) × (count < length bytes) × (after ≡ appended before (take count bytes))
