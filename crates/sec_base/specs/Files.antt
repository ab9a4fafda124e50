-- Files by name, and what a load says of one.
use Rattle.std.specs.Prelude.{◌≡◌, ℕ, ◌+◌, ◌<◌, List, [], ◌∷◌, length, take, Option, option_map, unwrap_or, bytes_eq, if◌then◌else◌, Result, Err, IsSomeAnd}
use Rattle.std.specs.List.{find}
use Rattle.sec_base.specs.declared.fault.LoadFault.{LoadFault}
use Rattle.sec_base.specs.declared.fault.LoadFault.TheVariants.{Failed}

-- the first file of that name
abbrev pub file_in : List (List ℕ × List ℕ) → List ℕ → Option (List ℕ)
file_in files name = option_map (λ f. f.1) (find (λ f. bytes_eq f.0 name) files)

-- the same, where each name that has no file has an empty one
abbrev pub file_or_empty : List (List ℕ × List ℕ) → List ℕ → List ℕ
file_or_empty files name = unwrap_or (file_in files name) []

-- these bytes under that name: in the place of those that stood there, else at the end
abbrev pub with_file : List (List ℕ × List ℕ) → List ℕ → List ℕ → List (List ℕ × List ℕ)
with_file [] name bytes = (name, bytes) ∷ []
with_file (file ∷ files) name bytes = if bytes_eq file.0 name then (name, bytes) ∷ files else file ∷ with_file files name bytes

-- the file is there and longer than the limit, and these are its first bytes up to one past it
abbrev pub IsTooLong : Option (List ℕ) → ℕ → List ℕ → Type 0
IsTooLong file limit bytes = IsSomeAnd file (λ whole. (limit < length whole) × (bytes ≡ take (limit + 1) whole))

-- the name, where the load of it failed
abbrev pub failed_in : Result (Unit {0}) LoadFault → List ℕ → List (List ℕ)
failed_in (Err Failed) name = name ∷ []
failed_in other name = []
