-- Literals by codes, clauses of them, and the assignments that satisfy them. A code is twice the variable, from 0 on, plus one where it is complemented.
use Rattle.std.specs.Prelude.{◌≡◌, ◌<◌, ◌+◌, ◌-◌, ◌*◌, ◌/◌, ◌%◌, ◌==◌, ℕ, Bool, false, List, [], slice_index_or}
use Rattle.std.specs.List.{All, Any}

-- the complement
abbrev pub neg : ℕ → ℕ
neg l = l + 1 - 2 * (l % 2)

-- clauses are counted from 1
abbrev pub clause_at : List (List ℕ) → ℕ → List ℕ
clause_at clauses h = slice_index_or clauses (h - 1) []

-- bit v of the assignment is variable v
abbrev pub MakesTrue : List Bool → ℕ → Type 0
MakesTrue row l = slice_index_or row (l / 2) false ≡ (l % 2 == 0)

abbrev pub Satisfies : List Bool → List (List ℕ) → Type 0
Satisfies row clauses = All (λ c. Any (MakesTrue row) c) clauses

-- all literals are within the variables
abbrev pub AreWithin : ℕ → List (List ℕ) → Type 0
AreWithin vars clauses = All (λ c. All (λ l. l < 2 * vars) c) clauses
