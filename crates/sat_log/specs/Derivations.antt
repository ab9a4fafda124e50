-- Derivations by reverse unit propagation with hints: LRAT without deletions (Cruz-Filipe, Heule and others, CADE 2017).
use Rattle.std.specs.Prelude.{◌≡◌, ◌≤◌, ◌<◌, ◌-◌, ℕ, ℤ, neg_ℤ, List, [], ◌∷◌, ◌++◌, map, length, slice_index_or, ◌⊎◌}
use Rattle.std.specs.List.{All, Contains}
use Rattle.cnf_store.specs.Clauses.{AreLiterals, Formula}

-- a clause, and the numbers of the clauses that it is derived from, in order
pub record Line : Type 0 where
  pub literals : List ℤ
  pub hints : List ℕ

-- lines are counted from 0
abbrev pub line_at : List Line → ℕ → Line
line_at lines i = slice_index_or lines i (record { literals = []; hints = [] })

-- clauses are counted from 1
abbrev pub clause_at : List (List ℤ) → ℕ → List ℤ
clause_at clauses h = slice_index_or clauses (h - 1) []

-- under what is assumed, this literal alone of the clause is unassigned, and all others are false
pub record LeavesOnly (assumed clause : List ℤ) (l : ℤ) : Type 0 where
  pub inside : Contains clause l
  pub not_true : Contains assumed l → ⊥
  pub not_false : Contains assumed (neg_ℤ l) → ⊥
  pub others : All (λ m. (m ≡ l) ⊎ Contains assumed (neg_ℤ m)) clause

-- each hinted clause but the last gives one more literal to assume, and the last is false
abbrev pub Refutes : List (List ℤ) → List ℤ → List ℕ → Type 0
Refutes clauses assumed [] = ⊥
Refutes clauses assumed (h ∷ []) = All (λ m. Contains assumed (neg_ℤ m)) (clause_at clauses h)
Refutes clauses assumed (h ∷ i ∷ hs) = (l : ℤ) × LeavesOnly assumed (clause_at clauses h) l × Refutes clauses (l ∷ assumed) (i ∷ hs)

-- a line follows from clauses: where all its literals are false, its hints lead to a false clause
pub record Follows (vars : ℕ) (clauses : List (List ℤ)) (line : Line) : Type 0 where
  pub within : AreLiterals vars line.literals
  pub no_complement : All (λ l. Contains line.literals (neg_ℤ l) → ⊥) line.literals
  pub earlier : All (λ h. (0 < h) × (h ≤ length clauses)) line.hints
  pub refutes : Refutes clauses (map neg_ℤ line.literals) line.hints

abbrev pub clauses_of : List Line → List (List ℤ)
clauses_of lines = map (λ (l : Line). l.literals) lines

-- each line follows from the clauses and from the lines before it
abbrev pub AllFollow : ℕ → List (List ℤ) → List Line → Type 0
AllFollow vars clauses [] = Unit {0}
AllFollow vars clauses (l ∷ ls) = Follows vars clauses l × AllFollow vars (clauses ++ l.literals ∷ []) ls

-- there is a last line, and its clause is empty
abbrev pub EndsEmpty : List Line → Type 0
EndsEmpty [] = ⊥
EndsEmpty (l ∷ []) = l.literals ≡ []
EndsEmpty (l ∷ m ∷ ls) = EndsEmpty (m ∷ ls)

pub record IsAccepted (formula : Formula) (lines : List Line) : Type 0 where
  pub follow : AllFollow formula.vars formula.clauses lines
  pub empty : EndsEmpty lines
