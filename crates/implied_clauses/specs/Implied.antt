-- Clauses by codes that given clauses imply, and chains of resolutions.
use Rattle.std.specs.Prelude.{◌≡◌, ◌<◌, ◌++◌, ◌==◌, ℕ, Bool, true, false, List, [], ◌∷◌, replicate, set, slice_index_or, if◌then◌else◌}
use Rattle.std.specs.List.{All, Any, Contains}
use Rattle.cnf_store.specs.Codes.{neg, MakesTrue, Satisfies}
use Rattle.implied_clauses.specs.declared.implied.Step.{Step}

-- the clause is true wherever all of these are
abbrev pub Implies : List (List ℕ) → List ℕ → Type 0
Implies given clause = (row : List Bool) → Satisfies row given → Any (MakesTrue row) clause

-- all clauses there are over so many codes, and those of them that were given
pub record Store : Type 0 where
  pub codes : ℕ
  pub given : List (List ℕ)
  pub clauses : List (List ℕ)

-- the clauses whose bit is set
abbrev pub chosen : List Bool → List (List ℕ) → List (List ℕ)
chosen [] clauses = []
chosen (b ∷ bs) [] = []
chosen (b ∷ bs) (c ∷ cs) = if b then c ∷ chosen bs cs else chosen bs cs

-- a set of literals has a bit for each code: it with those of a clause but for one
unfoldable pub with_others : ℕ → List ℕ → List Bool → List Bool
with_others pivot [] marks = marks
with_others pivot (l ∷ ls) marks = with_others pivot ls (if l == pivot then marks else set marks l true)

-- the resolvent with a clause on a literal of that
abbrev pub resolvent : List Bool → ℕ → List ℕ → List Bool
resolvent marks pivot clause = with_others pivot clause (set marks (neg pivot) false)

-- what a chain of resolutions leads to
unfoldable pub chained : List (List ℕ) → List Bool → List Step → List Bool
chained clauses marks [] = marks
chained clauses marks (s ∷ ss) = chained clauses (resolvent marks s.pivot (slice_index_or clauses s.clause [])) ss

-- the literals of a clause
abbrev pub begun : ℕ → List ℕ → List Bool
begun codes clause = with_others codes clause (replicate codes false)

-- a clause of the literals of a set, and of no others
pub record IsOf (marks : List Bool) (clause : List ℕ) : Type 0 where
  pub all : (l : ℕ) → slice_index_or marks l false ≡ true → Contains clause l
  pub only : All (λ l. slice_index_or marks l false ≡ true) clause

-- one clause more, to which the chain leads
pub record IsDerived (before after : Store) (first : ℕ) (steps : List Step) : Type 0 where
  pub codes : after.codes ≡ before.codes
  pub given : after.given ≡ before.given
  pub clause : List ℕ
  pub clauses : after.clauses ≡ before.clauses ++ clause ∷ []
  pub literals : IsOf (chained before.clauses (begun before.codes (slice_index_or before.clauses first [])) steps) clause

-- each is of a literal and a clause that there are
abbrev pub AreSteps : ℕ → ℕ → List Step → Type 0
AreSteps codes clauses steps = All (λ (s : Step). (s.pivot < codes) × (s.clause < clauses)) steps
