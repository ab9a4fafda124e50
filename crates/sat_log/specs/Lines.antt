-- Lines in two rows, one of clauses and one of hints.
use Rattle.std.specs.Prelude.{◌≡◌, ◌<◌, ℕ, ℤ, List, [], ◌∷◌, length}
use Rattle.std.specs.List.{All}
use Rattle.cnf_store.specs.Clauses.{AreLiterals}
use Rattle.sat_log.specs.Derivations.{Line}

abbrev pub lines_of : List (List ℤ) → List (List ℕ) → List Line
lines_of [] hs = []
lines_of (c ∷ cs) [] = []
lines_of (c ∷ cs) (h ∷ hs) = record { literals = c; hints = h } ∷ lines_of cs hs

-- what a line may hold: numbers that have a text
pub record IsLine (line : Line) : Type 0 where
  pub literals : AreLiterals 2147483647 line.literals
  pub hints : All (λ h. 0 < h) line.hints

abbrev pub AreLines : List Line → Type 0
AreLines lines = All IsLine lines

pub record AreRows (clauses : List (List ℤ)) (hints : List (List ℕ)) : Type 0 where
  pub same : length clauses ≡ length hints
  pub lines : AreLines (lines_of clauses hints)
