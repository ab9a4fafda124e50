-- A question under assumptions: literals of the pair that are to be true in frames.
use Rattle.std.specs.Prelude.{◌≡◌, ℕ, ℤ, ◌<◌, ◌++◌, List, [], ◌∷◌, All, map, true, Option, Some, None}
use Rattle.circ_model.specs.Meaning.{Pair, Path, places_of, row_at, value_in}
use Rattle.circ_model.specs.Correspondence.{IsLiteral}
use Rattle.cnf_store.specs.Clauses.{Formula}
use Rattle.frame_unroll.specs.declared.question.Question.{Question}
use Rattle.frame_unroll.specs.Frames.{literal_in}
use Rattle.frame_unroll.specs.Unrolled.{Unrolling, IsSought, asking, clauses_of, variables_of}

-- in this frame of a path this literal is true
abbrev pub IsTrueAt : Pair → Path → ℕ × ℕ → Type 0
IsTrueAt pair path p = value_in (row_at pair path p.0) p.1 ≡ true

-- the frame is there, and the literal is one of the pair
abbrev pub IsAssumable : Unrolling → ℕ × ℕ → Type 0
IsAssumable u p = (p.0 < u.frames) × IsLiteral u.pair p.1

-- a path that is sought on which all of them are true, or that there is none
abbrev pub IsFoundUnder : Unrolling → Question → List (ℕ × ℕ) → Option Path → Type 0
IsFoundUnder u q assumed (Some path) = IsSought (asking u q) path × All (IsTrueAt u.pair path) assumed
IsFoundUnder u q assumed None = (path : Path) → IsSought (asking u q) path → All (IsTrueAt u.pair path) assumed → ⊥

-- a clause of one literal for each of them
abbrev pub assumed_clause : ℕ → ℕ × ℕ → List ℤ
assumed_clause n p = literal_in n p.0 p.1 ∷ []

abbrev pub assumed_clauses : ℕ → List (ℕ × ℕ) → List (List ℤ)
assumed_clauses n assumed = map (assumed_clause n) assumed

-- the clauses of the frames, of the question, and of what is assumed
abbrev pub formula_under : Unrolling → Question → List (ℕ × ℕ) → Formula
formula_under u q assumed = record { vars = variables_of (asking u q); clauses = clauses_of (asking u q) ++ assumed_clauses (places_of u.pair) assumed }
