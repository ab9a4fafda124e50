-- What an unrolling's parts say.
use Rattle.std.specs.Prelude.{◌≡◌, ◌≤◌, ◌*◌, ℕ, List, Bool, Option, length}
use Rattle.circ_model.specs.Meaning.{Pair, IsSoundPair, places_of}
use Rattle.cnf_store.specs.Clauses.{Formula, AreClauses}
use Rattle.frame_unroll.specs.declared.question.Question.{Question}
use Rattle.frame_unroll.specs.Unrolled.{Unrolling, IsUnrolling, formula_of, plain_clauses}

abbrev pub unrolling : Pair → Bool → ℕ → List (ℕ × ℕ) → Option Question → Unrolling
unrolling pair reset count pairs question = record { pair = pair; from_reset = reset; frames = count; needed = pairs; asked = question }

-- what is known of it without its clauses
pub record IsOutline (u : Unrolling) : Type 0 where
  pub pair : IsSoundPair u.pair
  pub fine : IsUnrolling u
  pub few : u.frames ≤ 64

-- the formula is that of the unrolling; without the question it has so many clauses, on the variables of the frames alone
pub record IsReady (u : Unrolling) (formula : Formula) (plain : ℕ) : Type 0 where
  pub outline : IsOutline u
  pub are : formula ≡ formula_of u
  pub without : plain ≡ length (plain_clauses u)
  pub within : AreClauses (u.frames * places_of u.pair) (plain_clauses u)
