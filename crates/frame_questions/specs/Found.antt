-- What a question over frames comes to: a path on which two literals differ, or that there is none.
use Rattle.std.specs.Prelude.{◌≡◌, ℕ, ◌+◌, ◌≤◌, ◌<◌, List, Bool, not, None}
use Rattle.circ_model.specs.Meaning.{row_at, value_in, literal_value}
use Rattle.cnf_store.specs.Clauses.{Formula}
use Rattle.sat_log.specs.Derivations.{IsAccepted}
use Rattle.frame_unroll.specs.declared.question.Question.{Question}
use Rattle.frame_questions.specs.declared.found.Seen.{Seen}
use Rattle.frame_questions.specs.declared.found.Separation.{Separation}
use Rattle.frame_questions.specs.declared.found.Separation.TheVariants.{None as NoPath, Path as OnPath}
use Rattle.frame_unroll.specs.Frames.{values}
use Rattle.frame_unroll.specs.Unrolled.{Unrolling, IsSought, NoneSought, asking, formula_of}

-- a path that is sought, the row of one of its frames in which the literals differ, and that they are equal in those before it
pub record IsSeen (u : Unrolling) (q : Question) (s : Seen) : Type 0 where
  pub sought : IsSought (asking u q) s.path
  pub from : q.first ≤ s.frame
  pub to : s.frame < q.first + q.count
  pub row : s.bits ≡ row_at u.pair s.path s.frame
  pub apart : value_in s.bits q.a ≡ not (value_in s.bits q.b)
  pub before : (t : ℕ) → q.first ≤ t → t < s.frame → value_in (row_at u.pair s.path t) q.a ≡ value_in (row_at u.pair s.path t) q.b

abbrev pub IsFound : Unrolling → Question → Separation → Type 0
IsFound u q (NoPath log) = NoneSought u q × IsAccepted (formula_of (asking u q)) log
IsFound u q (OnPath s) = IsSeen u q s

-- no question stands yet, and the formula is that of the frames
pub record ArePrepared (u : Unrolling) (formula : Formula) : Type 0 where
  pub asked : u.asked ≡ None
  pub are : formula ≡ formula_of u

-- two literals in frame t of an assignment with n places a frame: they are equal, or they differ
abbrev pub EqualIn : ℕ → List Bool → ℕ → ℕ → ℕ → Type 0
EqualIn n row t a b = literal_value (values row n t) a ≡ literal_value (values row n t) b

abbrev pub DiffersIn : ℕ → List Bool → ℕ → ℕ → ℕ → Type 0
DiffersIn n row t a b = literal_value (values row n t) a ≡ not (literal_value (values row n t) b)
