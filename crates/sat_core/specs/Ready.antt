-- A formula by codes, as it is kept between questions.
use Rattle.std.specs.Prelude.{◌≡◌, ◌≤◌, ℕ, List, [], length}
use Rattle.cnf_store.specs.Clauses.{Formula}
use Rattle.cnf_store.specs.Codes.{AreWithin}
use Rattle.sat_core.specs.declared.workspace.Kept.{Kept}
use Rattle.sat_core.specs.Signed.{signed_clauses}

pub record AreCodes (vars : ℕ) (codes : List (List ℕ)) : Type 0 where
  pub few : vars ≤ 2147483647
  pub within : AreWithin vars codes

-- a question by codes, and nothing of an earlier one
pub record IsPosed (own : Formula) (kept : Kept) : Type 0 where
  pub value : signed_clauses kept.question.own ≡ own.clauses
  pub within : AreWithin own.vars kept.question.own
  pub learned : kept.memory.learned ≡ []
  pub trail : kept.memory.trail.lits.items ≡ []
  pub size : length kept.memory.trail.at.items ≡ own.vars
