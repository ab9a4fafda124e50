-- A cone with variables of its own: one for each node on which its question rests.
use Rattle.std.specs.Prelude.{◌≡◌, ℕ, ◌+◌, ◌<◌, List, length, Bool, true, slice_index_or}
use Rattle.circ_model.specs.Meaning.{bit}
use Rattle.cnf_store.specs.Clauses.{Formula, satisfies}
use Rattle.and_graph.specs.declared.node.Node.{Node}
use Rattle.and_graph.specs.Graphs.{Obeys}

-- member j is a node of the graph; it has CNF variable j + 1
abbrev pub member_at : List ℕ → ℕ → ℕ
member_at members j = slice_index_or members j 0

-- each member is one of so many nodes
pub record AreWithin (size : ℕ) (members : List ℕ) : Type 0 where
  pub at : (j : ℕ) → j < length members → member_at members j < size

-- an assignment has the values of the members
pub record Shows (members : List ℕ) (v : ℕ → Bool) (a : List Bool) : Type 0 where
  pub bits : (j : ℕ) → j < length members → bit a j ≡ v (member_at members j)

-- more members, with those that there were in front
pub record GoesOn (members more : List ℕ) : Type 0 where
  pub size : length members < length more + 1
  pub same : (j : ℕ) → j < length members → member_at more j ≡ member_at members j

-- a cone: members with a variable each, and clauses that the values of each valuation satisfy
pub record IsCone (nodes : List Node) (members : List ℕ) (formula : Formula) : Type 0 where
  pub vars : formula.vars ≡ length members
  pub within : AreWithin (length nodes) members
  pub hold : (v : ℕ → Bool) (a : List Bool) → Obeys nodes v → Shows members v a → satisfies a formula.clauses ≡ true
