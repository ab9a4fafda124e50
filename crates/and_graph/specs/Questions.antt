-- A question whether two literals can differ, over a cone: it is answered by its clauses alone.
use Rattle.std.specs.Prelude.{◌≡◌, ◌≤◌, ℕ, List, length, Bool, false}
use Rattle.cnf_store.specs.Clauses.{Formula, satisfies}
use Rattle.and_graph.specs.declared.node.Node.{Node}
use Rattle.and_graph.specs.Graphs.{AreEqual}
use Rattle.and_graph.specs.Cones.{AreWithin}
use Rattle.and_graph.specs.Lemmas.{GivenHold}

-- the first so many clauses hold under each valuation of the nodes; and where no assignment satisfies all clauses, the two
-- literals are equal under each
pub record IsQuestion (nodes : List Node) (members : List ℕ) (formula : Formula) (x y given : ℕ) : Type 0 where
  pub vars : formula.vars ≡ length members
  pub within : AreWithin (length nodes) members
  pub part : given ≤ length formula.clauses
  pub hold : GivenHold nodes members formula.clauses given
  pub refutes : ((row : List Bool) → satisfies row formula.clauses ≡ false) → AreEqual nodes x y
