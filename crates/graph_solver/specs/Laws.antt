-- The law of what a solver was told, as a statement.
use Rattle.std.specs.Prelude.{◌≤◌, ℕ, List, length, Bool}
use Rattle.and_graph.specs.declared.node.Node.{Node}
use Rattle.and_graph.specs.Graphs.{Obeys}
use Rattle.graph_solver.specs.Known.{IsKept, Known}

-- it holds of each graph of no fewer nodes all of whose valuations are this one's: of one that it grows to, and one that takes in merges
abbrev pub KeptStays : Type 0
KeptStays = (nodes after : List Node) (known : Known) → length nodes ≤ length after → ((v : ℕ → Bool) → Obeys after v → Obeys nodes v) → IsKept nodes known → IsKept after known
