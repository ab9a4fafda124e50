use Rattle.std.proofs.Common.{◌≡◌, ℕ, Bool}
use Rattle.circ_model.specs.Meaning.{literal_value, signed}
use Rattle.and_graph.specs.Graphs.{Obeys}
use Rattle.and_graph.specs.Sums.{sum_of}
use Rattle.and_graph.proofs.sums.Sum.are_equal.Given as goal

abbrev pub invariant-loop : goal.invariant-loop
invariant-loop l = (v : ℕ → Bool) → Obeys l.nodes v → signed l.self.is_odd (sum_of v l.self.terms.items) ≡ signed (literal_value v l.fn.y) (literal_value v l.fn.x)
