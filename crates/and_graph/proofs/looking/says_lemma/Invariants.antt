use Rattle.std.proofs.Common.{◌≡◌, ◌<◌, ℕ, ℤ, Bool, List, get_or}
use Rattle.circ_model.specs.Meaning.{literal_value}
use Rattle.cnf_store.specs.Clauses.{literal_true}
use Rattle.and_graph.specs.Graphs.{Obeys}
use Rattle.and_graph.specs.Cones.{Shows}
use Rattle.and_graph.proofs.looking.says_lemma.Given as goal

abbrev pub invariant-loop-k : goal.invariant-loop-k
invariant-loop-k l = (j : ℕ) → j < l.k → (v : ℕ → Bool) (a : List Bool) (d : ℤ) → Obeys l.nodes v → Shows l.members v a → literal_true a (get_or l.clause j d) ≡ literal_value v (get_or l.lemma j 0)
