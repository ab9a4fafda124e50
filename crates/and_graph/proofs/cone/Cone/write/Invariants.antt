use Rattle.std.proofs.Common.{◌≡◌, ◌<◌, ℕ, ℤ, Bool, List, length, get_or}
use Rattle.circ_model.specs.Meaning.{literal_value}
use Rattle.cnf_store.specs.Clauses.{AreLiterals, literal_true}
use Rattle.and_graph.specs.Graphs.{Obeys}
use Rattle.and_graph.specs.Cones.{Shows}
use Rattle.and_graph.proofs.cone.Cone.write.Given as goal

abbrev pub invariant-loop-i : goal.invariant-loop-i
invariant-loop-i l = record {
  size : length l.clause.items ≡ l.i;
  literals : AreLiterals l.self.cnf.vars l.clause.items;
  each : (v : ℕ → Bool) (a : List Bool) (j : ℕ) (d : ℤ) → Obeys l.nodes v → Shows l.self.members.items v a → j < l.i → literal_true a (get_or l.clause.items j d) ≡ literal_value v (get_or l.lemma j 0);
}
