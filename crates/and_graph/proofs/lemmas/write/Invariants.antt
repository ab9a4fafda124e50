use Rattle.std.proofs.Common.{◌≡◌, ◌<◌, ℕ, ℤ, Bool, List, length, get_or}
use Rattle.circ_model.specs.Meaning.{literal_value}
use Rattle.cnf_store.specs.Clauses.{literal_true}
use Rattle.and_graph.specs.Cones.{Shows}
use Rattle.and_graph.proofs.lemmas.write.Given as goal

abbrev pub invariant-loop-lit : goal.invariant-loop-lit
invariant-loop-lit l = record {
  size : length l.row.items ≡ l.lit-index;
  each : (v : ℕ → Bool) (a : List Bool) (j : ℕ) (d : ℤ) → Shows l.members v a → j < l.lit-index → literal_value v (get_or l.row.items j 0) ≡ literal_true a (get_or l.clause j d);
}
