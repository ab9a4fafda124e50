use Rattle.std.proofs.Common.{◌≡◌, length}
use Rattle.and_graph.specs.Lemmas.{AreLemmas, PureHold}
use Rattle.and_graph.proofs.lemmas.Lemmas.learn.Given as goal

abbrev pub invariant-loop-i : goal.invariant-loop-i
invariant-loop-i l = record {
  size : length l.pure.items ≡ l.i;
  pure : PureHold l.nodes l.members l.log l.pure.items;
  lemmas : AreLemmas l.nodes l.self.clauses;
}
