use Rattle.std.proofs.Common.{◌∙◌, ◌++◌, ◌∷◌, [], ℕ, List, ap, sym, subst}
use Rattle.and_graph.specs.Lemmas.{AreLemmas}
use Rattle.and_graph.proofs.Learning.{lemma_added}
use Rattle.and_graph.proofs.lemmas.Lemmas.take.Goals as goal

pub returns : goal.returns
returns c = record {
  lemmas = subst (AreLemmas c.args.nodes.now) (sym (c.file.ensures ∙ c.in_ok-add.ensures.ok ∙ ap (λ (r : List ℕ). c.args.self.now.clauses ++ r ∷ []) c.as_slice.ensures.value))
      (lemma_added c.args.nodes.now c.args.members.now c.write.new.row.items c.args.clause.now c.args.self.now.clauses c.in_ok-write.ensures.size c.in_ok-write.ensures.each c.requires.holds c.requires.lemmas);
}
