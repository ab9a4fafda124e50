use Rattle.std.proofs.Common.{◌∙◌, ◌++◌, ◌∷◌, [], ℤ, List, ap}
use Rattle.cnf_store.specs.Clauses.{Formula}
use Rattle.and_graph.proofs.Learning.{cone_lemma}
use Rattle.and_graph.proofs.cone.Cone.recall.Goals as goal

pub returns-in_ok-push-clause-cone : goal.returns-in_ok-push-clause-cone
returns-in_ok-push-clause-cone c =
    let clause = c.write.new.clause.items in
    let old : Formula = c.args.self.now.cnf in
    cone_lemma c.args.nodes.now c.args.self.now.members.items c.args.lemma.now old c.add.new.self clause c.requires.cone (ap (λ (f : Formula). f.vars) c.in_ok-add.ensures.added)
    (ap (λ (f : Formula). f.clauses) c.in_ok-add.ensures.added ∙ ap (λ (xs : List ℤ). old.clauses ++ xs ∷ []) c.as_slice.ensures.value)
    (c.in_ok-write.ensures.size c.if-branch.true) (c.in_ok-write.ensures.each c.if-branch.true) c.requires.holds
