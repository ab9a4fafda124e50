use Rattle.std.proofs.Common.{◌≡◌, ◌∙◌, ◌++◌, ◌∷◌, [], ℕ, ℤ, ap, rules, subst, ◌<◌, FitsSigned, w32}
use Rattle.std.proofs.lemmas.Int.{to_z-of_z}
use Rattle.std.proofs.lemmas.List.{get_or_default}
use Rattle.circ_model.specs.Meaning.{literal_value}
use Rattle.and_graph.proofs.Learning.{clause_pushed, literals_pushed}
use Rattle.and_graph.proofs.cone.Cone.write.Goals as goal

pub loop-i-preserved : goal.loop-i-preserved
loop-i-preserved c =
    let x : ℤ = c.in-Some.x in
    let f : FitsSigned w32 x = search rules in
    let is : c.push.new.self.items ≡ c.loop-i.clause.items ++ x ∷ [] = c.in_ok-push-in-Some.ensures.items ∙ ap (λ (y : ℤ). c.loop-i.clause.items ++ y ∷ []) (to_z-of_z w32 x f) in
    record {
      size = search rules;
      literals = literals_pushed c.args.self.now.cnf.vars c.loop-i.clause.items c.push.new.self.items x is c.loop-i.invariant.literals c.in-Some.ensures.literal;
      each = clause_pushed c.args.nodes.now c.args.self.now.members.items c.args.lemma.now c.loop-i.clause.items c.push.new.self.items x c.loop-i.i is c.loop-i.invariant.size c.loop-i.invariant.each
          (λ v a obeys shown. c.in-Some.ensures.value v a obeys shown ∙ ap (literal_value v) (c.index-lemma-i.is ∙ get_or_default c.args.lemma.now c.loop-i.i c.index-lemma-i.result 0 c.loop-i-test.true));
    }

pub returns-clause-each : goal.returns-clause-each
returns-clause-each c all v a j d obeys shown lt = c.loop-i.invariant.each v a j d obeys shown (subst (λ (n : ℕ). j < n) c.loop-i.invariant.size lt)
