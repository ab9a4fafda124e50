use Rattle.std.proofs.Common.{◌∙◌, ℤ, pos, get_or, ap, rules, w32}
use Rattle.std.proofs.lemmas.Int.{ints, to_z-of_z}
use Rattle.std.proofs.lemmas.List.{get_or_default}
use Rattle.cnf_store.specs.Clauses.{literal_true}
use Rattle.and_graph.proofs.Learning.{row_pushed}
use Rattle.and_graph.proofs.lemmas.write.Goals as goal

pub loop-lit-preserved : goal.loop-lit-preserved
loop-lit-preserved c =
    let i = c.loop-lit.lit-index in
    let x : ℤ = get_or c.args.clause.now i (pos 0) in
    let is = c.requires.small i (pos 0) c.loop-lit-test.true in
    let s = c.node_literal.ensures.value in record {
      size = search rules;
      each = row_pushed c.args.members.now c.loop-lit.row.items c.push.new.self.items c.args.clause.now c.node_literal.result i c.in_ok-push.ensures.items c.loop-lit.invariant.size c.loop-lit-test.true c.loop-lit.invariant.each
          (λ v a d shown. s v a shown ∙ ap (literal_true a) (to_z-of_z w32 x (search (rules, ints, is)) ∙ get_or_default c.args.clause.now i (pos 0) d c.loop-lit-test.true));
    }
