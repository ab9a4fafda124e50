use Rattle.std.proofs.Common.{◌∙◌, eqb-true, sym, ap, pos}
use Rattle.circ_model.specs.Meaning.{literal_value}
use Rattle.circ_model.proofs.Literals.{negated_value}
use Rattle.and_graph.proofs.Questions.{both_hold}
use Rattle.and_graph.proofs.looking.says_equal.Goals as goal

pub returns : goal.returns
returns c is v a obeys shown =
    both_hold v a c.args.clause.now c.literal_at-a.result c.literal_at-b.result c.requires.size (c.literal_at-a.ensures.value v a (pos 0) obeys shown) (c.literal_at-b.ensures.value v a (pos 0) obeys shown)
    (ap (literal_value v) (eqb-true c.literal_at-a.result c.not.result (sym c.eq.ensures ∙ is) ∙ c.not.ensures) ∙ negated_value v c.literal_at-b.result)
