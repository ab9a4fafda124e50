use Rattle.std.proofs.Common.{◌∙◌, eqb-true, sym, ap, pos, arith}
use Rattle.circ_model.specs.Meaning.{literal_value}
use Rattle.and_graph.proofs.Questions.{both_hold}
use Rattle.and_graph.proofs.looking.has_both.Goals as goal

pub returns-then-eq : goal.returns-then-eq
returns-then-eq c is v a shown apart =
    both_hold v a c.args.clause.now c.args.x c.args.y (omega (arith, c.if-clause-ne2.false))
    (ap (literal_value v) (sym (eqb-true c.own_at.result c.args.x (sym c.eq.ensures ∙ c.if-eq.true))) ∙ c.own_at.ensures.value v a (pos 0) shown)
    (ap (literal_value v) (sym (eqb-true c.own_at-then-eq.result c.args.y (sym c.eq-then-eq.ensures ∙ is))) ∙ c.own_at-then-eq.ensures.value v a (pos 0) shown) apart
