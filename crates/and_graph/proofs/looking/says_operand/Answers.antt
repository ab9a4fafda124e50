use Rattle.std.proofs.Common.{◌∙◌, eqb-true, sym, ap, pos, inl, inr}
use Rattle.and_graph.proofs.Questions.{operand_holds}
use Rattle.and_graph.proofs.looking.says_operand.Goals as goal

pub returns-then-eq : goal.returns-then-eq
returns-then-eq c is v a obeys shown =
    operand_holds v a c.args.clause.now c.own_at-own.result c.literal_at-other.result c.operands_of-left.result.0 c.operands_of-left.result.1 c.requires.size
    (c.own_at-own.ensures.value v a (pos 0) shown) (c.literal_at-other.ensures.value v a (pos 0) obeys shown) (sym c.complement.ensures ∙ c.if-complement.true)
    (ap v (sym c.var.ensures) ∙ c.operands_of-left.ensures.value v obeys) (inl (eqb-true c.literal_at-other.result c.operands_of-left.result.0 (sym c.eq.ensures ∙ c.if-eq.true)))

pub returns-else-eq : goal.returns-else-eq
returns-else-eq c is v a obeys shown =
    operand_holds v a c.args.clause.now c.own_at-own.result c.literal_at-other.result c.operands_of-left.result.0 c.operands_of-left.result.1 c.requires.size
    (c.own_at-own.ensures.value v a (pos 0) shown) (c.literal_at-other.ensures.value v a (pos 0) obeys shown) (sym c.complement.ensures ∙ c.if-complement.true)
    (ap v (sym c.var.ensures) ∙ c.operands_of-left.ensures.value v obeys) (inr (eqb-true c.literal_at-other.result c.operands_of-left.result.1 (sym c.eq-else-eq.ensures ∙ is)))
