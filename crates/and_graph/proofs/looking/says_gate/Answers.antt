use Rattle.std.proofs.Common.{◌≡◌, ◌∙◌, sym, ap, pos, false}
use Rattle.circ_model.specs.Meaning.{is_odd}
use Rattle.and_graph.proofs.Questions.{gate_holds}
use Rattle.and_graph.proofs.looking.says_gate.Goals as goal

pub returns-then-not-complement : goal.returns-then-not-complement
returns-then-not-complement c is v a obeys shown =
    let even : is_odd c.own_at-own.result ≡ false = sym c.complement.ensures ∙ c.if-not-complement.true in
    gate_holds v a c.args.clause.now c.own_at-own.result c.literal_at-a.result c.literal_at-b.result c.operands_of-left.result.0 c.operands_of-left.result.1 c.requires.size
    (c.own_at-own.ensures.value v a (pos 0) shown) (c.literal_at-a.ensures.value v a (pos 0) obeys shown) (c.literal_at-b.ensures.value v a (pos 0) obeys shown) even
    (ap v (sym c.var.ensures) ∙ c.operands_of-left.ensures.value v obeys) (c.are_complements.ensures is v)
