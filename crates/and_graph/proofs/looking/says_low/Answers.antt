use Rattle.std.proofs.Common.{◌∙◌, eqb-true, sym, ap, pos, arith, true, not}
use Rattle.circ_model.specs.Meaning.{literal_value}
use Rattle.circ_model.proofs.Literals.{signed_literal}
use Rattle.and_graph.proofs.Questions.{holds_at}
use Rattle.and_graph.proofs.looking.says_low.Goals as goal

pub returns : goal.returns
returns c is v a obeys shown = holds_at a c.args.clause.now 0 (omega (arith, c.requires.size))
    (sym (c.literal_at.ensures.value v a (pos 0) obeys shown)
    ∙ ap (literal_value v) (eqb-true c.literal_at.result c.of.result (sym c.eq.ensures ∙ is) ∙ c.of.ensures)
    ∙ signed_literal v 0 true ∙ ap not obeys.low)
