use Rattle.std.proofs.Common.{◌∙◌, eqb-true, sym, ap}
use Rattle.std.proofs.lemmas.List.{get_or_default}
use Rattle.circ_model.specs.Meaning.{literal_value}
use Rattle.and_graph.proofs.looking.same_at.Goals as goal

pub returns : goal.returns
returns c is v a d obeys shown =
    sym (c.literal_at.ensures.value v a d obeys shown)
    ∙ ap (literal_value v) (eqb-true c.literal_at.result c.canonical_of.result (sym c.eq.ensures ∙ is))
    ∙ c.canonical_of.ensures.value v (c.requires.graph.agree v obeys)
    ∙ ap (literal_value v) (c.index-lemma-k.is ∙ get_or_default c.args.lemma.now c.args.k c.index-lemma-k.result 0 c.requires.in_lemma)
