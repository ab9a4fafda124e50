use Rattle.std.proofs.Common.{◌∙◌, ap, sym}
use Rattle.circ_model.specs.Meaning.{literal_value}
use Rattle.and_graph.proofs.cone.Cone.recall_merged.Goals as goal

pub recall_equal-requires-clause-equal : goal.recall_equal-requires-clause-equal
recall_equal-requires-clause-equal c v obeys = ap (literal_value v) (sym c.of.ensures) ∙ sym (c.canonical_of-lit.ensures.value v (c.requires.graph.agree v obeys))
