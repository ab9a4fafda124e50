use Rattle.std.proofs.Common.{◌∙◌}
use Rattle.and_graph.proofs.looking.literal_at.Goals as goal

pub returns : goal.returns
returns c = record { value = λ v a d obeys shown. c.canonical_of.ensures.value v (c.requires.graph.agree v obeys) ∙ c.own_at.ensures.value v a d shown }
