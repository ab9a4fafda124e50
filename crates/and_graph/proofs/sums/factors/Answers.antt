use Rattle.std.proofs.Common.{◌∙◌, ap, ap₂, sym}
use Rattle.circ_model.specs.Meaning.{signed}
use Rattle.and_graph.proofs.sums.factors.Goals as goal

pub returns-then-complement : goal.returns-then-complement
returns-then-complement c = record { value = λ v obeys. ap₂ signed (sym c.complement.ensures ∙ c.if-complement.true) (ap v (sym c.var.ensures) ∙ c.operands_of.ensures.value v obeys) }
