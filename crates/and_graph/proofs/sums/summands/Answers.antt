use Rattle.std.proofs.Common.{◌∙◌, ◌&&◌, Bool, not, ap, ap₂}
use Rattle.circ_model.specs.Meaning.{literal_value}
use Rattle.and_graph.proofs.Parity.{exclusive}
use Rattle.and_graph.proofs.sums.summands.Goals as goal

pub returns-then-are_both_false : goal.returns-then-are_both_false
returns-then-are_both_false c = record {
  value = λ v obeys.
      c.operands_of.ensures.value v obeys
      ∙ ap₂ (λ (x y : Bool). x && y) (c.in_ok-both.ensures.value v obeys) (c.in_ok-neither.ensures.value v obeys ∙ ap not (c.are_both_false.ensures c.if-are_both_false.true v))
      ∙ exclusive (literal_value v c.in_ok-both.both.0) (literal_value v c.in_ok-both.both.1);
}
