use Rattle.std.proofs.Common.{◌∙◌, ◌++◌, ◌∷◌, [], ℕ, List, ap}
use Rattle.corr_certificate.proofs.Ranges.{range_more}
use Rattle.corr_certificate.proofs.reading.class_lines.places_in_order.Goals as goal

pub loop-p-preserved : goal.loop-p-preserved
loop-p-preserved c = c.in_ok-push.ensures.items ∙ ap (λ (l : List ℕ). l ++ c.loop-p.p ∷ []) c.loop-p.invariant ∙ range_more c.loop-p.p
