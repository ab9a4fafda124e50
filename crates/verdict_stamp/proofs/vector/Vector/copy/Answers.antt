use Rattle.std.proofs.Common.{◌∙◌, sym, ap, subst}
use Rattle.circ_model.specs.Correspondence.{MaySplit}
use Rattle.verdict_stamp.specs.Versions.{Split}
use Rattle.verdict_stamp.proofs.vector.Vector.copy.Goals as goal

pub of-requires-clause-may : goal.of-requires-clause-may
of-requires-clause-may c =
    let row = c.copy_from.ensures ∙ c.bits-bits.ensures.bits ∙ sym (ap (λ (s : Split). s.bits) c.self.view_is) in
    subst (MaySplit c.self.inside.product.now c.self.inside.depth) (sym row) c.self.invariant.may
