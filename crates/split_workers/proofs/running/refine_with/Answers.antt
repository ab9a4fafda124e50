use Rattle.std.proofs.Common.{refl, subst, sym}
use Rattle.circ_model.specs.Meaning.{Pair}
use Rattle.verdict_stamp.specs.Opening.{AreFramesThatAdd, AreOpened}
use Rattle.verdict_stamp.specs.Versions.{Standing}
use Rattle.split_workers.proofs.running.refine_with.Goals as goal

pub refine_from-refined-requires-clause-first : goal.refine_from-refined-requires-clause-first
refine_from-refined-requires-clause-first g c κs within =
    let first : Standing = c.in_ok-first.first in
    let said = c.in_ok-first.ensures in
    record {
      version = c.product-product.ensures.kept;
      pair_is = refl;
      k_is = refl;
      classes = subst (λ (p : Pair). AreOpened p 16 first.classes) (sym said.product) said.classes;
      number = subst (λ (p : Pair). AreFramesThatAdd p 16 first.number) (sym said.product) said.number;
    }
