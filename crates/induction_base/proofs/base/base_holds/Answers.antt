use Rattle.std.proofs.Common.{◌-◌, subst}
use Rattle.frame_questions.specs.declared.found.Separation.{Separation}
use Rattle.frame_questions.specs.declared.found.Separation.TheVariants as found
use Rattle.frame_questions.specs.Found.{IsFound}
use Rattle.frame_unroll.specs.Unrolled.{asks}
use Rattle.induction_base.proofs.Asking.{is_base}
use Rattle.induction_base.proofs.base.base_holds.Goals as goal

pub returns-in-None : goal.returns-in-None
returns-in-None c = is_base c.args.product.now c.in_ok-frames.frames c.args.k c.args.a c.args.b (found.None c.in-None.log) c.in_ok-frames.ensures c.requires.some (subst (λ (f : Separation). IsFound c.in_ok-frames.frames (asks c.args.a c.args.b 0 (c.args.k - 1)) f) c.in-None.is c.in_ok-log.ensures)
