use Rattle.std.proofs.Common.{ℕ, Option, subst}
use Rattle.sat_log.proofs.Soundness.{refuted}
use Rattle.log_check.specs.FirstBad.{IsFirstBad}
use Rattle.log_check.proofs.Following.{not_accepted}
use Rattle.log_check.proofs.whole_log.check.Goals as goal

pub returns-in-None-clause-sound : goal.returns-in-None-clause-sound
returns-in-None-clause-sound c = λ e. refuted c.args.formula.now c.args.log.now (subst (λ (r : Option ℕ). IsFirstBad c.args.formula.now c.args.log.now r) c.in-None.is c.in_ok-first_bad.ensures)

pub returns-in-Some-clause-exact : goal.returns-in-Some-clause-exact
returns-in-Some-clause-exact c = not_accepted c.args.formula.now c.args.log.now _ (subst (λ (r : Option ℕ). IsFirstBad c.args.formula.now c.args.log.now r) c.in-Some.is c.in_ok-first_bad.ensures)
