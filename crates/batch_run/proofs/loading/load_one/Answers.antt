use Rattle.std.proofs.Common.{is_ok}
use Rattle.batch_run.proofs.Extending.{extends_push}
use Rattle.batch_run.proofs.loading.load_one.Goals as goal

pub returns-in_err-push-in-Ok-clause-extends : goal.returns-in_err-push-in-Ok-clause-extends
returns-in_err-push-in-Ok-clause-extends g c = extends_push (is_ok c.push.result) c.args.products.now.items c.push.new.self.items c.in-Ok.product c.push.ensures.items
