use Rattle.std.proofs.Common.{arith}
use Rattle.command_line.specs.Meant.{meant}
use Rattle.command_line.specs.Plain.{texts}
use Rattle.sec_cli.proofs.Unfailing.{all_written}
use Rattle.run_tests.proofs.runs.run_over_sure_devices.Goals as goal

pub returns-clause-written : goal.returns-clause-written
returns-clause-written g c = λ six. all_written (meant (texts c.args.words.now)) _ _ _ _ (λ r. omega (arith, r)) (λ r. omega (arith, r)) (c.run.ensures.unwritten six)
