use Rattle.std.proofs.Common.{◌-◌, ◌^◌, ◌∙◌, ap, arith}
use Rattle.std.proofs.lemmas.List.{take_all}
use Rattle.sec_cli.specs.Stats.{stats_of}
use Rattle.sec_cli.proofs.Tallied.{are_few, one_more}
use Rattle.sec_cli.proofs.counting.stats_of.Goals as goal

pub with_step-stats-requires : goal.with_step-stats-requires
with_step-stats-requires c = are_few c.args.journal.now.entries c.loop-i.i (2 ^ 64 - 1) c.loop-i.stats (omega arith) c.loop-i.invariant

pub loop-i-preserved : goal.loop-i-preserved
loop-i-preserved c = one_more c.args.journal.now.entries c.loop-i.i c.entry.result.now c.loop-i.stats c.with_step-stats.result (omega arith) c.entry.ensures c.loop-i.invariant c.with_step-stats.ensures

pub returns : goal.returns
returns c = c.loop-i.invariant ∙ ap stats_of (take_all c.loop-i.i c.args.journal.now.entries (omega arith))
