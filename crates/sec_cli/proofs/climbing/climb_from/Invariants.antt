use Rattle.command_line.specs.Asked.{climb_asked}
use Rattle.sec_cli.specs.Climbs.{IsReached}
use Rattle.sec_cli.proofs.Depths.{IsSoFar}
use Rattle.sec_cli.proofs.climbing.climb_from.Given as goal

abbrev pub invariant-loop-k : goal.invariant-loop-k
invariant-loop-k g l = IsSoFar l.product (climb_asked l.c) l.k l.before × IsReached l.product l.k l.reached
