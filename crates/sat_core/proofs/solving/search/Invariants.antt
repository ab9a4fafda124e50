use Rattle.std.proofs.Common.{◌≡◌, ◌-◌, ◌+◌, ◌*◌, ◌^◌}
use Rattle.sat_core.specs.Solving.{Keeps}
use Rattle.sat_trail.specs.Rank.{rank}
use Rattle.sat_core.proofs.solving.search.Given as goal

abbrev pub invariant-steps : goal.invariant-steps
invariant-steps l = record {
  keeps : Keeps l.s;
  vars : l.s.vars ≡ l.fn.s.vars;
  formula : l.s.formula ≡ l.fn.s.formula;
}

abbrev pub decreases-steps : goal.decreases-steps
decreases-steps l = (1000000 - l.restarts) * 3 ^ l.s.vars + (3 ^ l.s.vars - rank l.s.vars l.s.trail.reasons.items)
