use Rattle.std.proofs.Common.{◌≡◌, ◌<◌, ◌*◌, map, take}
use Rattle.std.specs.List.{All}
use Rattle.sat_core.specs.Signed.{lit_of}
use Rattle.sat_core.proofs.edge.push_codes.Given as goal

abbrev pub invariant-loop-lit : goal.invariant-loop-lit
invariant-loop-lit l = record {
  is : map lit_of l.codes.items ≡ take l.lit-index l.clause;
  within : All (λ x. x < 2 * l.vars) l.codes.items;
}
