use Rattle.std.proofs.Common.{◌≡◌, map, take}
use Rattle.cnf_store.specs.Clauses.{AreLiterals}
use Rattle.sat_core.specs.Signed.{lit_of}
use Rattle.sat_core.proofs.edge.push_literals.Given as goal

abbrev pub invariant-loop-code : goal.invariant-loop-code
invariant-loop-code l = record {
  is : l.literals.items ≡ map lit_of (take l.code-index l.codes);
  literals : AreLiterals 2147483647 l.literals.items;
}
