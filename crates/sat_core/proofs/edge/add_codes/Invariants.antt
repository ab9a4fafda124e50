use Rattle.std.proofs.Common.{◌≡◌, ◌++◌, take}
use Rattle.cnf_store.specs.Codes.{AreWithin}
use Rattle.sat_core.specs.Signed.{signed_clauses}
use Rattle.sat_core.proofs.edge.add_codes.Given as goal

abbrev pub invariant-loop-i : goal.invariant-loop-i
invariant-loop-i l = record {
  is : signed_clauses l.clauses ≡ signed_clauses l.initial.clauses ++ take l.i l.cnf.clauses;
  within : AreWithin l.vars l.clauses;
}
