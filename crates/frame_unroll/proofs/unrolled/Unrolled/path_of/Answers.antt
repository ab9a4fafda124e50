use Rattle.std.proofs.Common.{◌≡◌, true, subst, sym}
use Rattle.cnf_store.specs.Clauses.{satisfies}
use Rattle.frame_unroll.specs.Unrolled.{Unrolling, clauses_of}
use Rattle.frame_unroll.proofs.unrolled.Unrolled.path_of.Goals as goal

pub path_of-requires-clause-satisfied : goal.path_of-requires-clause-satisfied
path_of-requires-clause-satisfied c = subst (λ (u : Unrolling). satisfies c.args.row.now (clauses_of u) ≡ true) (sym c.self.view_is) c.requires.satisfied
