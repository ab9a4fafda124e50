use Rattle.std.proofs.Common.{ap}
use Rattle.pair_sweep.specs.Sweeps.{Extent}
use Rattle.split_rows.proofs.Held.{keeps_by}
use Rattle.verdict_stamp.proofs.prover.Prover.run_on.Goals as goal

pub run_on-requires-clause-keeps : goal.run_on-requires-clause-keeps
run_on-requires-clause-keeps c =
    let v = c.self.inside.current.now in
    let rows : Extent = c.self.inside.rows in
    keeps_by rows.pair v.pair rows.k v.k c.classes-classes.result.now v.classes
    (ap (λ (e : Extent). e.pair) c.self.invariant.2) (ap (λ (e : Extent). e.k) c.self.invariant.2) c.classes-classes.ensures.classes c.self.invariant.0.keeps
