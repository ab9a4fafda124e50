use Rattle.std.proofs.Common.{subst, sym}
use Rattle.class_partition.specs.Classes.{KeepsGreatest}
use Rattle.pair_sweep.specs.Sweeps.{Extent}
use Rattle.split_rows.proofs.rows.SplitRows.run_on.Goals as goal

pub run_paths-requires-clause-keeps : goal.run_paths-requires-clause-keeps
run_paths-requires-clause-keeps c = subst (λ (e : Extent). KeepsGreatest e.pair e.k c.args.classes.now) (sym c.draw.ensures.kept) c.requires.keeps
