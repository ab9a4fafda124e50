use Rattle.std.proofs.Common.{◌∙◌, ap}
use Rattle.pair_sweep.specs.Sweeps.{Extent}
use Rattle.split_rows.proofs.Held.{keeps_by}
use Rattle.split_rows.proofs.rows.SplitRows.run_paths.Goals as goal

pub go_on-gone-requires-clause-keeps : goal.go_on-gone-requires-clause-keeps
go_on-gone-requires-clause-keeps c =
    let lanes = c.step_frames.new.lanes in
    keeps_by lanes.pair c.args.self.now.pair lanes.k c.args.self.now.k lanes.classes c.args.classes.now
    (c.step_frames.ensures.pair ∙ c.in_ok-lanes.ensures.pair ∙ ap (λ (e : Extent). e.pair) c.self.view_is)
    (c.step_frames.ensures.k ∙ c.in_ok-lanes.ensures.k ∙ ap (λ (e : Extent). e.k) c.self.view_is)
    (c.step_frames.ensures.classes ∙ c.in_ok-lanes.ensures.classes) c.requires.keeps
