use Rattle.std.proofs.Common.{◌∙◌, sym, ap, length}
use Rattle.step_lanes.specs.Paths.{LaneFrames}
use Rattle.step_lanes.proofs.Apart.{equal_rows}
use Rattle.step_lanes.proofs.rows.LaneRows.of_step.Goals as goal

pub invariant_of-result : goal.invariant_of-result
invariant_of-result c =
    let v : LaneFrames = c.args.paths.now in
    equal_rows c.product.result.now v.pair c.k.result v.k c.lanes-mask.result c.in_ok-words.words.items v.words c.product.ensures.pair c.k.ensures (c.in_ok-words.ensures.items ∙ c.words.ensures.words)
    (record {
      places = sym (ap length c.words.ensures.words) ∙ c.words.ensures.size;
      may = c.lanes-mask.ensures.split c.requires.keeps;
    })
