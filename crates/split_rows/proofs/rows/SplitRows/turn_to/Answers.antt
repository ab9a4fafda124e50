use Rattle.std.proofs.Common.{◌≡◌, ◌∙◌, subst, sym}
use Rattle.std.proofs.lemmas.List.Elements.{All-pop}
use Rattle.pair_sweep.specs.Sweeps.{Extent}
use Rattle.step_lanes.specs.Rows.{MaskedRows}
use Rattle.split_rows.specs.Rows.{AreOf}
use Rattle.split_rows.proofs.rows.SplitRows.turn_to.Goals as goal

pub loop-block-preserved : goal.loop-block-preserved
loop-block-preserved c =
    let e : Extent = c.loop-block.self in (
      c.take.ensures ∙ c.loop-block.invariant.0,
      subst (λ (x : Extent). AreOf x.pair x.k c.pop.new.self.items) (sym c.take.ensures)
          (All-pop (λ (b : MaskedRows). (b.pair ≡ e.pair) × (b.k ≡ e.k)) c.loop-block.blocks.items c.pop.new.self.items c.pop.result c.pop.ensures.items c.loop-block.invariant.1).0,
    )
