use Rattle.std.proofs.Common.{ℕ, List, true, subst, sym}
use Rattle.std.specs.Prelude.{None}
use Rattle.std.proofs.lemmas.List.Elements.{All-nil}
use Rattle.circ_model.specs.Correspondence.{IsLiteralPair}
use Rattle.frame_unroll.specs.Ready.{unrolling, IsOutline}
use Rattle.frame_unroll.proofs.outline.Outline.reset_frames.Goals as goal

pub invariant_of-result : goal.invariant_of-result
invariant_of-result c =
    subst (λ (ps : List (ℕ × ℕ)). IsOutline (unrolling c.args.product.now true c.args.t ps None)) (sym c.new.ensures.items)
    (record { pair = c.cells-cells.ensures.pair; fine = record { frames = c.requires.some; needed = All-nil (IsLiteralPair c.args.product.now); asked = tt }; few = c.requires.few })
