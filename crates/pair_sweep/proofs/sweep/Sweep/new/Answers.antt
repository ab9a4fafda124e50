use Rattle.std.proofs.Common.{◌∙◌, ap, sym}
use Rattle.circ_model.specs.Meaning.{places_of}
use Rattle.pair_sweep.specs.Sweeps.{Extent}
use Rattle.pair_sweep.proofs.Sweeping.{sweep_begun}
use Rattle.pair_sweep.proofs.sweep.Sweep.new.Goals as goal

pub invariant_of-result : goal.invariant_of-result
invariant_of-result c =
    sweep_begun c.memory.inside.graph c.map_step.new.graph c.memory.inside.resets c.memory.inside.steps c.map_step.new.self c.clear.new.self c.memory.inside.k c.args.classes.now
    c.map_step.ensures.on c.memory.invariant (c.requires.places ∙ ap (λ (m : Extent). places_of m.pair) (sym c.memory.view_is)) c.map_step.ensures.leaves c.map_step.ensures.depth c.in_ok-map_step.ensures.map c.in_ok-clear.ensures
