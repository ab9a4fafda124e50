use Rattle.std.proofs.Common.{◌∙◌, ℕ, subst}
use borrow.Author.Count.{below_more}
use Rattle.class_partition.specs.Classes.{Passes}
use Rattle.frame_graph.specs.Inductions.{Induction}
use Rattle.twin_places.proofs.shown.all_shown.Goals as goal

pub loop-place-preserved : goal.loop-place-preserved
loop-place-preserved c =
    let was = c.loop-place.invariant in
    let place : ℕ = c.loop-place.place in
    let passes : Induction → ℕ → Type 0 = λ i p. Passes i.pair i.k i.classes p in
    record {
      kept = c.is_shown.ensures.kept ∙ was.kept;
      passes = below_more (passes c.args.sweep.now) place was.passes (subst (λ (i : Induction). passes i place) was.kept (c.in_ok-shown.ensures.passes c.if-not-shown.false));
    }
