use Rattle.std.proofs.Common.{◌∙◌, ◌+◌, ℕ, ap, subst}
use Rattle.std.specs.Prelude.{Option}
use Rattle.frame_graph.specs.Leaves.{Leaves}
use Rattle.induction_base.specs.declared.difference.Diff.{Diff}
use Rattle.induction_base.specs.Search.{IsLeastIn}
use Rattle.induction_base.proofs.Least.{is_shown, one_more_frame}
use Rattle.induction_base.proofs.difference.FrameSearch.in_frames.Goals as goal

pub returns-in-Some : goal.returns-in-Some
returns-in-Some c =
    let pair = c.args.product.now in
    let found = subst (λ (o : Option Diff). IsLeastIn pair c.loop-t.t o) c.in-Some.is c.in_ok-found.ensures.found in
    is_shown pair c.args.k c.loop-t.t c.in-Some.found c.loop-t-test.true c.loop-t.invariant.agree found

pub loop-t-preserved : goal.loop-t-preserved
loop-t-preserved c =
    let pair = c.args.product.now in
    let was = c.loop-t.invariant in
    let none = subst (λ (o : Option Diff). IsLeastIn pair c.loop-t.t o) c.in_default.is c.in_ok-found.ensures.found in
    record {
      pair = ap (λ (l : Leaves). l.pair) c.next_reset.ensures.leaves ∙ was.pair;
      frames = ap (λ (l : Leaves). l.frames) c.next_reset.ensures.leaves ∙ was.frames;
      depth = c.in_ok-next_reset.ensures.depth ∙ ap (λ (n : ℕ). n + 1) was.depth;
      map = c.in_frame.ensures.map;
      whole = c.in_frame.ensures.whole;
      agree = one_more_frame pair c.loop-t.t was.agree none;
    }
