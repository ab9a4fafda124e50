use Rattle.std.proofs.Common.{◌∙◌, ℕ, subst, Option}
use Rattle.std.specs.Prelude.{IfNone}
use borrow.Author.Count.{below_more}
use Rattle.and_graph.specs.declared.pattern.Pattern.{Pattern}
use Rattle.frame_graph.specs.Inductions.{HoldsInFrame}
use Rattle.frame_graph.specs.Maps.{induction_of}
use Rattle.frame_graph.proofs.Merges.{merged_reset, merged_twice}
use Rattle.frame_graph.proofs.map.FrameMap.settle_base.Goals as goal

pub returns-in_err-found-clause-merged : goal.returns-in_err-found-clause-merged
returns-in_err-found-clause-merged c = merged_twice c.args.graph.now c.loop-frame.graph c.settle_base_in.new.graph c.loop-frame.invariant.merged c.settle_base_in.ensures.merged

pub returns-in-Some-clause-merged : goal.returns-in-Some-clause-merged
returns-in-Some-clause-merged c = merged_twice c.args.graph.now c.loop-frame.graph c.settle_base_in.new.graph c.loop-frame.invariant.merged c.settle_base_in.ensures.merged

pub loop-frame-preserved : goal.loop-frame-preserved
loop-frame-preserved c =
    let was = c.loop-frame.invariant in
    let says = c.settle_base_in.ensures in
    let holds : ℕ → Type 0 = λ t. HoldsInFrame (induction_of c.args.self.now c.args.classes.now) t c.args.member in
    record {
      merged = merged_twice c.args.graph.now c.loop-frame.graph c.settle_base_in.new.graph was.merged says.merged;
      map = merged_reset c.loop-frame.graph c.settle_base_in.new.graph c.args.self.now says.merged was.map;
      most = says.most ∙ was.most;
      holds = below_more holds c.loop-frame.frame was.holds
          (subst (λ (o : Option Pattern). IfNone o (holds c.loop-frame.frame)) c.in-None.is c.in_ok-found.ensures.passes);
    }
