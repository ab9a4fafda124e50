use Rattle.std.proofs.Common.{ℕ, refl, subst}
use Rattle.std.specs.Prelude.{Option, IfNone}
use Rattle.std.proofs.lemmas.Result.{IfOk-weaker}
use Rattle.circ_model.specs.Meaning.{Pair}
use Rattle.and_graph.specs.declared.pattern.Pattern.{Pattern}
use Rattle.frame_graph.specs.Inductions.{LiteralsHoldInFrame}
use Rattle.frame_graph.proofs.Merges.{merged_reset}
use Rattle.induction_base.specs.Search.{HoldAt, IsApartOrNone}
use Rattle.induction_base.proofs.Least.{hold_by_graph, left_asked, right_asked}
use Rattle.induction_base.proofs.difference.FrameSearch.apart.Goals as goal

pub settle_literals-requires-clause-left : goal.settle_literals-requires-clause-left
settle_literals-requires-clause-left c = left_asked c.args.map.now.leaves.pair c.args.product.now c.output-a.result c.args.j c.requires.pair c.output-a.ensures c.cells-cells.ensures.pair c.requires.output

pub settle_literals-requires-clause-right : goal.settle_literals-requires-clause-right
settle_literals-requires-clause-right c = right_asked c.args.map.now.leaves.pair c.args.product.now c.output-a.result c.args.j c.requires.pair c.output-a.ensures c.cells-cells.ensures.pair c.requires.output

pub returns-in_err-settle_literals-clause-map : goal.returns-in_err-settle_literals-clause-map
returns-in_err-settle_literals-clause-map c = merged_reset c.args.self.now.graph c.settle_literals.new.graph c.args.map.now c.settle_literals.ensures.merged c.requires.map

pub returns-in-None-clause-map : goal.returns-in-None-clause-map
returns-in-None-clause-map c = merged_reset c.args.self.now.graph c.settle_literals.new.graph c.args.map.now c.settle_literals.ensures.merged c.requires.map

pub returns-in-None-clause-found : goal.returns-in-None-clause-found
returns-in-None-clause-found c =
    let p = c.output-a.result in
    let m = c.args.map.now in
    let none = subst (λ (o : Option Pattern). IfNone o (LiteralsHoldInFrame m.leaves.pair m.depth c.args.t p.0 p.1)) c.in-None.is c.in_ok-settle_literals.ensures.holds in
    let here = subst (λ (q : Pair). LiteralsHoldInFrame q m.depth c.args.t p.0 p.1) c.requires.pair none in
    subst (λ (q : ℕ × ℕ). HoldAt c.args.product.now c.args.t q.0 q.1) c.output-a.ensures (hold_by_graph c.args.product.now m.depth c.args.t p.0 p.1 c.requires.depth here)

pub differs_at_end-requires-clause-left : goal.differs_at_end-requires-clause-left
differs_at_end-requires-clause-left c = left_asked c.args.product.now c.args.product.now c.output-a.result c.args.j refl c.output-a.ensures c.cells-cells.ensures.pair c.requires.output

pub differs_at_end-requires-clause-right : goal.differs_at_end-requires-clause-right
differs_at_end-requires-clause-right c = right_asked c.args.product.now c.args.product.now c.output-a.result c.args.j refl c.output-a.ensures c.cells-cells.ensures.pair c.requires.output

pub returns-in_err-run-in-Some-clause-map : goal.returns-in_err-run-in-Some-clause-map
returns-in_err-run-in-Some-clause-map c = merged_reset c.args.self.now.graph c.settle_literals.new.graph c.args.map.now c.settle_literals.ensures.merged c.requires.map

pub returns-in_err-differs_at_end-in-Some-clause-map : goal.returns-in_err-differs_at_end-in-Some-clause-map
returns-in_err-differs_at_end-in-Some-clause-map c = merged_reset c.args.self.now.graph c.settle_literals.new.graph c.args.map.now c.settle_literals.ensures.merged c.requires.map

pub returns-then-branch-clause-map : goal.returns-then-branch-clause-map
returns-then-branch-clause-map c = merged_reset c.args.self.now.graph c.settle_literals.new.graph c.args.map.now c.settle_literals.ensures.merged c.requires.map

pub find-requires-clause-left : goal.find-requires-clause-left
find-requires-clause-left c = left_asked c.args.self.now.whole c.args.product.now c.output-a.result c.args.j c.requires.whole c.output-a.ensures c.cells-cells.ensures.pair c.requires.output

pub find-requires-clause-right : goal.find-requires-clause-right
find-requires-clause-right c = right_asked c.args.self.now.whole c.args.product.now c.output-a.result c.args.j c.requires.whole c.output-a.ensures c.cells-cells.ensures.pair c.requires.output

pub returns-after-branch-4-clause-map : goal.returns-after-branch-4-clause-map
returns-after-branch-4-clause-map c = merged_reset c.args.self.now.graph c.settle_literals.new.graph c.args.map.now c.settle_literals.ensures.merged c.requires.map

pub returns-after-branch-4-clause-found : goal.returns-after-branch-4-clause-found
returns-after-branch-4-clause-found c =
    let p = c.output-a.result in
    IfOk-weaker c.find.result _ _
    (λ r is. subst (λ (q : ℕ × ℕ). IsApartOrNone c.args.product.now c.args.t q.0 q.1 r) c.output-a.ensures (subst (λ (q : Pair). IsApartOrNone q c.args.t p.0 p.1 r) c.requires.whole is))
    c.find.ensures.found
