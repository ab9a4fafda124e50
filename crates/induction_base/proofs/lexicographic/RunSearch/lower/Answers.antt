use Rattle.std.proofs.Common.{ap}
use Rattle.std.proofs.lemmas.Result.{IfOk-weaker}
use Rattle.frame_unroll.specs.Unrolled.{Unrolling}
use Rattle.induction_base.proofs.Fixing.{is_lower}
use Rattle.induction_base.proofs.Least.{left_asked, right_asked}
use Rattle.induction_base.proofs.lexicographic.RunSearch.lower.Goals as goal

pub find_under-requires-clause-left : goal.find_under-requires-clause-left
find_under-requires-clause-left c = left_asked c.args.self.now.frames.pair c.args.self.now.product.now c.output-left.result c.args.self.now.given.now.output (ap (λ (u : Unrolling). u.pair) c.requires.frames) c.output-left.ensures c.cells-cells.ensures.pair c.requires.given.output

pub find_under-requires-clause-right : goal.find_under-requires-clause-right
find_under-requires-clause-right c = right_asked c.args.self.now.frames.pair c.args.self.now.product.now c.output-left.result c.args.self.now.given.now.output (ap (λ (u : Unrolling). u.pair) c.requires.frames) c.output-left.ensures c.cells-cells.ensures.pair c.requires.given.output

pub returns : goal.returns
returns c =
    IfOk-weaker c.find_under.result _ _
    (λ r found. is_lower c.args.self.now.product.now c.args.self.now.frames c.args.self.now.given.now.frame c.args.self.now.given.now.output c.output-left.result c.args.assumed.now r c.cells-cells.ensures.pair c.requires.given.output c.requires.frames c.output-left.ensures found)
    c.find_under.ensures
