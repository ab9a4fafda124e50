use Rattle.std.proofs.Common.{subst}
use Rattle.std.proofs.lemmas.Result.{IfOk-weaker}
use Rattle.std.specs.Result.{IfOk}
use Rattle.circ_model.specs.Meaning.{places_of, Path as Steps}
use Rattle.frame_unroll.specs.Frames.{values}
use Rattle.frame_unroll.specs.Ready.{IsOutline}
use Rattle.frame_unroll.specs.Unrolled.{Unrolling}
use Rattle.product_machine.specs.Cells.{ReadsFrom}
use Rattle.frame_unroll.proofs.Standing.{sought_in}
use Rattle.frame_unroll.proofs.outline.Outline.path_beside.Goals as goal

pub returns-clause-sought : goal.returns-clause-sought
returns-clause-sought c =
    let u = c.args.self.now in
    let outline : IsOutline u = subst IsOutline c.self.view_is c.self.invariant in
    let read = subst (λ (v : Unrolling). IfOk c.read_path.result (λ (path : Steps). ReadsFrom v.pair v.frames (values c.args.row.now (places_of v.pair)) path)) c.self.view_is c.read_path.ensures in
    IfOk-weaker c.read_path.result _ _ (λ path h. (sought_in u c.args.question c.args.row.now path outline c.requires.asked c.requires.satisfied h).0) read

pub returns-clause-shown : goal.returns-clause-shown
returns-clause-shown c =
    let u = c.args.self.now in
    let outline : IsOutline u = subst IsOutline c.self.view_is c.self.invariant in
    let read = subst (λ (v : Unrolling). IfOk c.read_path.result (λ (path : Steps). ReadsFrom v.pair v.frames (values c.args.row.now (places_of v.pair)) path)) c.self.view_is c.read_path.ensures in
    IfOk-weaker c.read_path.result _ _ (λ path h. (sought_in u c.args.question c.args.row.now path outline c.requires.asked c.requires.satisfied h).1) read
