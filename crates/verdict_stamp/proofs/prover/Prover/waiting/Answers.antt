use Rattle.verdict_stamp.proofs.Proving.{splits_some, waits}
use Rattle.verdict_stamp.proofs.prover.Prover.waiting.Goals as goal

pub vector_under-requires-clause-size : goal.vector_under-requires-clause-size
vector_under-requires-clause-size c =
    let v = c.self.inside.current.now in
    let is = waits v c.self.inside.rows c.classes.result.now c.in_ok-row.field-0 c.in-Some.row c.self.invariant.2 c.classes.ensures.classes c.in-Some.is c.in_ok-row.ensures.row in
    is.apart.size

pub vector_under-requires-clause-may : goal.vector_under-requires-clause-may
vector_under-requires-clause-may c =
    let v = c.self.inside.current.now in
    let is = waits v c.self.inside.rows c.classes.result.now c.in_ok-row.field-0 c.in-Some.row c.self.invariant.2 c.classes.ensures.classes c.in-Some.is c.in_ok-row.ensures.row in
    is.apart.may

pub returns-clause-vector : goal.returns-clause-vector
returns-clause-vector c =
    let v = c.self.inside.current.now in
    let is = waits v c.self.inside.rows c.classes.result.now c.in_ok-row.field-0 c.in-Some.row c.self.invariant.2 c.classes.ensures.classes c.in-Some.is c.in_ok-row.ensures.row in
    splits_some v c.args.self.now c.vector_under.result c.in-Some.row c.self.view_is c.vector_under.ensures is
