use Rattle.verdict_stamp.proofs.Proving.{apart_of, held_is}
use Rattle.verdict_stamp.proofs.prover.Prover.held.Goals as goal

pub vector_under-requires-clause-may : goal.vector_under-requires-clause-may
vector_under-requires-clause-may c =
    let v = c.self.inside.current.now in
    let is = held_is v c.self.inside.rows c.classes.result.now c.args.pair.member c.in_ok-row.field-0 c.in-Some.row c.self.invariant.2 c.classes.ensures.classes c.in-Some.is c.in_ok-row.ensures.row in
    is.may

pub returns-clause-vector : goal.returns-clause-vector
returns-clause-vector c =
    let v = c.self.inside.current.now in
    let is = held_is v c.self.inside.rows c.classes.result.now c.args.pair.member c.in_ok-row.field-0 c.in-Some.row c.self.invariant.2 c.classes.ensures.classes c.in-Some.is c.in_ok-row.ensures.row in
    apart_of v c.args.self.now c.args.pair.member c.vector_under.result c.in-Some.row c.self.view_is c.vector_under.ensures is.apart is.may
