use Rattle.std.proofs.Common.{◌≡◌, true, subst}
use Rattle.cnf_store.specs.Clauses.{satisfies}
use Rattle.frame_unroll.specs.Unrolled.{Unrolling, NoneSought, asking, asks, clauses_of, formula_of}
use Rattle.frame_unroll.proofs.Standing.{none_sought}
use Rattle.sat_core.specs.Answers.{IsAnswer}
use Rattle.sat_log.specs.Derivations.{IsAccepted}
use Rattle.frame_questions.proofs.Finding.{both_parts}
use Rattle.frame_questions.proofs.found.Prepared.find_in.Goals as goal

pub returns-in-Unsat : goal.returns-in-Unsat
returns-in-Unsat c =
    let u = c.self.inside.frames in
    let q = asks c.args.a c.args.b c.args.first c.args.last in
    let both = both_parts u q c.self.inside.ready c.in_ok-own.own c.self.invariant.asked c.self.invariant.are c.in_ok-own.ensures.vars c.in_ok-own.ensures.clauses in
    let answer = subst (IsAnswer (formula_of (asking u q))) c.in-Unsat.is (subst (λ f. IsAnswer f c.in_ok-log.field-0) both c.in_ok-log.ensures) in
    subst (λ (v : Unrolling). NoneSought v q × IsAccepted (formula_of (asking v q)) c.in-Unsat.log) c.self.view_is
    (none_sought u q c.in_ok-own.ensures.pair c.in_ok-own.ensures.fine answer.1, answer.0)

pub seen_in-requires-clause-satisfied : goal.seen_in-requires-clause-satisfied
seen_in-requires-clause-satisfied c =
    let u = c.self.inside.frames in
    let q = asks c.args.a c.args.b c.args.first c.args.last in
    let both = both_parts u q c.self.inside.ready c.in_ok-own.own c.self.invariant.asked c.self.invariant.are c.in_ok-own.ensures.vars c.in_ok-own.ensures.clauses in
    let answer = subst (IsAnswer (formula_of (asking u q))) c.in-Sat.is (subst (λ f. IsAnswer f c.in_ok-log.field-0) both c.in_ok-log.ensures) in
    subst (λ (v : Unrolling). satisfies c.in-Sat.row (clauses_of (asking v q)) ≡ true) c.self.view_is answer.1
