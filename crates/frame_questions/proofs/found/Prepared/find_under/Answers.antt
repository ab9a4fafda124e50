use Rattle.std.proofs.Common.{◌≡◌, ◌∙◌, ◌-◌, ◌+◌, ℕ, Some, None, subst, sym, arith}
use Rattle.std.specs.List.{All}
use Rattle.frame_unroll.specs.Unrolled.{Unrolling}
use Rattle.frame_unroll.specs.declared.question.Question.{Question}
use Rattle.frame_questions.specs.Assuming.{IsAssumable, IsFoundUnder, formula_under}
use Rattle.sat_core.specs.Answers.{IsAnswer}
use Rattle.frame_questions.proofs.Assumptions.{all_parts, both_under, found_under, none_under}
use Rattle.frame_questions.proofs.found.Prepared.find_under.Goals as goal

pub path_beside-requires-clause-satisfied : goal.path_beside-requires-clause-satisfied
path_beside-requires-clause-satisfied c =
    let u = c.self.inside.frames in
    let q : Question = record { a = c.args.a; b = c.args.b; first = c.args.frame; count = 1 } in
    let all = all_parts u q c.args.assumed.now c.self.inside.ready c.add_assumed.new.cnf c.in_ok-own.own.clauses c.self.invariant.asked c.self.invariant.are (c.add_assumed.ensures.vars ∙ c.in_ok-own.ensures.vars) c.in_ok-own.ensures.clauses c.in_ok-add_assumed.ensures.ok in
    let answer = subst (IsAnswer (formula_under u q c.args.assumed.now)) c.in-Sat.is (subst (λ f. IsAnswer f c.in_ok-answer.field-0) all c.in_ok-answer.ensures) in
    (both_under u q c.args.assumed.now c.in-Sat.row answer.1).0

pub returns-in-Unsat : goal.returns-in-Unsat
returns-in-Unsat c =
    let u = c.self.inside.frames in
    let q : Question = record { a = c.args.a; b = c.args.b; first = c.args.frame; count = 1 } in
    let one : 1 ≡ c.args.frame - c.args.frame + 1 = omega arith in
    let all = all_parts u q c.args.assumed.now c.self.inside.ready c.add_assumed.new.cnf c.in_ok-own.own.clauses c.self.invariant.asked c.self.invariant.are (c.add_assumed.ensures.vars ∙ c.in_ok-own.ensures.vars) c.in_ok-own.ensures.clauses c.in_ok-add_assumed.ensures.ok in
    let answer = subst (IsAnswer (formula_under u q c.args.assumed.now)) c.in-Unsat.is (subst (λ f. IsAnswer f c.in_ok-answer.field-0) all c.in_ok-answer.ensures) in
    let literals = subst (λ (v : Unrolling). All (IsAssumable v) c.args.assumed.now) (sym c.self.view_is) c.requires.assumed in
    subst (λ (v : Unrolling). IsFoundUnder v (record { a = c.args.a; b = c.args.b; first = c.args.frame; count = c.args.frame - c.args.frame + 1 }) c.args.assumed.now None) c.self.view_is
    (subst (λ (m : ℕ). IsFoundUnder u (record { a = c.args.a; b = c.args.b; first = c.args.frame; count = m }) c.args.assumed.now None) one
    (none_under u q c.args.assumed.now c.in_ok-own.ensures.pair c.in_ok-own.ensures.fine literals answer.1))

pub returns : goal.returns
returns c =
    let u = c.self.inside.frames in
    let q : Question = record { a = c.args.a; b = c.args.b; first = c.args.frame; count = 1 } in
    let one : 1 ≡ c.args.frame - c.args.frame + 1 = omega arith in
    let all = all_parts u q c.args.assumed.now c.self.inside.ready c.add_assumed.new.cnf c.in_ok-own.own.clauses c.self.invariant.asked c.self.invariant.are (c.add_assumed.ensures.vars ∙ c.in_ok-own.ensures.vars) c.in_ok-own.ensures.clauses c.in_ok-add_assumed.ensures.ok in
    let answer = subst (IsAnswer (formula_under u q c.args.assumed.now)) c.in-Sat.is (subst (λ f. IsAnswer f c.in_ok-answer.field-0) all c.in_ok-answer.ensures) in
    let literals = subst (λ (v : Unrolling). All (IsAssumable v) c.args.assumed.now) (sym c.self.view_is) c.requires.assumed in
    let path = c.in_ok-path_beside-in-Sat.field-0 in
    subst (λ (v : Unrolling). IsFoundUnder v (record { a = c.args.a; b = c.args.b; first = c.args.frame; count = c.args.frame - c.args.frame + 1 }) c.args.assumed.now (Some path)) c.self.view_is
    (subst (λ (m : ℕ). IsFoundUnder u (record { a = c.args.a; b = c.args.b; first = c.args.frame; count = m }) c.args.assumed.now (Some path)) one
    (found_under u q c.args.assumed.now c.in-Sat.row path literals answer.1 c.in_ok-path_beside-in-Sat.ensures.sought c.in_ok-path_beside-in-Sat.ensures.shown))
