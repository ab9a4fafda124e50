use Rattle.std.proofs.Common.{◌<◌, ℕ, length, sym, subst, arith, rules}
use Rattle.cnf_store.specs.Clauses.{AreLiterals}
use Rattle.sat_log.specs.Derivations.{line_at}
use Rattle.and_graph.specs.Lemmas.{ClauseHolds, PureHold}
use Rattle.and_graph.proofs.Pure.{follow_at}
use Rattle.and_graph.proofs.Learning.{line_holds, pure_pushed}
use Rattle.and_graph.proofs.lemmas.Lemmas.learn.Goals as goal

pub take-requires-clause-literals : goal.take-requires-clause-literals
take-requires-clause-literals c =
    let i = c.loop-i.i in
    let lt : i < length c.args.log.now = search rules in
    let f = follow_at c.args.cnf.now.vars c.args.cnf.now.clauses c.args.log.now i c.requires.follow lt in
    subst (λ (n : ℕ). AreLiterals n c.clause-then-clause-le-LONGEST.result.now) c.requires.vars (subst (AreLiterals c.args.cnf.now.vars) (sym c.clause-then-clause-le-LONGEST.ensures.value) f.within)

pub take-requires-clause-holds : goal.take-requires-clause-holds
take-requires-clause-holds c =
    let i = c.loop-i.i in
    let lt : i < length c.args.log.now = search rules in
    let pures = c.are_pure-is_pure.ensures c.if-is_pure.true in
    subst (ClauseHolds c.args.nodes.now c.args.members.now) (sym c.clause-then-clause-le-LONGEST.ensures.value)
    (line_holds c.args.nodes.now c.args.members.now c.args.cnf.now.vars c.args.cnf.now.clauses c.args.log.now c.loop-i.pure.items c.args.given c.len-total.result i (sym c.len-total.ensures.value) (omega (arith, c.requires.given, c.len-total.ensures.value))
    c.requires.hold c.loop-i.invariant.pure c.loop-i.invariant.size lt c.requires.follow (search rules))

pub loop-i-preserved : goal.loop-i-preserved
loop-i-preserved c =
    let i = c.loop-i.i in
    let lt : i < length c.args.log.now = search rules in
    record {
      size = search rules;
      pure = subst (PureHold c.args.nodes.now c.args.members.now c.args.log.now) (sym c.in_ok-push.ensures.items)
          (pure_pushed c.args.nodes.now c.args.members.now c.args.log.now c.loop-i.pure.items c.are_pure-is_pure.result c.loop-i.invariant.pure
          (λ is. subst (λ (k : ℕ). ClauseHolds c.args.nodes.now c.args.members.now (line_at c.args.log.now k).literals) (sym c.loop-i.invariant.size)
          (line_holds c.args.nodes.now c.args.members.now c.args.cnf.now.vars c.args.cnf.now.clauses c.args.log.now c.loop-i.pure.items c.args.given c.len-total.result i (sym c.len-total.ensures.value) (omega (arith, c.requires.given, c.len-total.ensures.value))
          c.requires.hold c.loop-i.invariant.pure c.loop-i.invariant.size lt c.requires.follow (search rules))));
      lemmas = search rules;
    }
