use Rattle.std.proofs.Common.{subst, ◌++◌, ◌≡◌, ◌+◌, List, ℕ, ℤ, ap, map, neg_ℤ, ◌∙◌, arith}
use Rattle.cnf_store.specs.Clauses.{AreLiterals}
use Rattle.sat_log.specs.Derivations.{line_at}
use Rattle.log_check.specs.FirstBad.{clauses_before}
use Rattle.log_check.proofs.Following.{line_follows, not_free, length_before}
use Rattle.log_check.proofs.line.follows.Goals as goal

pub returns-then-not-are_free-clause-ok : goal.returns-then-not-are_free-clause-ok
returns-then-not-are_free-clause-ok c =
    let e : c.deny.new.assumed.items ≡ map neg_ℤ c.clause-literals.result.now = c.in_ok-deny.ensures.ok.0 ∙ ap (λ (a : List ℤ). a ++ map neg_ℤ c.clause-literals.result.now) c.requires.assumed in
    (not_free c.args.formula.now.vars (clauses_before c.args.formula.now c.args.log.now c.args.i) (line_at c.args.log.now c.args.i) c.clause-literals.result.now c.deny.new.assumed.items c.deny.new.marks c.clause-literals.ensures.value e c.in_ok-deny.ensures.ok.1 c.if-not-are_free.ensures, c.clear.ensures.marks, c.clear.ensures.assumed)

pub returns-clause-ok : goal.returns-clause-ok
returns-clause-ok c =
    let e : c.deny.new.assumed.items ≡ map neg_ℤ c.clause-literals.result.now = c.in_ok-deny.ensures.ok.0 ∙ ap (λ (a : List ℤ). a ++ map neg_ℤ c.clause-literals.result.now) c.requires.assumed in
    let s = length_before c.args.formula.now c.args.log.now c.args.i (omega arith) in (
      line_follows c.args.formula.now.vars (c.len.result + c.args.i) (clauses_before c.args.formula.now c.args.log.now c.args.i) (line_at c.args.log.now c.args.i) c.clause-literals.result.now c.deny.new.assumed.items c.hints-hints.result.now c.deny.new.marks c.in_ok-follows.follows
          c.clause-literals.ensures.value c.hints-hints.ensures.value (omega (arith, s, c.len.ensures.value)) e c.in_ok-deny.ensures.ok.1 (subst (λ (v : ℕ). AreLiterals v c.clause-literals.result.now) c.vars.ensures.value c.if-not-are_within.ensures) c.if-not-are_earlier.ensures c.if-not-are_free.ensures c.in_ok-follows.ensures.ok.0,
      c.clear-2.ensures.marks,
      c.clear-2.ensures.assumed,
    )
