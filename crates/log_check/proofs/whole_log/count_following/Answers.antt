use Rattle.std.proofs.Common.{Bool, ℕ, subst, sym, ◌∙◌, arith}
use Rattle.cnf_store.specs.Clauses.{AreClauses}
use Rattle.sat_log.specs.Derivations.{Follows, line_at}
use Rattle.log_check.specs.FirstBad.{Decides, FollowTo, clauses_before}
use Rattle.log_check.proofs.Following.{begin_ways, none_before, lines_more, lines_stop, lines_end, within_more}
use Rattle.log_check.proofs.whole_log.count_following.Goals as goal

pub loop-i-init : goal.loop-i-init
loop-i-init c = record {
  ways = begin_ways c.args.formula.now c.args.log.now;
  within = subst (AreClauses c.args.formula.now.vars) (sym (none_before c.args.formula.now c.args.log.now)) c.len-given.ensures.formula.within;
  marks = c.requires.marks;
  assumed = c.requires.assumed;
  size = c.requires.size;
}

pub returns-then-not-branch : goal.returns-then-not-branch
returns-then-not-branch c =
    let f = subst (λ (b : Bool). Decides b (Follows c.args.formula.now.vars (clauses_before c.args.formula.now c.args.log.now c.loop-i.i) (line_at c.args.log.now c.loop-i.i))) c.if-not-branch.true c.in_ok-follows.ensures.ok.0 in
    record { ok = lines_stop c.args.formula.now c.args.log.now c.loop-i.i (omega arith) f c.loop-i.invariant.ways }

pub loop-i-preserved : goal.loop-i-preserved
loop-i-preserved c =
    let f = subst (λ (b : Bool). Decides b (Follows c.args.formula.now.vars (clauses_before c.args.formula.now c.args.log.now c.loop-i.i) (line_at c.args.log.now c.loop-i.i))) c.if-not-branch.false c.in_ok-follows.ensures.ok.0 in
    record {
      ways = lines_more c.args.formula.now c.args.log.now c.loop-i.i (omega arith) f c.loop-i.invariant.ways;
      within = within_more c.args.formula.now c.args.log.now c.loop-i.i (omega arith) c.loop-i.invariant.within f;
      marks = c.in_ok-follows.ensures.ok.1;
      assumed = c.in_ok-follows.ensures.ok.2;
      size = c.follows.ensures.size ∙ c.loop-i.invariant.size;
    }

pub returns : goal.returns
returns c = record { ok = subst (λ (n : ℕ). FollowTo c.args.formula.now.vars c.args.formula.now.clauses c.args.log.now n) (sym c.len.ensures.value) (lines_end c.args.formula.now c.args.log.now c.loop-i.i (omega arith) c.loop-i.invariant.ways) }
