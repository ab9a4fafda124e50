use Rattle.std.proofs.Common.{◌≡◌, ◌∙◌, ◌+◌, ℕ, List, length, arith, sym, subst}
use Rattle.sat_log.specs.Derivations.{Line, IsAccepted, clauses_of}
use Rattle.log_trim.specs.Trimming.{IsTrimmed, IsSubsequence}
use Rattle.log_trim.proofs.Ranks.{kept_to, before_next, few_before, kept_next, passed_next}
use Rattle.log_trim.proofs.Kept.{kept_accepted, kept_trimmed, kept_clauses}
use Rattle.log_trim.proofs.trimming.add_marked.Goals as goal
use Rattle.log_trim.proofs.trimming.add_marked.Goals.{then-marks-i+in_ok-keep_line, else-marks-i}

pub keep_line-requires-clause-few : goal.keep_line-requires-clause-few
keep_line-requires-clause-few c =
    let i : ℕ = c.loop-i.i in
    let next = before_next c.args.given c.args.log.now c.args.marks.now i c.len.result c.loop-i.before.items c.push.new.self.items c.loop-i.kept c.loop-i.invariant.before c.loop-i.invariant.kept c.len.ensures.value c.in_ok-push.ensures.items in
    few_before c.args.marks.now (i + 1) c.as_slice.result.now (c.as_slice.ensures.value ∙ next)

pub loop-i-preserved : goal.loop-i-preserved
loop-i-preserved c =
    let i : ℕ = c.loop-i.i in
    let next = before_next c.args.given c.args.log.now c.args.marks.now i c.len.result c.loop-i.before.items c.push.new.self.items c.loop-i.kept c.loop-i.invariant.before c.loop-i.invariant.kept c.len.ensures.value c.in_ok-push.ensures.items in
    record {
      kept = elim c.if-marks-i.branch [
        | then-marks-i+in_ok-keep_line w ↦ w.kept-is ∙ kept_next c.args.given c.args.log.now c.args.marks.now i w.as_slice.result.now c.loop-i.kept _ c.loop-i.invariant.kept (w.as_slice.ensures.value ∙ next) w.if-marks-i.true w.in_ok-keep_line.ensures
        | else-marks-i w ↦ w.kept-is ∙ passed_next c.args.given c.args.log.now c.args.marks.now i c.loop-i.kept c.loop-i.invariant.kept w.if-marks-i.false
      ];
      before = next;
    }

pub returns-clause-accepted : goal.returns-clause-accepted
returns-clause-accepted c =
    let end : c.loop-i.i ≡ length c.args.log.now = (let t = c.loop-i-test.false in omega (arith, c.len-i-end.ensures.value)) in
    λ formula len is. subst (IsAccepted formula) (sym c.loop-i.invariant.kept)
    (subst (λ (n : ℕ). IsAccepted formula (kept_to c.args.given c.args.log.now c.args.marks.now n)) (sym end) (kept_accepted c.args.given formula c.args.log.now c.args.marks.now c.requires.needed len is))

pub returns-clause-trimmed : goal.returns-clause-trimmed
returns-clause-trimmed c =
    let end : c.loop-i.i ≡ length c.args.log.now = (let t = c.loop-i-test.false in omega (arith, c.len-i-end.ensures.value)) in
    subst (IsTrimmed c.args.given) (sym c.loop-i.invariant.kept)
    (subst (λ (n : ℕ). IsTrimmed c.args.given (kept_to c.args.given c.args.log.now c.args.marks.now n)) (sym end) (kept_trimmed c.args.given c.args.log.now c.args.marks.now c.requires.needed))

pub returns-clause-clauses : goal.returns-clause-clauses
returns-clause-clauses c =
    let end : c.loop-i.i ≡ length c.args.log.now = (let t = c.loop-i-test.false in omega (arith, c.len-i-end.ensures.value)) in
    subst (λ (ls : List Line). IsSubsequence (clauses_of ls) (clauses_of c.args.log.now)) (sym c.loop-i.invariant.kept)
    (subst (λ (n : ℕ). IsSubsequence (clauses_of (kept_to c.args.given c.args.log.now c.args.marks.now n)) (clauses_of c.args.log.now)) (sym end) (kept_clauses c.args.given c.args.log.now c.args.marks.now))
