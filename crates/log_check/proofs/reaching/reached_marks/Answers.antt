use Rattle.std.proofs.Common.{◌∙◌, ◌<◌, ◌≤◌, ◌+◌, ◌-◌, ℕ, List, Bool, true, length, set, ap, ap₂, subst, sym, arith}
use Rattle.std.specs.List.{All}
use Rattle.sat_log.specs.Derivations.{line_at}
use Rattle.log_check.proofs.Marking.{SoFar, begins, one_down, ends_reached}
use Rattle.log_check.proofs.Core.{hints_before, hints_some, some_lines}
use Rattle.log_check.proofs.reaching.reached_marks.Goals as goal

pub loop-i-init : goal.loop-i-init
loop-i-init c =
    let given : ℕ = length c.args.formula.now.clauses in
    subst (λ (i : ℕ). SoFar given c.args.log.now i c.set.new.self) (sym c.len-i.ensures.value)
    (begins given c.args.log.now c.in_ok-count.count c.set.new.self (some_lines c.args.log.now c.requires.empty) (c.in_ok-count.ensures ∙ ap₂ (λ (x y : ℕ). x + y) c.len-given.ensures.value c.len-i.ensures.value)
    (c.set.ensures ∙ ap (λ (bits : List Bool). set bits (c.in_ok-count.count - 1) true) c.in_ok-marks.ensures))

pub mark_from-requires-clause-earlier : goal.mark_from-requires-clause-earlier
mark_from-requires-clause-earlier c =
    subst (λ (given : ℕ). All (λ h. (0 < h) × (h ≤ given + (c.loop-i.i - 1))) (line_at c.args.log.now (c.loop-i.i - 1)).hints) (sym c.len-given.ensures.value)
    (hints_before c.args.formula.now c.args.log.now (c.loop-i.i - 1) c.requires (omega arith))

pub loop-i-preserved : goal.loop-i-preserved
loop-i-preserved c =
    one_down (length c.args.formula.now.clauses) c.len-given.result c.args.log.now c.loop-i.i (c.loop-i.i - 1) c.loop-i.marks c.mark_from.new.marks c.len-given.ensures.value (omega arith) c.loop-i.invariant
    (hints_before c.args.formula.now c.args.log.now (c.loop-i.i - 1) c.requires (omega arith)) c.mark_from.ensures.marked c.mark_from.ensures.unmarked

pub returns : goal.returns
returns c = ends_reached (length c.args.formula.now.clauses) c.args.log.now c.loop-i.i c.loop-i.marks (omega arith) c.loop-i.invariant (hints_some c.args.formula.now c.args.log.now c.requires)
