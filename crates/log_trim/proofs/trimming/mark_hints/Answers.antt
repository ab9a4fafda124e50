use Rattle.std.proofs.Common.{ℕ, List, take, get_or, sym, subst, arith}
use Rattle.std.proofs.lemmas.List.{take_more}
use Rattle.log_trim.specs.Trimming.{AddsMarks}
use Rattle.log_trim.proofs.Marking.{adds_more}
use Rattle.log_trim.proofs.trimming.mark_hints.Goals as goal

pub loop-hint-preserved : goal.loop-hint-preserved
loop-hint-preserved c =
    let hints : List ℕ = c.args.hints.now in
    let at : ℕ = c.loop-hint.hint-index in
    subst (λ (hs : List ℕ). AddsMarks c.args.given hs c.args.i c.args.marks.now c.mark_hint.new.marks) (sym (take_more hints at 0 (omega arith)))
    (adds_more c.args.given c.args.i (get_or hints at 0) (take at hints) c.args.marks.now c.loop-hint.marks c.mark_hint.new.marks c.loop-hint.invariant c.mark_hint.ensures)
