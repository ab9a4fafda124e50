use Rattle.std.proofs.Common.{◌∙◌, ℕ, get_or, refl}
use Rattle.implied_clauses.specs.Implied.{with_others}
use Rattle.implied_clauses.proofs.Marks.{listed_more, mark_taken, one_left, one_set}
use Rattle.implied_clauses.proofs.implied.mark.Goals.{then-is_fresh+in_ok-push, else-is_fresh}
use Rattle.implied_clauses.proofs.implied.mark.Goals as goal

pub loop-l-init : goal.loop-l-init
unfolding with_others
loop-l-init c = record { marks = refl; listed = c.requires.listed }

pub loop-l-preserved : goal.loop-l-preserved
loop-l-preserved c =
    let i : ℕ = c.loop-l.l-index in
    let l : ℕ = get_or c.args.clause.now i 0 in
    let lt = c.loop-l-test.true in
    let taken = mark_taken c.args.pivot i c.args.clause.now c.args.marks.now c.loop-l.marks lt c.loop-l.invariant.marks in
    elim c.if-is_fresh.branch [
      | then-is_fresh+in_ok-push w ↦ rw (w.marks-is, w.listed-is, w.in_ok-push.ensures.items) (record {
        marks = one_set c.args.pivot l c.loop-l.marks (c.is_fresh.ensures.yes w.if-is_fresh.true) ∙ taken;
        listed = listed_more c.loop-l.marks c.loop-l.listed.items l c.loop-l.invariant.listed;
      })
      | else-is_fresh w ↦ rw (w.marks-is, w.listed-is) (record {
        marks = one_left c.args.pivot l c.loop-l.marks (c.is_fresh.ensures.no w.if-is_fresh.false) ∙ taken;
        listed = c.loop-l.invariant.listed;
      })
    ]
