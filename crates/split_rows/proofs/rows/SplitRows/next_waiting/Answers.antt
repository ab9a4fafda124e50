use Rattle.std.proofs.Common.{IfSome, subst}
use Rattle.pair_sweep.specs.Sweeps.{Extent}
use Rattle.split_rows.specs.Rows.{IsRowApart}
use Rattle.split_rows.proofs.Held.{of_some}
use Rattle.split_rows.proofs.rows.SplitRows.next_waiting.Goals as goal

pub returns-in-Some-2-clause-row : goal.returns-in-Some-2-clause-row
returns-in-Some-2-clause-row c =
    of_some c.args.self.now.pair c.args.self.now.k c.args.classes.now c.in-Some.pair.member c.in_ok-row.field-0 c.in-Some-2.row c.in-Some.ensures.place c.in-Some-2.is
    (subst (λ (e : Extent). IfSome c.in_ok-row.field-0 (IsRowApart e.pair e.k c.args.classes.now c.in-Some.pair.member)) c.seek.ensures.kept c.in_ok-row.ensures.row)
