use Rattle.std.proofs.Common.{IfSome, Option, subst}
use Rattle.split_rows.specs.declared.rows.FoundRow.{FoundRow}
use Rattle.split_rows.specs.Rows.{IsRowApart}
use Rattle.split_rows.proofs.rows.SplitRows.find_best.Goals as goal

pub returns-in-Some : goal.returns-in-Some
returns-in-Some c = subst (λ (o : Option FoundRow). IfSome o (λ f. IsRowApart c.args.self.now.pair c.args.self.now.k c.args.classes.now c.args.pair.member f.row)) c.in-Some.is c.in_ok-found.ensures
