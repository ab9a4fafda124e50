use Rattle.std.proofs.Common.{refl}
use Rattle.split_rows.proofs.Held.{row_apart}
use Rattle.split_rows.proofs.rows.row_apart.Goals as goal

pub returns-in_ok-row-in-Some : goal.returns-in_ok-row-in-Some
returns-in_ok-row-in-Some c =
    row_apart c.args.block.now.pair c.args.block.now.k c.args.classes.now c.args.among c.args.pair.member c.args.block.now c.apart.result c.in-Some.lane c.in_ok-row-in-Some.field-0 refl refl c.in-Some.is c.apart.ensures
    c.in_ok-row-in-Some.ensures.row c.in_ok-row-in-Some.ensures.size c.in_ok-row-in-Some.ensures.may
