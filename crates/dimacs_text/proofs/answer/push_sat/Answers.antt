use Rattle.std.proofs.Common.{codes}
use Rattle.dimacs_text.specs.Answers.{values_text}
use Rattle.dimacs_text.proofs.Pieces.{three}
use Rattle.dimacs_text.proofs.answer.push_sat.Goals as goal

pub returns : goal.returns
returns c = three c.args.into.now.items (codes "s SATISFIABLE\n") (values_text 0 c.args.row.now) (codes "v 0\n") _ _ _
    c.in_ok-extend_from_slice.ensures.items c.in_ok-push_values.ensures c.in_ok-extend_from_slice-2.ensures.items
