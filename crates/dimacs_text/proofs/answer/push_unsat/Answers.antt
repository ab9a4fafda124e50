use Rattle.std.proofs.Common.{◌+◌, ◌++◌, ◌∙◌, sym, ap, codes}
use Rattle.dimacs_text.specs.Answers.{lrat_text, unsat_text}
use Rattle.dimacs_text.proofs.Pieces.{two}
use Rattle.dimacs_text.proofs.answer.push_unsat.Goals as goal

pub returns-in_ok-push_lrat : goal.returns-in_ok-push_lrat
returns-in_ok-push_lrat c = two c.args.into.now.items (codes "s UNSATISFIABLE\n") (lrat_text (c.args.clauses + 1) c.args.log.now) _ _
    c.in_ok-extend_from_slice.ensures.items c.in_ok-push_lrat.ensures
    ∙ ap (λ b. c.args.into.now.items ++ unsat_text b c.args.clauses c.args.log.now) (sym c.if-with_log.true)
