use Rattle.std.proofs.Common.{◌+◌, ◌∙◌, List, ap, sym, arith}
use Rattle.sat_log.specs.Derivations.{Line}
use Rattle.plain_text.specs.Pieces.{pieces}
use Rattle.sat_log.specs.Parts.{part_from}
use Rattle.corr_certificate.proofs.Sizes.{bad_within}
use Rattle.corr_certificate.proofs.reading.parts.read_log_of.Goals as goal

pub overflow_add-at-in-Some-2-2 : goal.overflow_add-at-in-Some-2-2
overflow_add-at-in-Some-2-2 c =
    let h = bad_within c.args.formula.now (c.args.at.line + 1) c.in_ok-end.end.line c.in-Some-2.bad _ _ _ _ c.in_ok-first_bad.field-0 (ap (λ (l : List Line). part_from l (c.args.at.line + 1) (pieces 10 c.in-Some.rest.now)) (sym c.requires.empty) ∙ c.in_ok-end.ensures.part) c.in_ok-first_bad.ensures c.in-Some-2.is in
    omega (arith, h, c.in_ok-end.ensures.lines, c.requires.few, c.in-Some.ensures)
