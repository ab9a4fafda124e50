use Rattle.std.proofs.Common.{◌∙◌, false, length, sym, ap}
use Rattle.std.proofs.lemmas.List.{length-replicate}
use Rattle.std.proofs.lemmas.List.FromFn.{length-range_with_len}
use Rattle.corr_certificate.proofs.reading.class_lines.Joining.none.Goals as goal

pub invariant_of-result : goal.invariant_of-result
invariant_of-result c =
    ap length c.in_ok-phase.ensures ∙ length-replicate c.args.places false ∙ sym (length-range_with_len 0 c.args.places) ∙ sym (ap length c.in_ok-least.ensures)
