use Rattle.std.proofs.Common.{◌≤◌, take, length, sym, ◌∙◌, arith}
use Rattle.std.proofs.lemmas.List.{length-take}
use Rattle.aiger_codec.proofs.HeaderLine.{header_read}
use Rattle.aiger_codec.proofs.header.read_header.Goals as goal

pub returns-then-count-ge5-clause-value : goal.returns-then-count-ge5-clause-value
returns-then-count-ge5-clause-value c =
    let h = c.in-Some-header_numbers_from.ensures.value in
    let count = c.in-Some-header_numbers_from.count in
    let len : 5 ≤ length (take count c.header_numbers_from.new.into) = omega (arith, length-take count c.header_numbers_from.new.into) in
    c.check.ensures.value ∙ sym (header_read c.args.bytes.now c.in-Some.binary _ (sym c.form.ensures ∙ c.in-Some.is) h.1 len)
