use Rattle.std.proofs.Common.{◌≤◌, take, length, arith}
use Rattle.std.proofs.lemmas.List.{length-take}
use Rattle.aiger_codec.proofs.Ends.{line_read}
use Rattle.aiger_codec.proofs.line.read_line.Goals as goal

pub returns-then-least-count : goal.returns-then-least-count
returns-then-least-count c =
    let h = c.in-Some.ensures.value in
    let len : c.args.least ≤ length (take c.in-Some.count c.numbers_from.new.into) = omega (arith, length-take c.in-Some.count c.numbers_from.new.into) in
    (h.0, line_read c.args.least c.args.most c.args.bytes.now c.args.start _ h.1 len)
