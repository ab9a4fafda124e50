use Rattle.std.proofs.Common.{◌∙◌, ap, sym, inl, inr, arith}
use Rattle.std.specs.Str.Parse.{ParsesUnsigned, ExplainsUnsignedError, HasUnsignedDigitsIfOk}
use Rattle.clap.specs.Words.{found_of, one_text}
use Rattle.clap.proofs.WalkLemmas.{one_text-rows}
use Rattle.command_line.specs.Meant.{number_in}
use Rattle.command_line.proofs.Numbers.{read_inside, read_outside, read_missing}
use Rattle.command_line.proofs.taken.number_of.Goals.{else-least-number-via-then-least-number+else-number-most, else-least-number-via-else-least-number}
use Rattle.command_line.proofs.taken.number_of.Goals as goal

pub returns-in_err-number-clause-number : goal.returns-in_err-number-clause-number
returns-in_err-number-clause-number c =
    let f = found_of c.args.found.now in
    let rows = ap (number_in c.args.least c.args.most) (one_text-rows f c.args.id.now) in
    let missing = read_missing _ (λ bs r. ParsesUnsigned 32 10 bs r × ExplainsUnsignedError 10 bs r × HasUnsignedDigitsIfOk bs r) (λ u x g. g.0) c.args.least c.args.most (one_text f c.args.id.now) c.get_one.result (omega (arith, c.ranges.most.fits)) c.get_one.ensures.value c.in_err-number.was in
    c.from_residual.ensures ∙ sym missing ∙ rows

pub returns-then-number-most-clause-number : goal.returns-then-number-most-clause-number
returns-then-number-most-clause-number c =
    let f = found_of c.args.found.now in
    let rows = ap (number_in c.args.least c.args.most) (one_text-rows f c.args.id.now) in
    let inside = read_inside _ (λ bs r. ParsesUnsigned 32 10 bs r × ExplainsUnsignedError 10 bs r × HasUnsignedDigitsIfOk bs r) (λ u x g. g.0) c.args.least c.args.most c.in_ok-number.number (one_text f c.args.id.now) c.get_one.result (omega (arith, c.ranges.most.fits)) c.get_one.ensures.none c.get_one.ensures.value c.in_ok-number.was (omega (arith, c.if-least-number.true)) (omega (arith, c.if-number-most.true)) in
    sym inside ∙ rows

pub returns-else-least-number-clause-number : goal.returns-else-least-number-clause-number
returns-else-least-number-clause-number c =
    let f = found_of c.args.found.now in
    let rows = ap (number_in c.args.least c.args.most) (one_text-rows f c.args.id.now) in
    let outside = read_outside _ (λ bs r. ParsesUnsigned 32 10 bs r × ExplainsUnsignedError 10 bs r × HasUnsignedDigitsIfOk bs r) (λ u x g. g.0) c.args.least c.args.most c.in_ok-number.number (one_text f c.args.id.now) c.get_one.result c.get_one.ensures.none c.get_one.ensures.value c.in_ok-number.was in
    elim c.else-least-number.branch [
      | else-least-number-via-then-least-number+else-number-most w ↦ sym (outside (inr (omega (arith, w.if-number-most)))) ∙ rows
      | else-least-number-via-else-least-number w ↦ sym (outside (inl (omega (arith, w.if-least-number)))) ∙ rows
    ]
