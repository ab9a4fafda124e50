use Rattle.std.proofs.Common.{◌<◌, length, sym, ◌∙◌, arith}
use Rattle.std.proofs.lemmas.List.{take_more_set, get_or_past}
use Rattle.aiger_codec.proofs.Numbers.{steps_end, steps_none, steps_other, steps_last, steps_more}
use Rattle.aiger_codec.proofs.line.numbers_from.Goals as goal

pub returns-in_default-clause-value : goal.returns-in_default-clause-value
returns-in_default-clause-value c = steps_none c.args.bytes.now _ c.args.most c.loop-i.i c.loop-i.at _ c.loop-i.invariant c.loop-i-test.true (sym c.number_from.ensures ∙ c.in_default.is)

pub returns-then-end-bytes-clause-value : goal.returns-then-end-bytes-clause-value
returns-then-end-bytes-clause-value c =
    let past = get_or_past c.args.bytes.now c.in-Some.end 0 c.if-end-bytes.true in
    steps_other c.args.bytes.now _ c.args.most c.loop-i.i c.loop-i.at c.in-Some.number c.in-Some.end _ c.loop-i.invariant c.loop-i-test.true (sym c.number_from.ensures ∙ c.in-Some.is) (λ e. omega arith) (λ e. omega arith)

pub returns-then-separator-eq10-clause-value : goal.returns-then-separator-eq10-clause-value
returns-then-separator-eq10-clause-value c =
    let room : c.loop-i.i < length c.loop-i.into = omega arith in
    let s = steps_last c.args.bytes.now _ c.args.most c.loop-i.i c.loop-i.at c.in-Some.number c.in-Some.end _ c.loop-i.invariant c.loop-i-test.true (sym c.number_from.ensures ∙ c.in-Some.is) c.if-separator-eq10.true in
    (omega arith, rw (take_more_set c.loop-i.into c.loop-i.i c.in-Some.number room) s)

pub returns-then-separator-ne32-clause-value : goal.returns-then-separator-ne32-clause-value
returns-then-separator-ne32-clause-value c =
    steps_other c.args.bytes.now _ c.args.most c.loop-i.i c.loop-i.at c.in-Some.number c.in-Some.end _ c.loop-i.invariant c.loop-i-test.true (sym c.number_from.ensures ∙ c.in-Some.is) c.if-separator-eq10.false c.if-separator-ne32.true

pub loop-i-preserved : goal.loop-i-preserved
loop-i-preserved c =
    let room : c.loop-i.i < length c.loop-i.into = omega arith in
    let s = steps_more c.args.bytes.now _ c.args.most c.loop-i.i c.loop-i.at c.in-Some.number c.in-Some.end _ c.loop-i.invariant c.loop-i-test.true (sym c.number_from.ensures ∙ c.in-Some.is) c.if-separator-ne32.false in
    rw (take_more_set c.loop-i.into c.loop-i.i c.in-Some.number room) s

pub returns-clause-value : goal.returns-clause-value
returns-clause-value c = steps_end c.args.bytes.now _ c.args.most c.loop-i.i c.loop-i.at _ c.loop-i.invariant c.loop-i-test.false
