use Rattle.std.proofs.Common.{◌<◌, ◌≤◌, ◌+◌, ◌-◌, length, get_or, sym, arith}
use Rattle.aiger_codec.proofs.DeltaSteps.{spelling_cut, spelling_last, spelling_more, spelling_out, sum_small, value_due, wide_due}
use Rattle.aiger_codec.proofs.delta.read_delta.Goals as goal
use Rattle.aiger_codec.proofs.delta.read_delta.Goals.{then-at-len-via-then-at-len, then-at-len-via-else-at-len+then-i-len}

pub returns-then-at-len : goal.returns-then-at-len
returns-then-at-len c =
    let past : length c.args.bytes.now ≤ c.args.at + c.loop-i.i = elim c.then-at-len.branch [ then-at-len-via-then-at-len w ↦ omega arith | then-at-len-via-else-at-len+then-i-len w ↦ omega arith ] in
    sym (spelling_cut c.args.bytes.now c.args.at c.loop-i.i c.loop-i.value c.loop-i.weight c.loop-i.invariant c.loop-i-test.true past)

pub overflow_mul-value : goal.overflow_mul-value
overflow_mul-value c = omega (arith, sum_small c.args.bytes.now c.args.at c.loop-i.i c.loop-i.value c.loop-i.weight (get_or c.args.bytes.now (c.args.at + c.loop-i.i) 0) c.loop-i.invariant c.loop-i-test.true (omega arith))

pub overflow_add-value : goal.overflow_add-value
overflow_add-value c = omega (arith, sum_small c.args.bytes.now c.args.at c.loop-i.i c.loop-i.value c.loop-i.weight (get_or c.args.bytes.now (c.args.at + c.loop-i.i) 0) c.loop-i.invariant c.loop-i-test.true (omega arith))

pub returns-then-value-lt4294967296 : goal.returns-then-value-lt4294967296
returns-then-value-lt4294967296 c =
    value_due c.args.bytes.now c.args.at _ _ (spelling_last c.args.bytes.now c.args.at c.loop-i.i c.loop-i.value c.loop-i.weight c.loop-i.invariant c.loop-i-test.true (omega arith) c.if-byte-lt128.true) c.if-value-lt4294967296.true

pub returns-then-byte-lt128 : goal.returns-then-byte-lt128
returns-then-byte-lt128 c =
    wide_due c.args.bytes.now c.args.at _ _ (spelling_last c.args.bytes.now c.args.at c.loop-i.i c.loop-i.value c.loop-i.weight c.loop-i.invariant c.loop-i-test.true (omega arith) c.if-byte-lt128.true) c.if-value-lt4294967296.false

pub overflow_mul-value-in-loop-i : goal.overflow_mul-value-in-loop-i
overflow_mul-value-in-loop-i c =
    let byte : get_or c.args.bytes.now (c.args.at + c.loop-i.i) 0 < 256 = omega (arith, c.type_inv.bytes (c.args.at + c.loop-i.i)) in
    omega (arith, sum_small c.args.bytes.now c.args.at c.loop-i.i c.loop-i.value c.loop-i.weight (get_or c.args.bytes.now (c.args.at + c.loop-i.i) 0 - 128) c.loop-i.invariant c.loop-i-test.true (omega arith))

pub overflow_add-value-in-loop-i : goal.overflow_add-value-in-loop-i
overflow_add-value-in-loop-i c =
    let byte : get_or c.args.bytes.now (c.args.at + c.loop-i.i) 0 < 256 = omega (arith, c.type_inv.bytes (c.args.at + c.loop-i.i)) in
    omega (arith, sum_small c.args.bytes.now c.args.at c.loop-i.i c.loop-i.value c.loop-i.weight (get_or c.args.bytes.now (c.args.at + c.loop-i.i) 0 - 128) c.loop-i.invariant c.loop-i-test.true (omega arith))

pub overflow_mul-weight : goal.overflow_mul-weight
overflow_mul-weight c = omega (arith, sum_small c.args.bytes.now c.args.at c.loop-i.i c.loop-i.value c.loop-i.weight 0 c.loop-i.invariant c.loop-i-test.true (omega arith))

pub loop-i-preserved : goal.loop-i-preserved
loop-i-preserved c =
    spelling_more c.args.bytes.now c.args.at c.loop-i.i c.loop-i.value c.loop-i.weight c.loop-i.invariant c.loop-i-test.true (omega arith) c.if-byte-lt128.false (omega (arith, c.type_inv.bytes (c.args.at + c.loop-i.i)))

pub returns : goal.returns
returns c = sym (spelling_out c.args.bytes.now c.args.at c.loop-i.i c.loop-i.value c.loop-i.weight c.loop-i.invariant c.loop-i-test.false)
