use Rattle.std.proofs.Common.{◌≤◌, ◌<◌, ◌⊎◌, inl, inr, ◌++◌, sym, subst, ◌∙◌, arith}
use Rattle.aiger_codec.specs.Deltas.{shortest}
use Rattle.aiger_codec.proofs.DeltaSteps.{Writes, writes_first, writes_more, writes_last, rest_small}
use Rattle.aiger_codec.proofs.delta.write_delta.Goals as goal
use Rattle.aiger_codec.proofs.delta.write_delta.Goals.{else-loop-test, then-loop-test+then-rest-lt128}

pub loop-init : goal.loop-init
loop-init c = record {
  written = subst (λ items. Writes items 0 c.args.n (c.args.into.now.items ++ shortest c.args.n)) (sym c.in_ok-reserve.ensures.items) (writes_first c.args.into.now.items c.args.n);
  room = omega (arith, c.in_ok-reserve.ensures.ok);
  small = omega arith;
}

pub loop-preserved : goal.loop-preserved
loop-preserved c = record {
  written = rw c.push_reserved.ensures.items (writes_more c.loop.into.items c.loop.counter c.loop.rest _ c.loop.invariant.written c.loop-test.true c.if-rest-lt128.false);
  room = omega (arith, c.push_reserved.ensures.len, c.push_reserved.ensures.capacity, c.loop.invariant.room);
  small = rest_small c.loop.counter c.loop.rest c.args.n c.loop.invariant.small;
}

pub returns-clause-ok : goal.returns-clause-ok
returns-clause-ok c =
    let ends : (4 ≤ c.loop.counter) ⊎ (c.loop.rest < 128) = elim c.loop-test.branch [ else-loop-test w ↦ inl (omega arith) | then-loop-test+then-rest-lt128 w ↦ inr w.if-rest-lt128.true ] in
    c.push_reserved-2.ensures.items ∙ writes_last c.loop.into.items c.loop.counter c.loop.rest _ c.loop.invariant.written ends
