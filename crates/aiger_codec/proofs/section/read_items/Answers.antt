use Rattle.std.proofs.Common.{arith}
use Rattle.std.proofs.lemmas.Result.{err_from_is_err_and}
use Rattle.aiger_codec.proofs.Loops.{rest_first, rest_more, rest_fails, rest_done}
use Rattle.aiger_codec.proofs.Room.{room_first, room_here, room_next}
use Rattle.aiger_codec.proofs.section.read_items.Goals as goal

pub returns-in_err-at : goal.returns-in_err-at
returns-in_err-at c =
    let p = err_from_is_err_and c.from_residual.result c.from_residual.ensures.1 in
    rw (p.1, p.2) (rest_fails c.args.section c.args.bytes.now c.args.count c.loop.counter (c.loop.builder, c.loop.at) _ _ c.loop.invariant.rest c.loop-test.true c.in_err-at.ensures)

pub loop-init : goal.loop-init
loop-init c = record { rest = rest_first c.args.section c.args.bytes.now c.args.count (c.args.builder.now, c.args.start); room = room_first c.args.section c.args.count c.args.builder.now c.requires }

pub loop-preserved : goal.loop-preserved
loop-preserved c = record {
  rest = rest_more c.args.section c.args.bytes.now c.args.count c.loop.counter (c.loop.builder, c.loop.at) _ _ c.loop.invariant.rest c.loop-test.true c.in_ok-at.ensures;
  room = room_next c.args.section c.args.bytes.now c.args.count c.loop.counter (c.loop.builder, c.loop.at) _ c.loop.invariant.room c.loop-test.true c.in_ok-at.ensures;
}

pub read_item-requires : goal.read_item-requires
read_item-requires c = room_here c.args.section c.args.count c.loop.counter c.loop.builder c.loop.invariant.room c.loop-test.true

pub returns : goal.returns
returns c = rest_done c.args.section c.args.bytes.now c.args.count c.loop.counter (c.loop.builder, c.loop.at) _ c.loop.invariant.rest (omega arith)
