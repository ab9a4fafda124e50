use Rattle.std.proofs.Common.{arith}
use Rattle.tried_classes.proofs.plain.hold_in.Goals as goal

pub relative-requires-clause-place : goal.relative-requires-clause-place
relative-requires-clause-place c = omega (arith, c.rep.ensures, c.len-place-end.ensures.places, c.len-place-end.ensures.partition.lower c.loop-place.place c.loop-place-test.true, c.loop-place-test.true)
