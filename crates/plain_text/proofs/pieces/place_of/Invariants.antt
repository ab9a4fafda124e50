use Rattle.plain_text.specs.Pieces.{HasNone}
use Rattle.plain_text.proofs.pieces.place_of.Given as goal

abbrev pub invariant-loop-at : goal.invariant-loop-at
invariant-loop-at l = HasNone l.separator l.bytes l.at
