use Rattle.std.proofs.Common.{◌≤◌, length}
use Rattle.sec_base.proofs.Pieces.{Remains}
use Rattle.sec_base.proofs.text.write_text.Given as goal

abbrev pub invariant-loop-rest : goal.invariant-loop-rest
invariant-loop-rest g l =
    Remains (g.K.Sink.taken l.initial.sink) l.bytes l.rest (g.K.Sink.taken l.sink) × (g.K.Sink.faults l.initial.sink ≤ g.K.Sink.faults l.sink)

abbrev pub decreases-loop-rest : goal.decreases-loop-rest
decreases-loop-rest g l = length l.rest
