use Rattle.verdict_stamp.proofs.OpenedFrames.{IsBefore}
use Rattle.verdict_stamp.proofs.version.Version.opening.Given as goal

abbrev pub invariant-loop-frame : goal.invariant-loop-frame
invariant-loop-frame l = IsBefore l.product l.k l.frame l.version l.sim l.stimulus l.inputs.items
