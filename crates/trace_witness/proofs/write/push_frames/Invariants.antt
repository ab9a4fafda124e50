use Rattle.std.proofs.Common.{◌≡◌, ◌++◌, drop}
use Rattle.trace_witness.specs.Texts.{frames_text}
use Rattle.trace_witness.proofs.write.push_frames.Given as goal

abbrev pub invariant-loop-t : goal.invariant-loop-t
invariant-loop-t l = l.into.items ++ frames_text (drop l.t l.inputs) ≡ l.initial.into.items ++ frames_text l.inputs
