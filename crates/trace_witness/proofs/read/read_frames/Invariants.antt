use Rattle.std.proofs.Common.{◌≡◌, ◌≤◌, ◌+◌, length}
use Rattle.trace_witness.specs.Lines.{lines_of}
use Rattle.trace_witness.specs.Texts.{frames_of}
use Rattle.trace_witness.proofs.read.read_frames.Given as goal

abbrev pub invariant-loop-bits : goal.invariant-loop-bits
invariant-loop-bits l = record {
  due : frames_of l.width l.line l.inputs (lines_of l.rest) ≡ frames_of l.width 4 l.initial.inputs (lines_of l.bytes);
  lines : l.line + length l.rest ≤ 4 + length l.bytes;
}

abbrev pub decreases-loop-bits : goal.decreases-loop-bits
decreases-loop-bits l = length l.rest
