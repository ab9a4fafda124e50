use Rattle.std.proofs.Common.{◌≡◌}
use Rattle.aiger_binary.specs.Binary.{of_inputs}
use Rattle.aiger_binary.proofs.body.define_inputs.Given as goal

abbrev pub invariant-loop-i : goal.invariant-loop-i
invariant-loop-i l = l.builder ≡ of_inputs l.header.m l.i
