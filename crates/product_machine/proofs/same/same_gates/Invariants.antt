use Rattle.std.proofs.Common.{◌≡◌, ◌<◌, ℕ, get_or}
use Rattle.circ_model.specs.Netlist.{no_gate}
use Rattle.product_machine.proofs.same.same_gates.Given as goal

abbrev pub invariant-loop-i : goal.invariant-loop-i
invariant-loop-i l = (k : ℕ) → k < l.i → get_or l.a k no_gate ≡ get_or l.b k no_gate
