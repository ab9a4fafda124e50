-- The body of a binary file, item by item, with the first fault. (AIGER, the binary format.)
use Rattle.std.specs.Prelude.{ℕ, zero, suc, ◌+◌, ◌-◌, ◌*◌, ◌==◌, ◌||◌, ltb, if◌then◌else◌, List, [], Result, Ok, Err, slice_index}
use Rattle.std.specs.List.{range_with_len}
use Rattle.circ_model.specs.Netlist.{Netlist}
use Rattle.aig_graph.specs.Given.{with_latch, with_gate}
use Rattle.aiger_codec.specs.Lines.{fault, line_at}
use Rattle.aiger_codec.specs.Deltas.{delta_at}
use Rattle.aiger_codec.specs.Sections.{◌>>=◌, placed, items_at}
use Rattle.aiger_codec.specs.declared.delta.Delta.{Delta}
use Rattle.aiger_codec.specs.declared.delta.Delta.TheVariants.{Value, Cut, Wide}
use Rattle.aiger_codec.specs.declared.fault.NetFault.{NetFault}
use Rattle.aiger_codec.specs.declared.fault.NetKind.TheVariants as kinds
use Rattle.aiger_codec.specs.declared.header.Header.{Header}
use Rattle.aiger_codec.specs.declared.section.Section.TheVariants.{Outputs}

-- the inputs are the variables from 1 up, and have no lines
abbrev pub of_inputs : ℕ → ℕ → Netlist
of_inputs max_var count = record { max_var = max_var; inputs = range_with_len 1 count; latches = []; outputs = []; gates = [] }

-- the latch of a variable: a line of its next literal and perhaps its reset, which is 0 where it is left out
unfoldable pub latch_at : List ℕ → ℕ → Netlist × ℕ → Result (Netlist × ℕ) NetFault
latch_at bytes var s = line_at 1 2 bytes s.1 >>= λ line. placed s.1 line.1 (with_latch s.0 var (slice_index line.0 0) (slice_index line.0 1))

-- a number of the item at a place
abbrev pub taken : ℕ → Delta → Result (ℕ × ℕ) NetFault
taken at (Value n end) = Ok (n, end)
taken at Cut = Err (fault kinds.Truncated at)
taken at Wide = Err (fault kinds.Line at)

-- the left literal is the gate's own less the first number, which is not 0, and the right one is that less the second
abbrev pub from_deltas : ℕ → Netlist × ℕ → ℕ → ℕ → ℕ → Result (Netlist × ℕ) NetFault
from_deltas var s d e end =
    if (d == 0) || ltb (2 * var) d || ltb (2 * var - d) e then Err (fault kinds.Order s.1) else
    placed s.1 end (with_gate s.0 var (2 * var - d) (2 * var - d - e))

-- the gate of a variable: two numbers
unfoldable pub gate_at : List ℕ → ℕ → Netlist × ℕ → Result (Netlist × ℕ) NetFault
gate_at bytes var s = do
  d ← taken s.1 (delta_at bytes s.1)
  e ← taken s.1 (delta_at bytes d.1)
  from_deltas var s d.0 e.0 e.1

-- so many items, from a variable up
unfoldable pub each_from : (ℕ → Netlist × ℕ → Result (Netlist × ℕ) NetFault) → ℕ → ℕ → Netlist × ℕ → Result (Netlist × ℕ) NetFault
each_from item zero var s = Ok s
each_from item (suc n) var s = item var s >>= each_from item n (var + 1)

-- the body after this header: the latches are the variables after the inputs, and the gates those after the latches
unfoldable pub binary_at : Header → List ℕ → Result (Netlist × ℕ) NetFault
binary_at h bytes = do
  a ← each_from (latch_at bytes) h.l (h.i + 1) (of_inputs h.m h.i, h.end)
  b ← items_at Outputs h.o bytes a
  each_from (gate_at bytes) h.a (h.i + 1 + h.l) b
