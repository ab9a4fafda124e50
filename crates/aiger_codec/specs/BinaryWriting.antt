-- The bytes of a netlist in the binary form. (AIGER 1.9, the binary format.)
use Rattle.std.specs.Prelude.{ℕ, ◌-◌, ◌*◌, true, List, [], ◌∷◌, ◌++◌, length}
use Rattle.circ_model.specs.declared.netlist.Latch.{Latch}
use Rattle.circ_model.specs.declared.netlist.Gate.{Gate}
use Rattle.circ_model.specs.Netlist.{Netlist}
use Rattle.aiger_codec.specs.Deltas.{shortest}
use Rattle.aiger_codec.specs.Grammar.{magic}
use Rattle.aiger_codec.specs.Writing.{line_text, lines_text, reset_numbers, output_text}

-- a latch's variable is told by its place; a zero reset is left out
abbrev pub next_text : Latch → List ℕ
next_text l = line_text l.next (reset_numbers l.var l.reset)

-- how far a gate's left literal stands below its own, and its right literal below the left one
abbrev pub deltas_text : Gate → List ℕ
deltas_text q = shortest (2 * q.var - q.left) ++ shortest (q.left - q.right)

-- the header, a line for each latch and each output, and then two numbers for each gate
abbrev pub binary_text : Netlist → List ℕ
binary_text net =
    magic true ++ (line_text net.max_var (length net.inputs ∷ length net.latches ∷ length net.outputs ∷ length net.gates ∷ [])
    ++ (lines_text next_text net.latches ++ (lines_text output_text net.outputs ++ lines_text deltas_text net.gates)))
