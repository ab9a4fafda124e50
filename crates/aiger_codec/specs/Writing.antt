-- The text of a netlist. (AIGER 1.9, the ASCII format.)
use Rattle.std.specs.Prelude.{ℕ, ◌*◌, false, List, [], ◌∷◌, ◌++◌, length, decimal}
use Rattle.circ_model.specs.declared.netlist.Latch.{Latch}
use Rattle.circ_model.specs.declared.netlist.Gate.{Gate}
use Rattle.circ_model.specs.declared.netlist.Reset.{Reset}
use Rattle.circ_model.specs.declared.netlist.Reset.TheVariants.{Zero, One, Free}
use Rattle.circ_model.specs.Netlist.{Netlist}
use Rattle.aiger_codec.specs.Grammar.{magic}

-- the rest of a line: a space before each further number, and LF at the end
unfoldable pub more_text : List ℕ → List ℕ
more_text [] = 10 ∷ []
more_text (n ∷ ns) = 32 ∷ (decimal n ++ more_text ns)

-- a line of numbers in decimal
abbrev pub line_text : ℕ → List ℕ → List ℕ
line_text n ns = decimal n ++ more_text ns

-- a line for each item
unfoldable pub lines_text : {X : Type 0} → (X → List ℕ) → List X → List ℕ
lines_text text [] = []
lines_text text (x ∷ xs) = text x ++ lines_text text xs

abbrev pub input_text : ℕ → List ℕ
input_text v = line_text (2 * v) []

-- a zero reset is left out
abbrev pub reset_numbers : ℕ → Reset → List ℕ
reset_numbers v Zero = []
reset_numbers v One = 1 ∷ []
reset_numbers v Free = 2 * v ∷ []

abbrev pub latch_text : Latch → List ℕ
latch_text l = line_text (2 * l.var) (l.next ∷ reset_numbers l.var l.reset)

abbrev pub output_text : ℕ → List ℕ
output_text lit = line_text lit []

abbrev pub gate_text : Gate → List ℕ
gate_text q = line_text (2 * q.var) (q.left ∷ q.right ∷ [])

-- the header, and then a line for each input, latch, output and gate
abbrev pub net_text : Netlist → List ℕ
net_text net =
    magic false ++ (line_text net.max_var (length net.inputs ∷ length net.latches ∷ length net.outputs ∷ length net.gates ∷ [])
    ++ (lines_text input_text net.inputs ++ (lines_text latch_text net.latches ++ (lines_text output_text net.outputs ++ lines_text gate_text net.gates))))
