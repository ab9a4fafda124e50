-- A netlist has at most 1,000,000 outputs.
use Rattle.std.specs.Prelude.{ℕ, ◌+◌, ◌≤◌, length}
use Rattle.circ_model.specs.Netlist.{Netlist}
use Rattle.aiger_codec.specs.declared.section.Section.{Section}
use Rattle.aiger_codec.specs.declared.section.Section.TheVariants.{Inputs, Latches, Outputs, Gates}

-- so many more lines of the section may be added to what was given
abbrev pub HasRoom : Section → ℕ → Netlist → Type 0
HasRoom Inputs n given = Unit {0}
HasRoom Latches n given = Unit {0}
HasRoom Outputs n given = length given.outputs + n ≤ 1000000
HasRoom Gates n given = Unit {0}
