-- What is written is read again.
use Rattle.circ_model.specs.Netlist.{Netlist, IsSound}
use Rattle.aiger_codec.specs.Writing.{net_text}
use Rattle.aiger_codec.specs.Renumbering.{renumbered}
use Rattle.aiger_codec.specs.BinaryWriting.{binary_text}
use Rattle.aiger_file.specs.Files.{IsNetlistFile}
use Rattle.aiger_file.specs.Grammar.{SpellsFile}

-- the text of a netlist is a file of that netlist
abbrev pub WrittenTextIsRead : Type 0
WrittenTextIsRead = (net : Netlist) → IsSound net → IsNetlistFile (net_text net) net

-- the bytes of a netlist that is numbered anew are in the grammar, and are a file of that netlist
abbrev pub WrittenBinaryIsSpelled : Type 0
WrittenBinaryIsSpelled = (net : Netlist) → IsSound net → SpellsFile (binary_text (renumbered net)) (renumbered net)

abbrev pub WrittenBinaryIsRead : Type 0
WrittenBinaryIsRead = (net : Netlist) → IsSound net → IsNetlistFile (binary_text (renumbered net)) (renumbered net)
