-- Each list of bytes has one netlist or one first fault, and never both.
use Rattle.std.specs.Prelude.{◌≡◌, ◌⊎◌, ℕ, List}
use Rattle.circ_model.specs.Netlist.{Netlist}
use Rattle.aiger_codec.specs.declared.fault.NetFault.{NetFault}
use Rattle.aiger_file.specs.Files.{IsNetlistFile, IsFirstFault}

abbrev pub HasOneReading : Type 0
HasOneReading = (bytes : List ℕ) → ((net : Netlist) × IsNetlistFile bytes net) ⊎ ((f : NetFault) × IsFirstFault bytes f)

abbrev pub OneNetlist : Type 0
OneNetlist = (bytes : List ℕ) (m n : Netlist) → IsNetlistFile bytes m → IsNetlistFile bytes n → m ≡ n

abbrev pub OneFirstFault : Type 0
OneFirstFault = (bytes : List ℕ) (e f : NetFault) → IsFirstFault bytes e → IsFirstFault bytes f → e ≡ f

abbrev pub NeverBoth : Type 0
NeverBoth = (bytes : List ℕ) (net : Netlist) (f : NetFault) → IsNetlistFile bytes net → IsFirstFault bytes f → ⊥
