-- What a whole file gives: a netlist, or its first fault.
use Rattle.std.specs.Prelude.{◌≡◌, ℕ, ◌⊎◌, Bool, true, false, List, length, Result, Ok, Err}
use Rattle.circ_model.specs.Netlist.{Netlist, AllDefined}
use Rattle.aig_graph.specs.Finish.{IsFinished, IsLeastUndefined, IsCircular}
use Rattle.aiger_codec.specs.Lines.{fault}
use Rattle.aiger_codec.specs.Header.{header_at}
use Rattle.aiger_codec.specs.Sections.{◌>>=◌, body_at}
use Rattle.aiger_codec.specs.Symbols.{symbols_at}
use Rattle.aiger_codec.specs.declared.fault.NetFault.{NetFault}
use Rattle.aiger_codec.specs.declared.fault.NetError.{NetError}
use Rattle.aiger_codec.specs.declared.fault.NetError.TheVariants as errors
use Rattle.aiger_codec.specs.declared.fault.NetKind.TheVariants as kinds
use Rattle.aiger_codec.specs.declared.header.Header.{Header}
use Rattle.aiger_codec.specs.declared.symbols.Counts.{Counts}
use Rattle.aiger_binary.specs.Binary.{binary_at}

abbrev pub counts_of : Header → Counts
counts_of h = record { inputs = h.i; latches = h.l; outputs = h.o }

-- the body, binary or text
abbrev pub in_form : Bool → Header → List ℕ → Result (Netlist × ℕ) NetFault
in_form true h bytes = binary_at h bytes
in_form false h bytes = body_at h bytes

-- the symbols after the body say nothing of the netlist
abbrev pub after_symbols : Netlist → Result ℕ NetFault → Result Netlist NetFault
after_symbols given (Ok end) = Ok given
after_symbols given (Err e) = Err e

-- what the file gives, item by item, before it is looked at as a whole
abbrev pub given_at : List ℕ → Result Netlist NetFault
given_at bytes = do
  h ← header_at bytes
  s ← in_form h.binary h bytes
  after_symbols s.0 (symbols_at (length bytes) (counts_of h) bytes s.1)

-- what is wrong with the whole: the least variable that is used and has no definition, else gates that wait for each other
abbrev pub IsWrong : Netlist → NetFault → Type 0
IsWrong given f = ((f ≡ fault kinds.Undefined 0) × ((v : ℕ) × IsLeastUndefined given v)) ⊎ ((f ≡ fault kinds.Cyclic 0) × AllDefined given × IsCircular given)

-- the file is accepted as this netlist: what it gives, the gates put in their order
abbrev pub IsNetlistFile : List ℕ → Netlist → Type 0
IsNetlistFile bytes net = (given : Netlist) × (given_at bytes ≡ Ok given) × IsFinished given net

-- the file is refused, and this is its first fault
abbrev pub IsFirstFault : List ℕ → NetFault → Type 0
IsFirstFault bytes f = (given_at bytes ≡ Err f) ⊎ ((given : Netlist) × (given_at bytes ≡ Ok given) × IsWrong given f)

abbrev pub IsReading : List ℕ → Result Netlist NetError → Type 0
IsReading bytes (Ok net) = IsNetlistFile bytes net
IsReading bytes (Err (errors.Refused f)) = IsFirstFault bytes f
IsReading bytes (Err errors.Memory) = Unit {0}

-- finishing what a builder was given
abbrev pub IsFinish : Netlist → Result Netlist NetError → Type 0
IsFinish given (Ok net) = IsFinished given net
IsFinish given (Err (errors.Refused f)) = IsWrong given f
IsFinish given (Err errors.Memory) = Unit {0}
