-- The texts about files: a refusal, or a failure to read or write.
use Rattle.std.specs.Prelude.{ℕ, List, ◌++◌, codes, decimal}
use Rattle.aiger_codec.specs.declared.fault.NetFault.{NetFault}
use Rattle.aiger_codec.specs.Names.{name_of}

-- what each text about a file begins with
abbrev pub about : List ℕ → List ℕ
about name = codes "sec: " ++ (name ++ codes ": ")

abbrev pub fault_text : List ℕ → NetFault → List ℕ
fault_text name fault = about name ++ ((name_of fault.kind ++ codes " at byte ") ++ (decimal fault.at ++ codes "\n"))

-- a fault of this kind, in this line
abbrev pub line_fault_text : List ℕ → List ℕ → ℕ → List ℕ
line_fault_text name kind line = about name ++ ((kind ++ codes " at line ") ++ (decimal line ++ codes "\n"))

abbrev pub differ_text : List ℕ → ℕ → ℕ → List ℕ
differ_text what a b = codes "sec: " ++ ((what ++ codes " differ: ") ++ ((decimal a ++ codes " and ") ++ (decimal b ++ codes "\n")))

abbrev pub read_failed_text : List ℕ → List ℕ
read_failed_text name = about name ++ codes "read failed\n"

abbrev pub store_failed_text : List ℕ → List ℕ
store_failed_text name = about name ++ codes "write failed\n"

abbrev pub write_failed_text : List ℕ
write_failed_text = codes "sec: output: write failed\n"

abbrev pub memory_text : List ℕ
memory_text = codes "sec: out of memory\n"
