-- The names of faults, as they are printed.
use Rattle.std.specs.Prelude.{ℕ, List, codes}
use Rattle.trace_witness.specs.declared.fault.TraceKind.{TraceKind}
use Rattle.trace_witness.specs.declared.fault.TraceKind.TheVariants.{Line, Length, Unknown, Reset, Truncated, Tie}

abbrev pub name_of : TraceKind → List ℕ
name_of Line = codes "line"
name_of Length = codes "length"
name_of Unknown = codes "unknown"
name_of Reset = codes "reset"
name_of Truncated = codes "truncated"
name_of Tie = codes "tie"
