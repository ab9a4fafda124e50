-- The printed names of faults.
use Rattle.std.specs.Prelude.{ℕ, List, codes}
use Rattle.aiger_codec.specs.declared.fault.NetKind.{NetKind}
use Rattle.aiger_codec.specs.declared.fault.NetKind.TheVariants as kinds

abbrev pub name_of : NetKind → List ℕ
name_of kinds.Header = codes "header"
name_of kinds.Bad = codes "section bad"
name_of kinds.Constraint = codes "section constraint"
name_of kinds.Justice = codes "section justice"
name_of kinds.Fairness = codes "section fairness"
name_of kinds.Limit = codes "limit"
name_of kinds.Count = codes "count"
name_of kinds.Line = codes "line"
name_of kinds.Truncated = codes "truncated"
name_of kinds.Literal = codes "literal"
name_of kinds.Redefined = codes "redefined"
name_of kinds.Reset = codes "reset"
name_of kinds.Order = codes "order"
name_of kinds.Undefined = codes "undefined"
name_of kinds.Cyclic = codes "cyclic"
name_of kinds.Symbol = codes "symbol"
