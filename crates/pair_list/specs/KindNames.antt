-- The printed names of faults.
use Rattle.std.specs.Prelude.{ℕ, List, codes}
use Rattle.pair_list.specs.declared.fault.ListKind.{ListKind}
use Rattle.pair_list.specs.declared.fault.ListKind.TheVariants as kinds

abbrev pub name_of : ListKind → List ℕ
name_of kinds.Limit = codes "limit"
name_of kinds.Truncated = codes "truncated"
name_of kinds.Line = codes "line"
