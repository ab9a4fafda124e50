use Rattle.aiger_codec.specs.Renumbering.{IsNumbering}
use Rattle.aiger_codec.proofs.renumber.numbering.Given as goal

abbrev pub invariant-loop-number : goal.invariant-loop-number
invariant-loop-number l = IsNumbering l.net l.number l.table.items
