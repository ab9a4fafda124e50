-- A line that is written is one of the grammar.
use Rattle.std.proofs.Common.{ℕ, ◌<◌, List, [], ◌∷◌, refl, decimal}
use Rattle.std.specs.List.{AllByRecursion}
use Rattle.plain_text.proofs.Again.{number_spelled}
use Rattle.aiger_codec.specs.Grammar.{SpellsLine}
use Rattle.aiger_codec.specs.Writing.{more_text, line_text}

pub line_spelled : (n : ℕ) (ns : List ℕ) → n < 4294967296 → AllByRecursion (λ k. k < 4294967296) ns → SpellsLine (line_text n ns) (n ∷ ns)
unfolding more_text
line_spelled n [] lt all = (decimal n, number_spelled n lt, refl)
line_spelled n (m ∷ ns) lt all = (decimal n, line_text m ns, number_spelled n lt, line_spelled m ns all.0 all.1, refl)
