-- What stands after the body: symbol lines, and a comment.
use Rattle.std.specs.Prelude.{ℕ, zero, suc, ◌+◌, ◌==◌, ◌&&◌, ltb, Bool, true, false, if◌then◌else◌, List, [], ◌∷◌, length, drop, Option, Some, None, Result, Ok, Err, slice_index}
use Rattle.plain_text.specs.Numbers.{number_at}
use Rattle.aiger_codec.specs.Lines.{fault}
use Rattle.aiger_codec.specs.declared.fault.NetFault.{NetFault}
use Rattle.aiger_codec.specs.declared.fault.NetKind.TheVariants.{Truncated, Symbol}
use Rattle.aiger_codec.specs.declared.symbols.Counts.{Counts}

-- the place of the first LF
abbrev pub first_end : List ℕ → ℕ → Option ℕ
first_end [] at = None
first_end (b ∷ bs) at = if b == 10 then Some at else first_end bs (at + 1)

-- how many have names of this kind: `i`, `l` or `o`
abbrev pub count_of : Counts → ℕ → ℕ
count_of counts kind = if kind == 105 then counts.inputs else if kind == 108 then counts.latches else if kind == 111 then counts.outputs else 0

-- a position that there is, and a space
abbrev pub is_named : ℕ → List ℕ → Option (ℕ × ℕ) → Bool
is_named count bytes None = false
is_named count bytes (Some n) = ltb n.0 count && (slice_index bytes n.1 == 32)

abbrev pub named_line : ℕ → Bool → Option ℕ → Result ℕ NetFault
named_line at fits None = Err (fault Truncated at)
named_line at fits (Some end) = if fits then Ok (end + 1) else Err (fault Symbol at)

-- the place after a symbol line
unfoldable pub symbol_at : Counts → List ℕ → ℕ → Result ℕ NetFault
symbol_at counts bytes at = named_line at (is_named (count_of counts (slice_index bytes at)) bytes (number_at bytes (at + 1))) (first_end (drop at bytes) at)

abbrev pub next_symbol : (ℕ → Result ℕ NetFault) → Result ℕ NetFault → Result ℕ NetFault
next_symbol others (Ok at) = others at
next_symbol others (Err e) = Err e

-- symbol lines up to the end or a comment, each of which takes a byte or more; answers the place where reading ends
unfoldable pub symbols_at : ℕ → Counts → List ℕ → ℕ → Result ℕ NetFault
symbols_at zero counts bytes at = Ok at
symbols_at (suc more) counts bytes at =
    if ltb at (length bytes) && (if slice_index bytes at == 99 then false else true) then next_symbol (symbols_at more counts bytes) (symbol_at counts bytes at)
    else Ok at
