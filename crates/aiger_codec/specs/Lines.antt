-- Lines of numbers, with the first fault.
use Rattle.std.specs.Prelude.{ℕ, zero, suc, ◌+◌, Bool, true, false, ◌==◌, leb, if◌then◌else◌, List, [], ◌∷◌, length, drop, Option, Some, None, Result, Ok, Err, slice_index}
use Rattle.plain_text.specs.Numbers.{number_at}
use Rattle.aiger_codec.specs.declared.fault.NetFault.{NetFault}
use Rattle.aiger_codec.specs.declared.fault.NetKind.{NetKind}
use Rattle.aiger_codec.specs.declared.fault.NetKind.TheVariants.{Line, Truncated}

abbrev pub fault : NetKind → ℕ → NetFault
fault kind at = record { kind = kind; at = at }

-- whether a line ends among these bytes
abbrev pub has_end : List ℕ → Bool
has_end [] = false
has_end (b ∷ bs) = if b == 10 then true else has_end bs

-- a number before others
abbrev pub before_others : ℕ → Option (List ℕ × ℕ) → Option (List ℕ × ℕ)
before_others n None = None
before_others n (Some ns) = Some (n ∷ ns.0, ns.1)

-- what follows a number: the line's end, or a space and more
abbrev pub after_number : List ℕ → (ℕ → Option (List ℕ × ℕ)) → Option (ℕ × ℕ) → Option (List ℕ × ℕ)
after_number bytes more None = None
after_number bytes more (Some n) =
    if slice_index bytes n.1 == 10 then Some (n.0 ∷ [], n.1 + 1) else
    if slice_index bytes n.1 == 32 then before_others n.0 (more (n.1 + 1)) else
    None

-- numbers with one space between, the last one ended by LF, and the place after it: up to so many
unfoldable pub numbers_at : ℕ → List ℕ → ℕ → Option (List ℕ × ℕ)
numbers_at zero bytes at = None
numbers_at (suc more) bytes at = after_number bytes (numbers_at more bytes) (number_at bytes at)

abbrev pub has_count : ℕ → ℕ → Option (List ℕ × ℕ) → Result (List ℕ × ℕ) NetFault
has_count least at None = Err (fault Line at)
has_count least at (Some ns) = if leb least (length ns.0) then Ok ns else Err (fault Line at)

-- the numbers of a line that has so many
unfoldable pub line_at : ℕ → ℕ → List ℕ → ℕ → Result (List ℕ × ℕ) NetFault
line_at least most bytes at =
    if has_end (drop at bytes) then has_count least at (numbers_at most bytes at) else Err (fault Truncated at)
