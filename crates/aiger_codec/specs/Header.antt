-- The header, with the first fault.
use Rattle.std.specs.Prelude.{ℕ, ◌+◌, ◌≤◌, Bool, true, false, not, ◌==◌, ◌&&◌, ◌||◌, leb, if◌then◌else◌, List, length, Option, Some, None, Result, Ok, Err, slice_index}
use Rattle.aiger_codec.specs.Lines.{fault, has_end, numbers_at}
use Rattle.aiger_codec.specs.declared.fault.NetFault.{NetFault}
use Rattle.aiger_codec.specs.declared.fault.NetKind.{NetKind}
use Rattle.aiger_codec.specs.declared.fault.NetKind.TheVariants as kinds
use Rattle.aiger_codec.specs.declared.header.Header.{Header}

abbrev pub begins : List ℕ → ℕ → Bool
begins bytes second = (slice_index bytes 0 == 97) && (slice_index bytes 1 == second) && (slice_index bytes 2 == 103)

-- by its first three bytes, `aig` or `aag`: whether it is binary
abbrev pub form_of : List ℕ → Option Bool
form_of bytes = if begins bytes 105 then Some true else if begins bytes 97 then Some false else None

-- after the magic a space, and up to nine numbers
unfoldable pub header_numbers : List ℕ → Option (List ℕ × ℕ)
header_numbers bytes = if slice_index bytes 3 == 32 then numbers_at 9 bytes 4 else None

-- whether inputs, latches and gates are too many for the greatest variable, or in the binary form too few
abbrev pub miscounts : Bool → ℕ → ℕ → Bool
miscounts true m sum = not (sum == m)
miscounts false m sum = not (leb sum m)

abbrev pub refused : {A : Type 0} → NetKind → Result A NetFault
refused kind = Err (fault kind 0)

abbrev pub read_as : Bool → List ℕ → ℕ → Header
read_as binary ns end = record { binary = binary; m = slice_index ns 0; i = slice_index ns 1; l = slice_index ns 2; o = slice_index ns 3; a = slice_index ns 4; end = end }

-- sections that are left out, limits, counts
unfoldable pub checked : Bool → List ℕ → ℕ → Result Header NetFault
checked binary ns end =
    if not (slice_index ns 5 == 0) then refused kinds.Bad else
    if not (slice_index ns 6 == 0) then refused kinds.Constraint else
    if not (slice_index ns 7 == 0) then refused kinds.Justice else
    if not (slice_index ns 8 == 0) then refused kinds.Fairness else
    if leb 1000001 (slice_index ns 0) || leb 1000001 (slice_index ns 3) then refused kinds.Limit else
    if miscounts binary (slice_index ns 0) (slice_index ns 1 + slice_index ns 2 + slice_index ns 4) then refused kinds.Count else
    Ok (read_as binary ns end)

abbrev pub numbered : Bool → Option (List ℕ × ℕ) → Result Header NetFault
numbered binary None = refused kinds.Header
numbered binary (Some ns) = if leb 5 (length ns.0) then checked binary ns.0 ns.1 else refused kinds.Header

abbrev pub formed : List ℕ → Option Bool → Result Header NetFault
formed bytes None = refused kinds.Header
formed bytes (Some binary) = if has_end bytes then numbered binary (header_numbers bytes) else refused kinds.Truncated

unfoldable pub header_at : List ℕ → Result Header NetFault
header_at bytes = formed bytes (form_of bytes)

-- what the checks leave: no more variables and outputs than the limits, and no more inputs, latches and gates than variables
pub record IsWithinLimits (h : Header) : Type 0 where
  pub variables : h.m ≤ 1000000
  pub outputs : h.o ≤ 1000000
  pub sections : h.i + h.l + h.a ≤ h.m
