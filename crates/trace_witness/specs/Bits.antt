-- Lines of bits, and what is wrong with them.
use Rattle.std.specs.Prelude.{ℕ, ◌+◌, ◌==◌, ◌||◌, ◌&&◌, Bool, true, false, not, if◌then◌else◌, List, [], ◌∷◌, length, map, Option, Some, None}
use Rattle.circ_model.specs.declared.netlist.Reset.{Reset}
use Rattle.circ_model.specs.declared.netlist.Reset.TheVariants.{Zero, One, Free}
use Rattle.circ_model.specs.Meaning.{bit, Pair, latches_of, resets, free_latches}
use Rattle.trace_witness.specs.declared.fault.TraceKind.{TraceKind}
use Rattle.trace_witness.specs.declared.fault.TraceKind.TheVariants as kinds

-- `0`, `1` or `x`
abbrev pub is_mark : ℕ → Bool
is_mark b = (b == 48) || (b == 49) || (b == 120)

abbrev pub are_marks : List ℕ → Bool
are_marks [] = true
are_marks (b ∷ bs) = if is_mark b then are_marks bs else false

-- an `x` stands among them
abbrev pub has_unknown : List ℕ → Bool
has_unknown [] = false
has_unknown (b ∷ bs) = if b == 120 then true else has_unknown bs

-- the first of what can be wrong with a line of so many bits
abbrev pub bits_fault : ℕ → List ℕ → Option TraceKind
bits_fault width line =
    if are_marks line then
    if length line == width then
    if has_unknown line then Some kinds.Unknown else None
    else Some kinds.Length
    else Some kinds.Line

-- the bits that a line spells
abbrev pub bit_of : ℕ → Bool
bit_of b = b == 49

abbrev pub bits_of : List ℕ → List Bool
bits_of line = map bit_of line

-- a bit against a reset zero or one
abbrev pub clashes : Reset → Bool → Bool
clashes Zero b = b
clashes One b = not b
clashes Free b = false

abbrev pub is_against : List Reset → List Bool → Bool
is_against [] bits = false
is_against (r ∷ rs) [] = false
is_against (r ∷ rs) (b ∷ bits) = if clashes r b then true else is_against rs bits

abbrev pub reset_fault : Pair → List ℕ → Option TraceKind → Option TraceKind
reset_fault pair line (Some kind) = Some kind
reset_fault pair line None = if is_against (resets pair) (bits_of line) then Some kinds.Reset else None

-- the j-th bits of two rows are apart, for some j that both have
abbrev pub are_apart : Bool → Bool → Bool
are_apart true b = not b
are_apart false b = b

abbrev pub differ : List Bool → List Bool → Bool
differ [] ys = false
differ (x ∷ xs) [] = false
differ (x ∷ xs) (y ∷ ys) = if are_apart x y then true else differ xs ys

-- the start bits of each side's free latches, in their order
abbrev pub left_free_bits : Pair → List Bool → List Bool
left_free_bits pair bits = map (bit bits) (free_latches pair.left)

abbrev pub right_free_bits : Pair → List Bool → List Bool
right_free_bits pair bits = map (λ (k : ℕ). bit bits (length pair.left.latches + k)) (free_latches pair.right)

-- in a tied pair some free latch of the right netlist starts otherwise than its partner: the j-th of each side are partners
abbrev pub breaks_tie : Pair → List Bool → Bool
breaks_tie pair bits = pair.tied && differ (left_free_bits pair bits) (right_free_bits pair bits)

abbrev pub tie_fault : Pair → List ℕ → Option TraceKind → Option TraceKind
tie_fault pair line (Some kind) = Some kind
tie_fault pair line None = if breaks_tie pair (bits_of line) then Some kinds.Tie else None

-- the first of what can be wrong with the line of start bits
abbrev pub start_fault : Pair → List ℕ → Option TraceKind
start_fault pair line = tie_fault pair line (reset_fault pair line (bits_fault (latches_of pair) line))
