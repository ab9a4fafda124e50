-- A trace as its lines say it, or the first fault; and the text of a trace. (The form of an AIGER 1.9 witness, Biere, Heljanko and
-- Wieringa 2011, with `b` and an output's number.)
use Rattle.std.specs.Prelude.{◌≡◌, ℕ, ◌+◌, ◌==◌, ltb, ◌&&◌, Bool, if◌then◌else◌, List, [], ◌∷◌, ◌++◌, length, map, Option, Some, None, Result, Ok, Err, slice_index, decimal}
use Rattle.plain_text.specs.Numbers.{number_at}
use Rattle.plain_text.specs.Pieces.{is_byte}
use Rattle.circ_model.specs.Meaning.{Pair, Path, outputs_of}
use Rattle.trace_witness.specs.Bits.{bits_fault, bits_of, start_fault}
use Rattle.trace_witness.specs.declared.read.Trace.{Trace}
use Rattle.trace_witness.specs.declared.fault.TraceKind.{TraceKind}
use Rattle.trace_witness.specs.declared.fault.TraceFault.{TraceFault}
use Rattle.trace_witness.specs.declared.fault.TraceError.{TraceError}
use Rattle.trace_witness.specs.declared.fault.TraceError.TheVariants as errors
use Rattle.trace_witness.specs.declared.fault.TraceKind.TheVariants as kinds

abbrev pub fault : TraceKind → ℕ → TraceFault
fault kind line = record { kind = kind; line = line }

abbrev pub frame_or : Option TraceKind → ℕ → Result (List (List Bool)) TraceFault → Result (List (List Bool)) TraceFault
frame_or None line more = more
frame_or (Some kind) line more = Err (fault kind line)

-- the input rows from this line on, after the rows before them, up to the line `.`
unfoldable pub frames_of : ℕ → ℕ → List (List Bool) → List (List ℕ) → Result (List (List Bool)) TraceFault
frames_of width line rows [] = Err (fault kinds.Truncated line)
frames_of width line rows (l ∷ ls) =
    if is_byte 46 l then Ok rows else
    frame_or (bits_fault width l) line (frames_of width (line + 1) (rows ++ bits_of l ∷ []) ls)

abbrev pub with_rows : ℕ → List Bool → Result (List (List Bool)) TraceFault → Result Trace TraceFault
with_rows output start (Err f) = Err f
with_rows output start (Ok rows) = Ok (record { output = output; run = record { start = start; inputs = rows } })

abbrev pub started : Option TraceKind → Pair → ℕ → List ℕ → List (List ℕ) → Result Trace TraceFault
started (Some kind) pair output l ls = Err (fault kind 3)
started None pair output l ls = with_rows output (bits_of l) (frames_of (length pair.left.inputs) 4 [] ls)

-- line 3: the start bits
abbrev pub start_of : Pair → ℕ → List (List ℕ) → Result Trace TraceFault
start_of pair output [] = Err (fault kinds.Truncated 3)
start_of pair output (l ∷ ls) = started (start_fault pair l) pair output l ls

-- a number below this one, that ends there
abbrev pub below : ℕ → ℕ → Option (ℕ × ℕ) → Option ℕ
below outputs end None = None
below outputs end (Some n) = if (n.1 == end) && ltb n.0 outputs then Some n.0 else None

-- `b` and the number of an output
abbrev pub output_named : ℕ → List ℕ → Option ℕ
output_named outputs l = if slice_index l 0 == 98 then below outputs (length l) (number_at l 1) else None

abbrev pub named : Option ℕ → Pair → List (List ℕ) → Result Trace TraceFault
named None pair ls = Err (fault kinds.Line 2)
named (Some output) pair ls = start_of pair output ls

-- line 2: the output
abbrev pub output_of : Pair → List (List ℕ) → Result Trace TraceFault
output_of pair [] = Err (fault kinds.Truncated 2)
output_of pair (l ∷ ls) = named (output_named (outputs_of pair) l) pair ls

-- line 1 is `1`; then the others, each looked at where those before it have no fault
unfoldable pub trace_of : Pair → List (List ℕ) → Result Trace TraceFault
trace_of pair [] = Err (fault kinds.Truncated 1)
trace_of pair (l ∷ ls) = if is_byte 49 l then output_of pair ls else Err (fault kinds.Line 1)

-- an answer is what is due; want of memory says nothing
abbrev pub IsDue : Result Trace TraceError → Result Trace TraceFault → Type 0
IsDue (Ok t) due = due ≡ Ok t
IsDue (Err (errors.Refused f)) due = due ≡ Err f
IsDue (Err errors.Memory) due = Unit {0}

abbrev pub FramesDue : Result (Unit {0}) TraceError → List (List Bool) → Result (List (List Bool)) TraceFault → Type 0
FramesDue (Ok _) rows due = due ≡ Ok rows
FramesDue (Err (errors.Refused f)) rows due = due ≡ Err f
FramesDue (Err errors.Memory) rows due = Unit {0}

-- the byte of a bit
abbrev pub byte_of : Bool → ℕ
byte_of b = if b then 49 else 48

abbrev pub bytes_of : List Bool → List ℕ
bytes_of bits = map byte_of bits

-- a line for each input row, and the line `.`
unfoldable pub frames_text : List (List Bool) → List ℕ
frames_text [] = 46 ∷ 10 ∷ []
frames_text (row ∷ rows) = bytes_of row ++ 10 ∷ frames_text rows

-- `1`, the output, the start bits, the input rows
abbrev pub trace_text : ℕ → Path → List ℕ
trace_text output path = 49 ∷ 10 ∷ ((98 ∷ decimal output) ++ 10 ∷ (bytes_of path.start ++ 10 ∷ frames_text path.inputs))
