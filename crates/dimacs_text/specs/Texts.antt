-- The formula that a text is, or its first fault, by its lines.
use Rattle.std.specs.Prelude.{◌≡◌, ℕ, ℤ, ◌+◌, ◌==◌, ◌||◌, Bool, leb, if◌then◌else◌, List, [], ◌∷◌, ◌++◌, Option, Some, None, Result, Ok, Err, length, unsigned_abs}
use Rattle.std.specs.List.{list_all}
use Rattle.cnf_store.specs.Clauses.{Formula}
use Rattle.plain_text.specs.Pieces.{pieces, last_of, is_byte}
use Rattle.sat_log.specs.Words.{literal_word}
use Rattle.dimacs_text.specs.Words.{words, is_comment, is_of_number, header_of}
use Rattle.dimacs_text.specs.declared.header.Header.{Header}
use Rattle.dimacs_text.specs.declared.fault.DimacsKind.{DimacsKind}
use Rattle.dimacs_text.specs.declared.fault.DimacsKind.TheVariants as kinds
use Rattle.dimacs_text.specs.declared.fault.DimacsFault.{DimacsFault}
use Rattle.dimacs_text.specs.declared.fault.DimacsError.{DimacsError}
use Rattle.dimacs_text.specs.declared.fault.DimacsError.TheVariants as errors

-- what was read: the clauses that are ended, and the literals of the one that isn't
pub record State : Type 0 where
  pub formula : Formula
  pub literals : List ℤ

abbrev pub state : Formula → List ℤ → State
state formula literals = record { formula = formula; literals = literals }

abbrev pub fault : DimacsKind → ℕ → Result State DimacsFault
fault kind at = Err (record { kind = kind; at = at })

abbrev pub and_then : Result State DimacsFault → (State → Result State DimacsFault) → Result State DimacsFault
and_then (Err f) more = Err f
and_then (Ok s) more = more s

-- why a word isn't a literal
abbrev pub kind_of : List ℕ → DimacsKind
kind_of word = if list_all is_of_number word then kinds.Number else kinds.Character

-- a clause is ended
abbrev pub ended : State → State
ended s = state (record { vars = s.formula.vars; clauses = s.formula.clauses ++ s.literals ∷ [] }) []

abbrev pub with_literal : ℕ → State → List ℕ → Option ℤ → Result State DimacsFault
with_literal at s word None = fault (kind_of word) at
with_literal at s word (Some l) = if leb (unsigned_abs l) s.formula.vars then Ok (state s.formula (s.literals ++ l ∷ [])) else fault kinds.Number at

-- a word: none between two spaces, or `0`, which ends a clause, or a literal
abbrev pub word_from : ℕ → State → List ℕ → Result State DimacsFault
word_from at s word =
    if length word == 0 then Ok s else
    if is_byte 48 word then Ok (ended s) else
    with_literal at s word (literal_word word)

unfoldable pub words_from : ℕ → State → List (List ℕ) → List ℕ → Result State DimacsFault
words_from at s [] last = word_from at s last
words_from at s (w ∷ ws) last = and_then (word_from at s w) (λ t. words_from (at + length w + 1) t ws last)

abbrev pub line_from : ℕ → State → List ℕ → Result State DimacsFault
line_from at s line = if is_comment line then Ok s else words_from at s (pieces 32 line) (last_of 32 line)

unfoldable pub lines_from : ℕ → State → List (List ℕ) → List ℕ → Result State DimacsFault
lines_from at s [] last = line_from at s last
lines_from at s (l ∷ ls) last = and_then (line_from at s l) (λ t. lines_from (at + length l + 1) t ls last)

-- the whole text was read
abbrev pub finished : ℕ → ℕ → Result State DimacsFault → Result State DimacsFault
finished end clauses (Err f) = Err f
finished end clauses (Ok s) =
    if length s.literals == 0 then (if length s.formula.clauses == clauses then Ok s else fault kinds.Count end) else fault kinds.Open end

abbrev pub with_header : ℕ → ℕ → Option Header → List (List ℕ) → List ℕ → ℕ → Result State DimacsFault
with_header end at None ls last next = fault kinds.Header at
with_header end at (Some h) ls last next = finished end h.clauses (lines_from next (state (record { vars = h.vars; clauses = [] }) []) ls last)

-- a comment, or a line without words
abbrev pub is_passed : List ℕ → Bool
is_passed line = is_comment line || (length (words line) == 0)

-- comments and blank lines, the header, and the clauses
unfoldable pub header_from : ℕ → ℕ → List (List ℕ) → List ℕ → Result State DimacsFault
header_from end at [] last = fault kinds.Header at
header_from end at (l ∷ ls) last =
    if is_passed l then header_from end (at + length l + 1) ls last
    else with_header end at (header_of l) ls last (at + length l + 1)

-- what a text is
abbrev pub text_of : List ℕ → Result State DimacsFault
text_of text = header_from (length text) 0 (pieces 10 text) (last_of 10 text)

-- a step did what is due; want of memory says nothing
abbrev pub IsDue : {X : Type 0} → Result X DimacsError → Formula → List ℤ → Result State DimacsFault → Type 0
IsDue (Ok _) formula literals due = due ≡ Ok (state formula literals)
IsDue (Err (errors.Refused f)) formula literals due = due ≡ Err f
IsDue (Err errors.Memory) formula literals due = Unit {0}

-- a text was read: it is the formula, or has the fault
abbrev pub IsRead : Result Formula DimacsError → Result State DimacsFault → Type 0
IsRead (Ok formula) due = due ≡ Ok (state formula [])
IsRead (Err (errors.Refused f)) due = due ≡ Err f
IsRead (Err errors.Memory) due = Unit {0}
