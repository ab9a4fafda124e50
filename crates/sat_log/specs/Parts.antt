-- The lines of a log inside a longer text, and a text that is a log.
use Rattle.std.specs.Prelude.{◌≡◌, ℕ, ℤ, ◌+◌, ◌==◌, ◌||◌, Bool, true, false, if◌then◌else◌, List, [], ◌∷◌, ◌++◌, Option, Some, None, Result, Ok, Err, length, slice_index}
use Rattle.sat_log.specs.Derivations.{Line}
use Rattle.plain_text.specs.Pieces.{pieces, last_of}
use Rattle.plain_text.specs.Numbers.{is_digit}
use Rattle.sat_log.specs.Texts.{step_of}
use Rattle.sat_log.specs.declared.part.Stop.{Stop}
use Rattle.sat_log.specs.declared.part.Stop.TheVariants.{Ends, Cut, Wrong}
use Rattle.sat_log.specs.declared.text.LogError.{LogError}
use Rattle.sat_log.specs.declared.text.LogError.TheVariants as errors

-- a digit or `-` begins it
abbrev pub starts_log : List ℕ → Bool
starts_log l = is_digit (slice_index l 0) || (slice_index l 0 == 45)

-- why reading stopped, at which line, what was read, and the lines from there on
pub record Part : Type 0 where
  pub stop : Stop
  pub line : ℕ
  pub log : List Line
  pub rest : List (List ℕ)

abbrev pub part : Stop → ℕ → List Line → List (List ℕ) → Part
part stop line log rest = record { stop = stop; line = line; log = log; rest = rest }

abbrev pub with_step : Option Line → Part → (Line → Part) → Part
with_step None wrong more = wrong
with_step (Some s) wrong more = more s

-- the log that begins at line n, after the lines in front
unfoldable pub part_from : List Line → ℕ → List (List ℕ) → Part
part_from front n [] = part Cut n front []
part_from front n (l ∷ ls) =
    if starts_log l then with_step (step_of l) (part Wrong n front (l ∷ ls)) (λ s. part_from (front ++ s ∷ []) (n + 1) ls)
    else part Ends n front (l ∷ ls)

abbrev pub or_refused : Option Line → ℕ → (Line → Result (List Line) ℕ) → Result (List Line) ℕ
or_refused None n more = Err n
or_refused (Some s) n more = more s

-- all lines, or the number of the first that isn't a log line; the last piece is none, and must be empty
unfoldable pub log_from : List Line → ℕ → List (List ℕ) → List ℕ → Result (List Line) ℕ
log_from front n [] last = if length last == 0 then Ok front else Err n
log_from front n (l ∷ ls) last = or_refused (step_of l) n (λ s. log_from (front ++ s ∷ []) (n + 1) ls last)

-- the log that a text is, its lines counted from 1
abbrev pub log_of : List ℕ → Result (List Line) ℕ
log_of text = log_from [] 1 (pieces 10 text) (last_of 10 text)

-- an answer is what is due; want of memory says nothing
abbrev pub IsDue : Result (List Line) LogError → Result (List Line) ℕ → Type 0
IsDue (Ok log) due = due ≡ Ok log
IsDue (Err (errors.Refused f)) due = due ≡ Err f.line
IsDue (Err errors.Memory) due = Unit {0}

-- what a line of text adds to a log
abbrev pub Adds : Bool → List ℤ → List ℕ → List Line → List Line → Option Line → Type 0
Adds true literals hints before after due = (due ≡ Some (record { literals = literals; hints = hints })) × (after ≡ before ++ record { literals = literals; hints = hints } ∷ [])
Adds false literals hints before after due = (due ≡ None) × (after ≡ before)
