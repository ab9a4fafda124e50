-- What the ending of a run says of the file and of what was written.
use Rattle.std.specs.Prelude.{◌≡◌, ◌<◌, ℕ, Bool, true, false, List, [], Option, Some, Ok, Err, IsSomeAnd, length}
use Rattle.cnf_store.specs.Clauses.{Formula}
use Rattle.sec_base.specs.Faults.{appended}
use Rattle.dimacs_text.specs.Texts.{state, text_of}
use Rattle.dimacs_text.specs.Answers.{IsSolution}
use Rattle.dimacs.specs.declared.ending.Ending.{Ending}
use Rattle.dimacs.specs.declared.ending.Ending.TheVariants.{Satisfiable, Unsatisfiable, Refused, Unread, TooLong, Unwritten, Memory}

abbrev pub status_of : Ending → ℕ
status_of Satisfiable = 10
status_of Unsatisfiable = 20
status_of (Refused f) = 1
status_of Unread = 1
status_of TooLong = 1
status_of Unwritten = 1
status_of Memory = 1

-- the answer on the formula that the file is was written
abbrev pub IsWritten : Bool → Option (List ℕ) → Bool → Option (List ℕ) → Option (List ℕ) → Type 0
IsWritten sat file with_log before after =
    (text : List ℕ) × (file ≡ Some text) × ((formula : Formula) × (text_of text ≡ Ok (state formula []))
    × ((answer : List ℕ) × IsSolution sat formula with_log answer × (after ≡ appended before answer)))

abbrev pub IsEnding : Option (List ℕ) → Bool → Option (List ℕ) → Option (List ℕ) → Ending → Type 0
IsEnding file with_log before after Satisfiable = IsWritten true file with_log before after
IsEnding file with_log before after Unsatisfiable = IsWritten false file with_log before after
IsEnding file with_log before after (Refused f) = (text : List ℕ) × (file ≡ Some text) × (text_of text ≡ Err f)
IsEnding file with_log before after Unread = Unit {0}
IsEnding file with_log before after TooLong = IsSomeAnd file (λ text. 1099511627776 < length text)
IsEnding file with_log before after Unwritten = Unit {0}
IsEnding file with_log before after Memory = Unit {0}
