-- What a text says: a list of pairs of names, or its first fault.
use Rattle.std.specs.Prelude.{◌≡◌, ◌≢◌, ℕ, ◌+◌, ◌<◌, ◌≤◌, List, [], ◌∷◌, ◌++◌, length, Result, Ok, Err}
use Rattle.std.specs.List.{All}
use Rattle.pair_list.specs.declared.fault.ListKind.{ListKind}
use Rattle.pair_list.specs.declared.fault.ListKind.TheVariants as kinds
use Rattle.pair_list.specs.declared.fault.ListFault.{ListFault}
use Rattle.pair_list.specs.declared.fault.ListError.{ListError}
use Rattle.pair_list.specs.declared.fault.ListError.TheVariants as errors
use Rattle.pair_list.specs.Lists.{HasNone, AreNames, line_of, text_of}

-- a text begins with the lines of these pairs, of which there are at most 10,000
pub record Begins (bytes : List ℕ) (pairs : List (List ℕ × List ℕ)) (rest : List ℕ) : Type 0 where
  pub names : All AreNames pairs
  pub few : length pairs ≤ 10000
  pub text : bytes ≡ text_of pairs ++ rest

-- what is wrong with the line that follows n lines: 10,000 stand before it, or else no LF ends it, or else it isn't the line of a pair
abbrev pub IsWrong : ListKind → ℕ → List ℕ → Type 0
IsWrong kinds.Limit n rest = n ≡ 10000
IsWrong kinds.Truncated n rest = (n < 10000) × HasNone 10 rest
IsWrong kinds.Line n rest =
    (n < 10000)
    × ((line : List ℕ) × (more : List ℕ) × HasNone 10 line × (rest ≡ line ++ 10 ∷ more) × ((p : List ℕ × List ℕ) → AreNames p → line ≡ line_of p → ⊥))

-- after the lines of some pairs something is left, and its first line is wrong
pub record IsFirstFault (bytes : List ℕ) (fault : ListFault) : Type 0 where
  pub pairs : List (List ℕ × List ℕ)
  pub rest : List ℕ
  pub begins : Begins bytes pairs rest
  pub some : rest ≢ []
  pub line_is : fault.line ≡ length pairs + 1
  pub wrong : IsWrong fault.kind (length pairs) rest

-- a text is the text of a list, or has a first fault
abbrev pub Reads : List ℕ → Result (List (List ℕ × List ℕ)) ListFault → Type 0
Reads bytes (Ok pairs) = Begins bytes pairs []
Reads bytes (Err fault) = IsFirstFault bytes fault

abbrev pub fault : ListKind → ℕ → ListFault
fault kind line = record { kind = kind; line = line }

-- a refusal is the first fault; want of memory says nothing
abbrev pub IsRefusal : List ℕ → ListError → Type 0
IsRefusal bytes (errors.Refused f) = Reads bytes (Err f)
IsRefusal bytes errors.Memory = Unit {0}

-- each text has a reading
abbrev pub HasReading : Type 0
HasReading = (bytes : List ℕ) → (r : Result (List (List ℕ × List ℕ)) ListFault) × Reads bytes r

-- and no other
abbrev pub HasOneReading : Type 0
HasOneReading = (bytes : List ℕ) (r s : Result (List (List ℕ × List ℕ)) ListFault) → Reads bytes r → Reads bytes s → r ≡ s
