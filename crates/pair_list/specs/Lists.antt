-- The grammar of a list: a line for each pair, its two names with one space between.
use Rattle.std.specs.Prelude.{◌≢◌, ℕ, List, [], ◌∷◌, ◌++◌, IsUtf8}
use Rattle.std.specs.List.{All}

-- this byte isn't among them
abbrev pub HasNone : ℕ → List ℕ → Type 0
HasNone byte bytes = All (λ (b : ℕ). b ≢ byte) bytes

-- a name: one or more bytes of UTF-8, without space or LF
pub record IsName (name : List ℕ) : Type 0 where
  pub some : name ≢ []
  pub no_space : HasNone 32 name
  pub no_end : HasNone 10 name
  pub utf8 : IsUtf8 name

abbrev pub AreNames : List ℕ × List ℕ → Type 0
AreNames p = IsName p.0 × IsName p.1

-- the line of a pair, without its LF
abbrev pub line_of : List ℕ × List ℕ → List ℕ
line_of p = p.0 ++ 32 ∷ p.1

-- the text of a list: the line of each pair, with an LF at its end
abbrev pub text_of : List (List ℕ × List ℕ) → List ℕ
text_of [] = []
text_of (p ∷ ps) = line_of p ++ 10 ∷ text_of ps
