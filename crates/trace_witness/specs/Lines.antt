-- A text as its lines. What follows the last line's end is no line.
use Rattle.std.specs.Prelude.{ℕ, List}
use Rattle.plain_text.specs.Pieces.{pieces}

-- the lines, each without the LF that ends it
abbrev pub lines_of : List ℕ → List (List ℕ)
lines_of text = pieces 10 text
