-- Words of a log line that are literals.
use Rattle.std.specs.Prelude.{ℕ, ℤ, pos, neg_ℤ, ◌==◌, if◌then◌else◌, List, drop, Option, Some, None, slice_index}
use Rattle.plain_text.specs.Words.{number_word}

abbrev pub plain_literal : Option ℕ → Option ℤ
plain_literal None = None
plain_literal (Some n) = Some (pos n)

abbrev pub complement_literal : Option ℕ → Option ℤ
complement_literal None = None
complement_literal (Some n) = Some (neg_ℤ (pos n))

-- a literal: a variable from 1 to 2,147,483,647, with `-` before it for its complement
abbrev pub literal_word : List ℕ → Option ℤ
literal_word word = if slice_index word 0 == 45 then complement_literal (number_word 2147483647 (drop 1 word)) else plain_literal (number_word 2147483647 word)
