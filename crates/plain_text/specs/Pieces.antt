-- A text cut at a separator: its lines, cut at each LF, or the words of a line, cut at each space.
use Rattle.std.specs.Prelude.{ℕ, ◌<◌, ◌≢◌, ◌==◌, ◌&&◌, Bool, if◌then◌else◌, List, [], ◌∷◌, length, slice_index}

abbrev pub with_byte : ℕ → List (List ℕ) → List (List ℕ)
with_byte b [] = []
with_byte b (p ∷ ps) = (b ∷ p) ∷ ps

-- the pieces that a separator ends, each without it
unfoldable pub pieces : ℕ → List ℕ → List (List ℕ)
pieces separator [] = []
pieces separator (b ∷ bs) = if b == separator then [] ∷ pieces separator bs else with_byte b (pieces separator bs)

abbrev pub last_with : ℕ → List ℕ → List ℕ → List (List ℕ) → List ℕ
last_with b bs last [] = b ∷ bs
last_with b bs last (p ∷ ps) = last

-- the last piece, which no separator ends
unfoldable pub last_of : ℕ → List ℕ → List ℕ
last_of separator [] = []
last_of separator (b ∷ bs) = if b == separator then last_of separator bs else last_with b bs (last_of separator bs) (pieces separator bs)

-- no separator stands below this place
abbrev pub HasNone : ℕ → List ℕ → ℕ → Type 0
HasNone separator bs at = (i : ℕ) → i < at → slice_index bs i ≢ separator

-- a text is this byte alone
abbrev pub is_byte : ℕ → List ℕ → Bool
is_byte b text = (length text == 1) && (slice_index text 0 == b)
