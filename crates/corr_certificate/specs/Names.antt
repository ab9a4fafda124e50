-- Signals by their names: `c` is the constant, `i` with a position an input, `l` or `r` with a variable a latch or gate of the left
-- or right netlist.
use Rattle.std.specs.Prelude.{ℕ, ◌==◌, ◌&&◌, ◌||◌, Bool, true, false, not, if◌then◌else◌, List, length, take, drop, slice_index, bytes_eq, codes, Option, Some, None}
use Rattle.std.specs.List.{position}
use Rattle.circ_model.specs.declared.netlist.Signal.{Signal}
use Rattle.circ_model.specs.declared.netlist.Signal.TheVariants.{Const, Input, Left, Right}
use Rattle.circ_model.specs.Meaning.{Pair}
use Rattle.plain_text.specs.Numbers.{number_at}
use Rattle.product_machine.specs.Cells.{signals}

-- what follows a prefix
abbrev pub stripped : List ℕ → List ℕ → Option (List ℕ)
stripped prefix text = if bytes_eq (take (length prefix) text) prefix then Some (drop (length prefix) text) else None

-- the number that is all of a word, in decimal without leading zeros; past 4294967295 it counts as that (48 is `0`)
abbrev pub whole_number : List ℕ → Option (ℕ × ℕ) → Option ℕ
whole_number word None = None
whole_number word (Some n) = if (n.1 == length word) && (not (slice_index word 0 == 48) || (length word == 1)) then Some n.0 else None

abbrev pub number_of : List ℕ → Option ℕ
number_of word = whole_number word (number_at word 0)

-- a letter, `i` (105), `l` (108) or `r` (114), and a number
abbrev pub lettered : ℕ → Option ℕ → Option Signal
lettered letter None = None
lettered letter (Some n) =
    if letter == 105 then Some (Input n)
    else if letter == 108 then Some (Left n)
    else if letter == 114 then Some (Right n)
    else None

abbrev pub signal_of : List ℕ → Option Signal
signal_of name = if bytes_eq name (codes "c") then Some Const else lettered (slice_index name 0) (number_of (drop 1 name))

-- two signals are the same
abbrev pub is_signal : Signal → Signal → Bool
is_signal Const Const = true
is_signal Const (Input j) = false
is_signal Const (Left j) = false
is_signal Const (Right j) = false
is_signal (Input i) Const = false
is_signal (Input i) (Input j) = i == j
is_signal (Input i) (Left j) = false
is_signal (Input i) (Right j) = false
is_signal (Left i) Const = false
is_signal (Left i) (Input j) = false
is_signal (Left i) (Left j) = i == j
is_signal (Left i) (Right j) = false
is_signal (Right i) Const = false
is_signal (Right i) (Input j) = false
is_signal (Right i) (Left j) = false
is_signal (Right i) (Right j) = i == j

-- the place of a signal, and of a signal's name
abbrev pub place_of : Pair → Option Signal → Option ℕ
place_of pair None = None
place_of pair (Some s) = position (is_signal s) (signals pair)

abbrev pub named : Pair → List ℕ → Option ℕ
named pair name = place_of pair (signal_of name)
