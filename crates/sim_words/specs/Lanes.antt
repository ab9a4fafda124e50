-- Bits of words as lanes: lane b of a list of words is the row of their bits b.
use Rattle.std.specs.Prelude.{◌==◌, ℕ, List, map, Bool}
use Rattle.std.specs.Int.{bit_at}

-- bit b of a word
abbrev pub lane_bit : ℕ → ℕ → Bool
lane_bit b word = bit_at word b == 1

-- bit b of each word
abbrev pub lane : ℕ → List ℕ → List Bool
lane b words = map (lane_bit b) words
