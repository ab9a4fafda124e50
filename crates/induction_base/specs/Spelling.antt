-- The order of runs: by the bits that spell them.
use Rattle.std.specs.Prelude.{◌≡◌, ℕ, ◌<◌, List, ◌++◌, length, flat_map, Bool, true, false}
use Rattle.circ_model.specs.Meaning.{Path, bit}

-- the free bits of a path one after another: those of the start, then those of each input row. A trace has a byte for each of them, in
-- this order. The traces of one output on runs with so many rows have all their other bytes at the same places, and the byte of 0 comes
-- before that of 1: so the order of these lists, below, is the order of the traces by their bytes.
abbrev pub spelled : Path → List Bool
spelled path = path.start ++ flat_map (λ (row : List Bool). row) path.inputs

-- two lists have the same bits below a position
abbrev pub SameBelow : ℕ → List Bool → List Bool → Type 0
SameBelow n a b = (k : ℕ) → k < n → bit a k ≡ bit b k

-- one list comes before another of its length: where they differ first it has 0 and the other 1 (the lexicographic order)
abbrev pub ComesBefore : List Bool → List Bool → Type 0
ComesBefore a b = (i : ℕ) × (i < length b) × SameBelow i a b × (bit a i ≡ false) × (bit b i ≡ true)
