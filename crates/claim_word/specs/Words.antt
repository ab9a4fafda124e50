-- The word of claims, as a number: version, pairs and index lie side by side.
use Rattle.std.specs.Prelude.{◌≡◌, ◌⊎◌, ℕ, ◌+◌, ◌*◌, ◌/◌, ◌%◌, ◌^◌, ◌<◌, ◌≤◌}

-- the word of a version, the number of its pairs, and the index of the next
abbrev pub word_of : ℕ → ℕ → ℕ → ℕ
word_of version pairs index = version * 2 ^ 42 + pairs * 2 ^ 21 + index

abbrev pub version_of : ℕ → ℕ
version_of word = word / 2 ^ 42

abbrev pub pairs_of : ℕ → ℕ
pairs_of word = word / 2 ^ 21 % 2 ^ 21

abbrev pub index_of : ℕ → ℕ
index_of word = word % 2 ^ 21

-- the claim that the word offers next: a version, and an index of it
abbrev pub next_claim : ℕ → ℕ × ℕ
next_claim word = (version_of word, index_of word)

-- a claim comes before another, by version, then index
abbrev pub IsBefore : ℕ × ℕ → ℕ × ℕ → Type 0
IsBefore c d = (c.0 < d.0) ⊎ ((c.0 ≡ d.0) × (c.1 < d.1))

-- the word comes from a word that was written, by claims alone
abbrev pub IsSince : ℕ → ℕ → Type 0
IsSince written word = (version_of word ≡ version_of written) × (pairs_of word ≡ pairs_of written) × (index_of written ≤ index_of word)
