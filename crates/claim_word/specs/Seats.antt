-- What a seat has, as callers see it, and what each call tells of it.
use Rattle.std.specs.Prelude.{◌≡◌, ◌≢◌, ℕ, ◌<◌, ◌≤◌, List, [], ◌∷◌, ◌++◌, Bool, true, false, Some, slice_get}
use Rattle.std.specs.List.{All, Contains}
use Rattle.atomic_table.specs.Seated.{TableId}
use Rattle.claim_word.specs.Words.{word_of, version_of, pairs_of, index_of, next_claim, IsBefore, IsSince}
use Rattle.claim_word.specs.declared.claim.Claim.{Claim}
use Rattle.claim_word.specs.declared.claim.Claim.TheVariants.{Mine, Spent, Moved}

-- which word it is a seat of, its claims (version, index), the words that its steps listed, whether it is the board's, and the word that it last wrote
pub record SeatState : Type 0 where
  pub word : TableId
  pub claims : List (ℕ × ℕ)
  pub seen : List ℕ
  pub board : Bool
  pub written : ℕ

-- the board's seat of a new word
abbrev pub opening_seat : TableId → ℕ → SeatState
opening_seat word pairs = record { word = word; claims = []; seen = []; board = true; written = word_of 0 pairs 0 }

-- a seat split off another
abbrev pub beside : TableId → SeatState
beside word = record { word = word; claims = []; seen = []; board = false; written = 0 }

-- a seat with the lists of another
abbrev pub both : SeatState → SeatState → SeatState
both s t = record s { claims = s.claims ++ t.claims; seen = s.seen ++ t.seen }

-- a seat that was shown a word
abbrev pub with_seen : SeatState → ℕ → SeatState
with_seen s word = record s { seen = s.seen ++ word ∷ [] }

-- what only the board's steps change
abbrev pub IsSameSeat : SeatState → SeatState → Type 0
IsSameSeat before after = (after.word ≡ before.word) × (after.board ≡ before.board) × (after.written ≡ before.written)

-- no claim stands at two places
abbrev pub AreApart : List (ℕ × ℕ) → Type 0
AreApart claims = (i j : ℕ) (c : ℕ × ℕ) → slice_get claims i ≡ Some c → slice_get claims j ≡ Some c → i ≡ j

-- no claim is in both lists
abbrev pub HaveNoneInCommon : List (ℕ × ℕ) → List (ℕ × ℕ) → Type 0
HaveNoneInCommon xs ys = (c : ℕ × ℕ) → Contains xs c → Contains ys c → ⊥

-- the seat's claims differ and are below the word, and at the board's seat the word comes from the one that it wrote
pub record IsSound (s : SeatState) (word : ℕ) : Type 0 where
  pub fine : index_of word ≤ pairs_of word
  pub below : All (λ c. IsBefore c (next_claim word)) s.claims
  pub apart : AreApart s.claims
  pub since : s.board ≡ true → IsSince s.written word

-- what a claim's answer says of the word that it read, and of the seat
abbrev pub IsAnswered : SeatState → SeatState → Claim → Type 0
IsAnswered before after (Mine version index) =
    (word : ℕ) × (index_of word < pairs_of word) × ((version, index) ≡ next_claim word)
    × (after ≡ record (with_seen before word) { claims = before.claims ++ (version, index) ∷ [] })
IsAnswered before after (Spent version) = (word : ℕ) × (index_of word ≡ pairs_of word) × (version ≡ version_of word) × (after ≡ with_seen before word)
IsAnswered before after (Moved word found) =
    (index_of word < pairs_of word) × (found ≢ word) × (after ≡ with_seen (with_seen before word) found)
