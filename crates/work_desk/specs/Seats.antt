-- A worker's seat at the desk, and what the ledgers of a run tell of all seats.
use Rattle.std.specs.Prelude.{◌≡◌, ℕ, ◌+◌, ◌-◌, ◌*◌, ◌^◌, ◌<◌, ◌≤◌, List, [], ◌∷◌, ◌++◌, length, slice_index_or, Option, None, IfSome}
use Rattle.claim_word.specs.Seats.{SeatState}
use Rattle.claim_word.specs.Words.{index_of, pairs_of}

-- its party, whether it was told that each pair is counted (0 or 1), and how many pairs it answered
pub record Seated : Type 0 where
  pub party : ℕ
  pub ended : ℕ
  pub answered : ℕ

abbrev pub seated : ℕ → ℕ → ℕ → Seated
seated party parts answered = record { party = party; ended = 2 - parts; answered = answered }

-- a seat has two parts until it ends, and then one; its end counts 2^party
pub record IsSeat (party one weight parts : ℕ) : Type 0 where
  pub within : party < 64
  pub one_part : one ≡ 1
  pub some : 0 < parts
  pub few : parts ≤ 2
  pub weight_is : weight ≡ (2 - parts) * 2 ^ party

-- the sum of the ends' weights, the number of ends, and that of the answers
pub record Totals : Type 0 where
  pub weights : ℕ
  pub ends : ℕ
  pub answered : ℕ

-- a worker's seat at its end
abbrev pub HasEnded : ℕ → Seated → Type 0
HasEnded party s = (s.party ≡ party) × (s.ended ≡ 1)

abbrev pub no_totals : Totals
no_totals = record { weights = 0; ends = 0; answered = 0 }

-- the seats of the parties below n, none of which has ended or answered a pair
abbrev pub AreSeats : ℕ → List Seated → Type 0
AreSeats n seats = (length seats ≡ n) × ((i : ℕ) (d : Seated) → i < n → slice_index_or seats i d ≡ record { party = i; ended = 0; answered = 0 })

-- those that came back have ended
abbrev pub HaveEnded : List (Option Seated) → Type 0
HaveEnded told = (i : ℕ) → i < length told → IfSome (slice_index_or told i None) (HasEnded i)

-- a worker in its seat: its party, whether it was told that each pair is counted, how many pairs it answered, the pairs that it claimed (version, index),
-- and the words that it was shown
pub record Calling : Type 0 where
  pub party : ℕ
  pub ended : ℕ
  pub answered : ℕ
  pub claims : List (ℕ × ℕ)
  pub seen : List ℕ

abbrev pub calling : Seated → SeatState → Calling
calling s at = record { party = s.party; ended = s.ended; answered = s.answered; claims = at.claims; seen = at.seen }

abbrev pub IsSameWorker : Calling → Calling → Type 0
IsSameWorker before after = (after.party ≡ before.party) × (after.ended ≡ before.ended) × (after.answered ≡ before.answered)

-- it answered one pair more
abbrev pub HasAnswered : Calling → Calling → Type 0
HasAnswered before after = after ≡ record before { answered = before.answered + 1 }

-- it claimed one more
abbrev pub HasClaimed : Calling → Calling → ℕ × ℕ → Type 0
HasClaimed before after claim = IsSameWorker before after × (after.claims ≡ before.claims ++ claim ∷ [])

-- the last word that it was shown has no pair left
abbrev pub HasFoundNone : Calling → Calling → Type 0
HasFoundNone before after = IsSameWorker before after × (after.claims ≡ before.claims) × ((front : List ℕ) × (word : ℕ) × (after.seen ≡ before.seen ++ (front ++ word ∷ [])) × (index_of word ≡ pairs_of word))
