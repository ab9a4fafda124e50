-- What workers claimed, and what they found.
use Rattle.std.specs.Prelude.{◌≡◌, ℕ, List, map, false, Some, IfSome, slice_get}
use Rattle.std.specs.List.{All}
use Rattle.atomic_table.specs.Seated.{TableId}
use Rattle.circ_model.specs.Meaning.{Pair}
use Rattle.claim_word.specs.Seats.{SeatState}
use Rattle.pair_pool.specs.declared.worker.Claimed.{Claimed}
use Rattle.pair_pool.specs.declared.worker.Done.{Done}
use Rattle.pair_pool.specs.Outcomes.{IsOutcomeAt}

-- each outcome is that of the claimed pair of the list
abbrev pub AreFound : List Pair → ℕ → List Claimed → Type 0
AreFound pairs k claimed = All (λ (c : Claimed). IfSome c.outcome (IsOutcomeAt pairs k c.index)) claimed

-- the places that were claimed
abbrev pub places : List Claimed → List ℕ
places claimed = map (λ (c : Claimed). c.index) claimed

-- no pair was claimed twice
abbrev pub AreOnce : List Claimed → Type 0
AreOnce claimed = (i j place : ℕ) → slice_get (places claimed) i ≡ Some place → slice_get (places claimed) j ≡ Some place → i ≡ j

-- the indices of a seat's claims
abbrev pub claimed_at : SeatState → List ℕ
claimed_at seat = map (λ (c : ℕ × ℕ). c.1) seat.claims

-- a worker sits at the word, and what it claimed is what its seat lists
pub record AreListed (word : TableId) (seat : SeatState) (claimed : List Claimed) : Type 0 where
  pub word_is : seat.word ≡ word
  pub beside : seat.board ≡ false
  pub listed : claimed_at seat ≡ places claimed

abbrev pub IsSeated : TableId → Done → Type 0
IsSeated word done = AreListed word done.seat done.claimed.items

abbrev pub HasFound : List Pair → ℕ → Done → Type 0
HasFound pairs k done = AreFound pairs k done.claimed.items
