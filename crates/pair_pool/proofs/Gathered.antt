-- What the seats of all workers list when they are back: the claims of one version, none of them twice.
use Rattle.std.proofs.Common.{◌≡◌, ◌∙◌, ℕ, zero, suc, ◌+◌, List, [], ◌∷◌, ◌++◌, map, true, Some, IfSome, slice_get, sym, ap₂, subst, arith, inl, inr, All}
use Rattle.std.proofs.lemmas.List.{map-append}
use Rattle.std.proofs.lemmas.List.Elements.{All-append, All-head, All-pop, All-tail, All-weaker}
use Rattle.circ_model.specs.Meaning.{Pair}
use Rattle.atomic_table.specs.Seated.{TableId}
use Rattle.claim_word.specs.Words.{IsBefore, next_claim, version_of}
use Rattle.claim_word.specs.Seats.{IsSound, SeatState, both}
use Rattle.pair_pool.specs.declared.worker.Claimed.{Claimed}
use Rattle.pair_pool.specs.declared.worker.Done.{Done}
use Rattle.pair_pool.specs.Outcomes.{IsOutcomeAt}
use Rattle.pair_pool.specs.Claims.{AreFound, AreOnce, HasFound, IsSeated, claimed_at, places}

-- a seat that came back lists what its worker claimed
pub listed_more : (first other : SeatState) (all claimed : List Claimed) → claimed_at first ≡ places all → claimed_at other ≡ places claimed → claimed_at (both first other) ≡ places (all ++ claimed)
listed_more first other all claimed a b =
    map-append (λ (c : ℕ × ℕ). c.1) first.claims other.claims
    ∙ ap₂ (λ (xs ys : List ℕ). xs ++ ys) a b
    ∙ sym (map-append (λ (c : Claimed). c.index) all claimed)

pub found_more : (pairs : List Pair) (k : ℕ) (all claimed : List Claimed) → AreFound pairs k all → AreFound pairs k claimed → AreFound pairs k (all ++ claimed)
found_more pairs k all claimed a b = All-append (λ (c : Claimed). IfSome c.outcome (IsOutcomeAt pairs k c.index)) all claimed a b

-- the claim at a place, where all are of version 0
claim_at : (claims : List (ℕ × ℕ)) (i place : ℕ) → All (λ (c : ℕ × ℕ). c.0 ≡ 0) claims → slice_get (map (λ (c : ℕ × ℕ). c.1) claims) i ≡ Some place → slice_get claims i ≡ Some (0, place)
claim_at [] i place zeros at = cc
claim_at (c ∷ cs) zero place zeros at =
    let index : c.1 ≡ place = cc in
    let version : c.0 ≡ 0 = All-head (λ (d : ℕ × ℕ). d.0 ≡ 0) c cs zeros in
    ap₂ (λ (v n : ℕ). Some (v, n)) version index
claim_at (c ∷ cs) (suc i) place zeros at = claim_at cs i place (All-tail (λ (d : ℕ × ℕ). d.0 ≡ 0) c cs zeros) at

-- the claims of the first seat are of the version that it wrote
zeros_of : (seat : SeatState) (word : ℕ) → IsSound seat word → seat.board ≡ true → version_of seat.written ≡ 0 → All (λ (c : ℕ × ℕ). c.0 ≡ 0) seat.claims
zeros_of seat word sound first written =
    let version : version_of word ≡ 0 = (sound.since first).0 ∙ written in
    All-weaker (λ (c : ℕ × ℕ). IsBefore c (next_claim word)) (λ (c : ℕ × ℕ). c.0 ≡ 0)
    (λ c before.
    elim before [
      | inl less ↦ omega (arith, less, version)
      | inr same ↦ same.0 ∙ version
    ]) seat.claims sound.below

pub are_once : (seat : SeatState) (word : ℕ) (all : List Claimed) → IsSound seat word → seat.board ≡ true → version_of seat.written ≡ 0 → claimed_at seat ≡ places all → AreOnce all
are_once seat word all sound first written listed = λ i j place at_i at_j.
    let zeros = zeros_of seat word sound first written in
    let moved : (n : ℕ) → slice_get (places all) n ≡ Some place → slice_get (claimed_at seat) n ≡ Some place = λ n at. subst (λ (xs : List ℕ). slice_get xs n ≡ Some place) (sym listed) at in
    sound.apart i j (0, place) (claim_at seat.claims i place zeros (moved i at_i)) (claim_at seat.claims j place zeros (moved j at_j))

-- the last worker, and those before it
pub seated_last : (word : TableId) (before after : List Done) (d : Done) → before ≡ after ++ d ∷ [] → All (IsSeated word) before → All (IsSeated word) after × IsSeated word d
seated_last word before after d is all = All-pop (IsSeated word) before after (Some d) is all

pub found_by_last : (pairs : List Pair) (k : ℕ) (before after : List Done) (d : Done) → before ≡ after ++ d ∷ [] → All (HasFound pairs k) before → All (HasFound pairs k) after × HasFound pairs k d
found_by_last pairs k before after d is all = All-pop (HasFound pairs k) before after (Some d) is all
