-- Offers of an earlier number than the board's.
use Rattle.std.proofs.Common.{◌≡◌, ◌==◌, ◌∙◌, ◌<◌, ◌≤◌, ℕ, ◌+◌, Bool, true, false, List, length, set, if◌then◌else◌, ltb, refl, ap, ap₂, sym, arith, true≢false, ⊎_elim, slice_index_or, Option, Some, None, get_or-set_same, get_or-set_other, lt-ltb, ne_eqb}
use Rattle.std.proofs.lemmas.Bool.{cases_lt, cases_eq}
use Rattle.std.proofs.lemmas.List.{set_past, get_or_past}
use Rattle.class_partition.specs.Classes.{HoldIn, relative}
use Rattle.refine_board.specs.declared.marks.Mark.TheVariants.{Open}
use Rattle.refine_board.specs.declared.marks.LastOffer.{LastOffer}
use Rattle.refine_board.specs.States.{State, offer_of, IsNeededPair, marked, reopened}
use Rattle.refine_board.specs.Schedules.{SeparatesPair}
use Rattle.class_partition.proofs.Counting.{counted, counted_le, counted_lt, counted_most}
use Rattle.class_partition.proofs.Partition.{relative_from_needed}
use Rattle.refine_board.proofs.Timely.{IsTimely}

-- a party's offer is of an earlier number than the board's
abbrev pub is_outdated : ℕ → Option LastOffer → Bool
is_outdated number None = false
is_outdated number (Some o) = ltb o.number number

abbrev pub outdated_at : State → ℕ → Bool
outdated_at board q = is_outdated board.number (offer_of board q)

abbrev pub outdated : ℕ → State → ℕ
outdated parties board = counted (outdated_at board) 0 parties

-- parties whose offer was written anew or cleared have none that is outdated
pub not_worse : (number : ℕ) (offers : List (Option LastOffer)) (party : ℕ) (x : Option LastOffer) → is_outdated number x ≡ false → (q : ℕ)
    → is_outdated number (slice_index_or (set offers party x) q None) ≡ true → is_outdated number (slice_index_or offers q None) ≡ true
not_worse number offers party x fresh q on = ⊎_elim
    (λ (e : q ≡ party). ⊎_elim
    (λ (lt : party < length offers). absurd (true≢false (sym on ∙ ap (λ (i : ℕ). is_outdated number (slice_index_or (set offers party x) i None)) e ∙ ap (is_outdated number) (get_or-set_same offers party x None lt) ∙ fresh)))
    (λ (past : length offers ≤ party). ap (λ (l : List (Option LastOffer)). is_outdated number (slice_index_or l q None)) (sym (set_past offers party x past)) ∙ on)
    (cases_lt party (length offers)))
    (λ (ne : q ≡ party → ⊥). ap (is_outdated number) (sym (get_or-set_other offers party q x None ne)) ∙ on)
    (cases_eq q party)

pub outdated_write : (parties party : ℕ) (x : Option LastOffer) (before after : State) → is_outdated before.number x ≡ false → after.number ≡ before.number → after.offers ≡ set before.offers party x → outdated parties after ≤ outdated parties before
outdated_write parties party x before after fresh number offers = counted_le (outdated_at after) (outdated_at before) 0 parties (λ q low high on.
    not_worse before.number before.offers party x fresh q (ap₂ (λ (n : ℕ) (l : List (Option LastOffer)). is_outdated n (slice_index_or l q None)) (sym number) (sym offers) ∙ on))

-- a party's outdated offer is used up
pub outdated_clear : (parties party : ℕ) (before after : State) → length before.offers ≡ parties → outdated_at before party ≡ true → after.number ≡ before.number → after.offers ≡ set before.offers party None → outdated parties after + 1 ≤ outdated parties before
outdated_clear parties party before after len was number offers =
    let inside : party < parties = ⊎_elim (λ (h : party < parties). h) (λ (past : parties ≤ party). absurd (true≢false (sym was ∙ ap (is_outdated before.number) (get_or_past before.offers party None (omega arith))))) (cases_lt party parties) in
    let off : outdated_at after party ≡ false = ap₂ (λ (n : ℕ) (l : List (Option LastOffer)). is_outdated n (slice_index_or l party None)) number offers ∙ ap (is_outdated before.number) (get_or-set_same before.offers party None None (omega arith)) in
    let strict = counted_lt (outdated_at after) (outdated_at before) 0 parties party (λ q low high on.
    not_worse before.number before.offers party None refl q (ap₂ (λ (n : ℕ) (l : List (Option LastOffer)). is_outdated n (slice_index_or l q None)) (sym number) (sym offers) ∙ on)) (omega arith) (omega arith) off was in
    omega arith

-- after a split all other parties' offers may be outdated
pub outdated_split : (parties party : ℕ) (before after : State) → party < parties → length before.offers ≡ parties → after.offers ≡ set before.offers party None → outdated parties after + 1 ≤ parties
outdated_split parties party before after inside len offers =
    let off : outdated_at after party ≡ false = ap (λ (l : List (Option LastOffer)). is_outdated after.number (slice_index_or l party None)) offers ∙ ap (is_outdated after.number) (get_or-set_same before.offers party None None (omega arith)) in
    let strict = counted_lt (outdated_at after) (λ _. true) 0 parties party (λ q low high on. refl) (omega arith) (omega arith) off refl in
    let most = counted_most (λ _. true) 0 parties in
    omega arith

pub stale_is_outdated : (board : State) (party : ℕ) (o : LastOffer) → offer_of board party ≡ Some o → o.number < board.number → outdated_at board party ≡ true
stale_is_outdated board party o at lt = ap (is_outdated board.number) at ∙ lt-ltb o.number board.number lt

-- a row that separates the offer's pair and divides no class shows that the offer is outdated
pub already_is_outdated : (places parties party : ℕ) (bits : List Bool) (board : State) → IsTimely places parties board → HoldIn places board.classes bits
    → (o : LastOffer) → offer_of board party ≡ Some o → SeparatesPair board.classes bits o.pair → o.number < board.number
already_is_outdated places parties party bits board is hold o at separates =
    let past = is.past party o at in
    ⊎_elim (λ (lt : o.number < board.number). lt)
    (λ (ge : board.number ≤ o.number).
    let need : IsNeededPair places board.classes o.pair = is.now party o at (omega arith) in
    absurd (separates (ap (relative board.classes bits) (sym need.1) ∙ relative_from_needed board.classes bits o.pair.member (hold o.pair.member need.0.0))))
    (cases_lt o.number board.number)

-- an outdated offer opens nothing
pub not_reopened : (o : LastOffer) (offer : Option LastOffer) (board : State) → offer ≡ Some o → o.number < board.number → reopened offer board ≡ board
not_reopened o offer board at lt =
    let closed : (o.number == board.number) ≡ false = ne_eqb o.number board.number (λ h. omega arith) in
    ap (λ (x : Option LastOffer). reopened x board) at ∙ ap (λ (b : Bool). if b then marked o.pair.member Open board else board) closed
