-- What a call's answer says of its entry.
use Rattle.std.specs.Prelude.{◌≡◌, ◌⊎◌, ◌≤◌, ℕ, List, [], ◌∷◌, ◌++◌, length, take, Bool, false, Option, Some, None, IfSome, IsSomeAnd}
use Rattle.boxcar.specs.Table.{Shelves}
use Rattle.circ_model.specs.Meaning.{Pair, places_of}
use Rattle.claim_word.specs.Words.{index_of, pairs_of, version_of}
use Rattle.class_partition.specs.declared.classes.Needed.{Needed}
use Rattle.refine_board.specs.declared.journal.Step.{Step}
use Rattle.refine_board.specs.declared.journal.Step.TheVariants as step
use Rattle.refine_board.specs.declared.answers.Take.{Take}
use Rattle.refine_board.specs.declared.answers.Take.TheVariants.{Offer, Idle, Done}
use Rattle.refine_board.specs.declared.answers.Look.{Look}
use Rattle.refine_board.specs.declared.answers.Look.TheVariants as look_as
use Rattle.refine_board.specs.declared.answers.Kept.{Kept}
use Rattle.refine_board.specs.declared.answers.Kept.TheVariants as kept_as
use Rattle.refine_board.specs.declared.answers.Cut.{Cut}
use Rattle.refine_board.specs.declared.answers.Cut.TheVariants as cut_as
use Rattle.verdict_stamp.specs.Published.{Stamped}
use Rattle.verdict_stamp.specs.declared.used.Used.{Used}
use Rattle.refine_board.specs.States.{AllCounted, IsNextOpen, IsOpen, most_open, open_members}
use Rattle.refine_board.specs.Running.{Running, Appends, IsIssueOf, IsUnder}

-- what a party is answered that asks for work
abbrev pub taken : {L : Type 0} → Take L → Step
taken (Offer o) = step.Offered o.pair
taken Idle = step.Idle
taken Done = step.Done

-- the offer is the party's, of the board's number
abbrev pub IsOwnOffer : {L : Type 0} → Running → ℕ → Take L → Type 0
IsOwnOffer before party (Offer o) = (o.party ≡ party) × (o.number ≡ before.state.number)
IsOwnOffer before party Idle = Unit {0}
IsOwnOffer before party Done = Unit {0}

-- its pair is the open one with the least member
abbrev pub IsLeastOffer : {L : Type 0} → ℕ → Running → Take L → Type 0
IsLeastOffer places before (Offer o) = IsNextOpen places before.state o.pair
IsLeastOffer places before Idle = Unit {0}
IsLeastOffer places before Done = Unit {0}

-- its version is of this pair of netlists and this k, with the board's classes and number
abbrev pub IsCurrentOffer : {L : Type 0} → Pair → ℕ → Running → Take L → Type 0
IsCurrentOffer pair k before (Offer o) = IsUnder pair k before.state.classes o.stamp.value.version × (o.stamp.value.version.number ≡ before.state.number)
IsCurrentOffer pair k before Idle = Unit {0}
IsCurrentOffer pair k before Done = Unit {0}

-- it has the stamp of the offers since the last split, of which there is one from now on
abbrev pub HasOneStamp : {L : Type 0} → Running → Running → Take L → Type 0
HasOneStamp before after (Offer o) = IfSome before.current (λ s. o.stamp ≡ s) × (after.current ≡ Some o.stamp)
HasOneStamp before after Idle = after.current ≡ before.current
HasOneStamp before after Done = after.current ≡ before.current

-- neither the board nor the claims at its seat have changed
abbrev pub IsUnmoved : Running → Running → Type 0
IsUnmoved before after = (after.state ≡ before.state) × (after.entries ≡ before.entries) × (after.seat.claims ≡ before.seat.claims)

-- this call read the word so
abbrev pub IsShown : Running → Running → ℕ → Type 0
IsShown before after word = after.seat.seen ≡ before.seat.seen ++ word ∷ []

-- a version that was published with as many pairs as the word counts, and perhaps not with all that were open
abbrev pub IsFull : Pair → ℕ → Shelves → Running → Type 0
IsFull pair k list board = (s : Stamped) × IsIssueOf pair k list board.state s × (most_open ≤ length s.value.pending)

-- the word that this call read had a pair left, unless the version was published with as many as it counts
abbrev pub IsLeft : Pair → ℕ → Shelves → Running → Running → Type 0
IsLeft pair k list before after = (word : ℕ) × IsShown before after word × (index_of word ≡ pairs_of word → IsFull pair k list before)

-- what a party is answered that looks for work: a pass for the version as it stands; or that it holds no claim, and the word that this call read
-- has no pair left; or that each pair is counted
abbrev pub IsLookAt : {L : Type 0} → Pair → ℕ → Shelves → ℕ → Bool → Running → Running → Look L → Type 0
IsLookAt pair k list party holding before after (look_as.Work pass) =
    (AllCounted (places_of pair) before.state → ⊥) × (pass.party ≡ party) × (after.current ≡ Some pass.stamp) × IsIssueOf pair k list before.state pass.stamp × IsUnmoved before after × (holding ≡ false → IsLeft pair k list before after)
IsLookAt pair k list party holding before after (look_as.Wait word) =
    (AllCounted (places_of pair) before.state → ⊥) × (holding ≡ false) × IsShown before after word × (index_of word ≡ pairs_of word) × IsUnmoved before after
IsLookAt pair k list party holding before after look_as.Done = AllCounted (places_of pair) before.state × Appends (places_of pair) before after party step.Done × (after.seat ≡ before.seat)

-- the version that was published since the last split is so still, unless it was published with as many pairs as the word counts
abbrev pub KeepsStamp : Running → Running → Type 0
KeepsStamp before after = IfSome before.current (λ s. (after.current ≡ Some s) ⊎ (most_open ≤ length s.value.pending))

-- one that is published now has the pairs that are open
abbrev pub PublishesOpen : Running → Running → Type 0
PublishesOpen before after = before.current ≡ None → IfSome after.current (λ s. s.value.pending ≡ take most_open (open_members before.state))

-- the version that was published last is the board's, the word counts its pairs, and some pair is open
abbrev pub IsSpentAt : ℕ → Running → ℕ → Type 0
IsSpentAt places board word = IsSomeAnd board.current (λ s. s.value.turn ≡ version_of word) × ((m : ℕ) × IsOpen places board.state m)

-- what came of a verdict on a pair
abbrev pub kept_step : Kept → Needed → Used → Step
kept_step kept_as.Counted p w = step.Counted p w
kept_step kept_as.Stale p w = step.Stale p

-- what came of a vector
abbrev pub cut_step : Cut → List Bool → Step
cut_step (cut_as.Split n) bits = step.Split bits n
cut_step cut_as.Already bits = step.Already bits
cut_step cut_as.Foreign bits = step.Foreign

-- offers after a split have another stamp
abbrev pub stamp_after : Cut → Option Stamped → Option Stamped
stamp_after (cut_as.Split n) current = None
stamp_after cut_as.Already current = current
stamp_after cut_as.Foreign current = current
