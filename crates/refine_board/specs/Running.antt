-- What is true of a running board at every moment, and what a call adds.
use Rattle.std.specs.Prelude.{◌≡◌, ◌⊎◌, ℕ, ◌+◌, ◌<◌, ◌≤◌, List, [], ◌∷◌, ◌++◌, ◌^◌, length, slice_index, slice_index_or, set, ◌≢◌, ◌==◌, Bool, true, false, if◌then◌else◌, Option, Some, None, IfSome}
use Rattle.atomic_table.specs.Seated.{TableId}
use Rattle.boxcar.specs.Table.{Shelves, Shows}
use Rattle.claim_word.specs.Seats.{SeatState}
use Rattle.claim_word.specs.Words.{version_of}
use Rattle.circ_model.specs.Meaning.{Pair, places_of}
use Rattle.circ_model.specs.Correspondence.{MaySplit}
use Rattle.class_partition.specs.declared.classes.Needed.{Needed}
use Rattle.class_partition.specs.Classes.{Classes, HoldIn, IsNeeded, least_of}
use Rattle.product_machine.specs.declared.cell.Cell.{Cell}
use Rattle.used_pairs.specs.Lists.{all_together}
use Rattle.verdict_stamp.specs.Versions.{Standing, Passed}
use Rattle.verdict_stamp.specs.Versions as vector
use Rattle.verdict_stamp.specs.Published.{Stamped, IsPairAt, IsStampOf}
use Rattle.verdict_stamp.specs.declared.used.Used.{Used}
use Rattle.verdict_stamp.specs.declared.used.Used.TheVariants as used
use Rattle.refine_board.specs.declared.marks.Mark.{Mark}
use Rattle.refine_board.specs.declared.marks.Mark.TheVariants.{Open, Out}
use Rattle.refine_board.specs.declared.marks.LastOffer.{LastOffer}
use Rattle.refine_board.specs.declared.journal.Step.{Step}
use Rattle.refine_board.specs.declared.journal.Step.TheVariants.{Offered, Idle, Done, Counted, Stale, Split, Already, Foreign, Back}
use Rattle.refine_board.specs.declared.journal.Entry.{Entry}
use Rattle.refine_board.specs.States.{State, mark_of, IsCountedAt, IsNeededPair, IsOpen, offer_of}
use Rattle.refine_board.specs.Schedules.{IsStep, IsSupported, Leads, opened}

-- a journal's entries, how many more it has room for, and the cells of the pair whose rows it has
pub record Written : Type 0 where
  pub entries : List Entry
  pub room : ℕ
  pub cells : List Cell

-- a running board: its state, its journal, the room in it that no answer is owed, how many entries are owed, the stamp of the version that was
-- published since the last split, and the seat at the word from which workers claim its pairs
pub record Running : Type 0 where
  pub state : State
  pub entries : List Entry
  pub room : ℕ
  pub owed : ℕ
  pub current : Option Stamped
  pub seat : SeatState

-- the journal is legal and leads from the opening to the state
pub record IsRunning (pair : Pair) (k workers : ℕ) (opening state : State) (entries : List Entry) : Type 0 where
  pub leads : Leads pair k opening entries state
  pub supported : IsSupported pair k state
  pub calls : length state.calls ≡ workers + 1
  pub offers : length state.offers ≡ workers + 1
  pub few : (q : ℕ) → slice_index state.calls q ≤ length entries
  pub within : (q : ℕ) (o : LastOffer) → offer_of state q ≡ Some o → o.pair.member < places_of pair

-- the versions, now and at the opening, are of the run; so is the list of published ones, and the current stamp names the version as it stands;
-- the seat is that of the run's word, which never had more versions than were published
pub record IsOfRun (pair : Pair) (k workers : ℕ) (opening : State) (version first : Standing) (list shelves : Shelves) (current : Option Stamped) (word at : TableId) (seat : SeatState) (turn : ℕ) : Type 0 where
  pub pair_is : version.pair ≡ pair
  pub k_is : version.k ≡ k
  pub first_pair : first.pair ≡ pair
  pub first_k : first.k ≡ k
  pub opening_is : opening ≡ opened pair workers first.classes first.number
  pub list_is : shelves ≡ list
  pub current_is : IfSome current (λ s. IsStampOf list s version)
  pub word_is : at ≡ word
  pub seat_is : seat.word ≡ word
  pub board_is : seat.board ≡ true
  pub turn_is : version_of seat.written ≤ turn

-- the stamp is the one of the offers since the last split
abbrev pub IsStampedAs : Option Stamped → Stamped → Type 0
IsStampedAs None s = ⊥
IsStampedAs (Some c) s = c.index ≡ s.index

-- a worker that may answer one pair of a version that was published
pub record Allowed : Type 0 where
  pub party : ℕ
  pub stamp : Stamped

-- and the pair of it that it claimed, with its index
pub record Claiming : Type 0 where
  pub party : ℕ
  pub stamp : Stamped
  pub index : ℕ
  pub pair : Needed

abbrev pub claiming_of : Allowed → ℕ → Needed → Claiming
claiming_of a index pair = record { party = a.party; stamp = a.stamp; index = index; pair = pair }

-- the claimed pair is offered to its party where its version is the one that was published since the last split, and the pair is open
abbrev pub IsDue : Running → Claiming → Type 0
IsDue board c = IsStampedAs board.current c.stamp × (mark_of board.state c.pair.member ≡ Open)

-- no place below the cursor is open
abbrev pub IsPassedBy : ℕ → State → ℕ → Type 0
IsPassedBy places state cursor = (m : ℕ) → m < cursor → IsOpen places state m → ⊥

-- the cursor, the entries that are owed with their room, and the parts of the ledger that are left
pub record IsHeld (places : ℕ) (state : State) (cursor waiting owed room parts rest : ℕ) : Type 0 where
  pub passed : IsPassedBy places state cursor
  pub cursor_in : cursor ≤ places
  pub waiting_is : waiting ≡ owed
  pub has_room : owed ≤ room
  pub parts_left : parts ≤ rest + waiting
  pub many : 2 ^ 62 ≤ parts

-- the state that these fields are
abbrev pub state_of : Standing → List Mark → List ℕ → List (Option LastOffer) → State
state_of version marks calls offers = record { classes = version.classes; number = version.number; marks = marks; calls = calls; offers = offers }

-- a party's next entry
abbrev pub next_entry : State → ℕ → Step → Entry
next_entry state party step = record { worker = party; call = slice_index state.calls party; step = step }

-- one entry more, and its step
abbrev pub Appends : ℕ → Running → Running → ℕ → Step → Type 0
Appends places before after party step = IsStep places (next_entry before.state party step) before.state after.state × (after.entries ≡ before.entries ++ next_entry before.state party step ∷ [])

-- an offer of the claimed pair where it is due, and else nothing
abbrev pub OffersFirst : ℕ → Running → Running → Claiming → Type 0
OffersFirst places before after c = (IsDue before c × Appends places before after c.party (Offered c.pair)) ⊎ ((IsDue before c → ⊥) × (after.state ≡ before.state) × (after.entries ≡ before.entries))

-- and then this entry
abbrev pub AnswersAt : ℕ → Running → Running → Claiming → Step → Type 0
AnswersAt places before after c step = (middle : Running) × OffersFirst places before middle c × Appends places middle after c.party step

-- a place's pair that a party is to prove under a version
abbrev pub IsAsked : Standing → Needed → Type 0
IsAsked v p = IsNeeded (places_of v.pair) v.classes p.member × (p.rep ≡ least_of v.classes p.member)

-- a pair for which a party owes an answer
pub record Indebted : Type 0 where
  pub party : ℕ
  pub pair : Needed
  pub number : ℕ

-- an answer that is owed, and the stamp of the version under which it is sought
pub record Owed : Type 0 where
  pub party : ℕ
  pub pair : Needed
  pub number : ℕ
  pub stamp : Stamped

abbrev pub owed_of : Indebted → Stamped → Owed
owed_of debt stamp = record { party = debt.party; pair = debt.pair; number = debt.number; stamp = stamp }

-- the stamp is of the run's list, and the pair is one of its version, which is of the run's netlists and k
pub record IsOwed (pair : Pair) (k : ℕ) (list : Shelves) (owed : Owed) : Type 0 where
  pub listed : Shows list owed.stamp
  pub pair_is : owed.stamp.value.version.pair ≡ pair
  pub k_is : owed.stamp.value.version.k ≡ k
  pub asked : IsAsked owed.stamp.value.version owed.pair

-- the version is of this pair of netlists and this k, with these classes
abbrev pub IsUnder : Pair → ℕ → Classes → Standing → Type 0
IsUnder pair k classes v = (v.pair ≡ pair) × (v.k ≡ k) × (v.classes ≡ classes)

-- the stamp is of the run's list, and its version of the run's netlists and k
abbrev pub IsRunStamp : Pair → ℕ → Shelves → Stamped → Type 0
IsRunStamp pair k list s = Shows list s × (s.value.version.pair ≡ pair) × (s.value.version.k ≡ k)

-- and its classes and number are the board's
abbrev pub IsIssueOf : Pair → ℕ → Shelves → State → Stamped → Type 0
IsIssueOf pair k list board s = Shows list s × IsUnder pair k board.classes s.value.version × (s.value.version.number ≡ board.number)

-- another version may have begun at the seat's word; its claims, and the words that it was shown, are as they were
abbrev pub IsBegun : SeatState → SeatState → Type 0
IsBegun before after = (after.word ≡ before.word) × (after.claims ≡ before.claims) × (after.seen ≡ before.seen) × (after.board ≡ before.board)

-- the stamp is the run's, and the pair stands at the index of those that its version was published with
abbrev pub IsClaiming : Pair → ℕ → Shelves → Claiming → Type 0
IsClaiming pair k list c = IsRunStamp pair k list c.stamp × IsPairAt c.stamp.value c.index c.pair

-- the verdict is of the pair
abbrev pub IsAbout : Passed → Needed → Type 0
IsAbout w p = (w.member ≡ p.member) × (least_of w.version.classes w.member ≡ p.rep)

-- a verdict of this pair of netlists and this k counts under classes: what rests on its version where that has these classes, and else
-- where its pair is a needed pair of them, which have the pairs together on which it rests
abbrev pub CountsBy : Pair → ℕ → Classes → Passed → Used → Type 0
CountsBy pair k classes w used.Version = IsUnder pair k classes w.version
CountsBy pair k classes w (used.Pairs pairs) = (w.version.pair ≡ pair) × (w.version.k ≡ k) × IsNeededPair (places_of pair) classes (record { rep = least_of w.version.classes w.member; member = w.member }) × (all_together classes pairs ≡ true)
CountsBy pair k classes w (used.Known j) = (w.version.pair ≡ pair) × (w.version.k ≡ k) × IsNeededPair (places_of pair) classes (record { rep = least_of w.version.classes w.member; member = w.member })

abbrev pub Counts : Pair → ℕ → Classes → Passed → Type 0
Counts pair k classes w = CountsBy pair k classes w w.used

-- the vector is of this pair of netlists and this k
abbrev pub IsOf : Pair → ℕ → vector.Split → Type 0
IsOf pair k x = (x.pair ≡ pair) × (x.k ≡ k)

-- the mark of a pair that isn't counted: out, or open
abbrev pub uncounted : Bool → Mark
uncounted true = Out
uncounted false = Open

-- a needed place has this mark
abbrev pub IsMarkedAt : List ℕ → List Mark → Mark → ℕ → Type 0
IsMarkedAt least marks mark p = (slice_index least p ≢ p) × (slice_index_or marks p Open ≡ mark)

abbrev pub AreCountedBelow : ℕ → State → ℕ → Type 0
AreCountedBelow places board p = (m : ℕ) → m < p → IsNeeded places board.classes m → IsCountedAt board m

-- the marks after an offer is given up
abbrev pub reopened_marks : Option LastOffer → ℕ → List Mark → List Mark
reopened_marks None number marks = marks
reopened_marks (Some o) number marks = if o.number == number then set marks o.pair.member Open else marks

-- the entries that only give an offer up, where they are legal
abbrev pub Frees : Pair → ℕ → State → Step → Type 0
Frees pair k board (Stale p) = Unit {0}
Frees pair k board (Back p) = Unit {0}
Frees pair k board Foreign = Unit {0}
Frees pair k board (Already bits) = HoldIn (places_of pair) board.classes bits × MaySplit pair k bits
Frees pair k board (Offered p) = ⊥
Frees pair k board Idle = ⊥
Frees pair k board Done = ⊥
Frees pair k board (Counted p w) = ⊥
Frees pair k board (Split bits n) = ⊥
