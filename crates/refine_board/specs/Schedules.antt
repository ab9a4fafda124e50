-- What each entry of a journal does to a board, and which journals are legal.
use Rattle.std.specs.Prelude.{◌≡◌, ◌≢◌, ℕ, ◌+◌, ◌<◌, ◌≤◌, List, [], ◌∷◌, length, replicate, Bool, true, slice_index, Some, None}
use Rattle.circ_model.specs.Meaning.{Pair, places_of}
use Rattle.circ_model.specs.Correspondence.{MaySplit}
use Rattle.class_partition.specs.declared.classes.Needed.{Needed}
use Rattle.class_partition.specs.Classes.{Classes, ArePartition, IsNeeded, HoldIn, relative, IsSplit, class_count, KeepsGreatest, Passes, least_of, needed}
use Rattle.used_pairs.specs.Lists.{PassesBy, all_together}
use Rattle.verdict_stamp.specs.Versions.{IsKnown}
use Rattle.verdict_stamp.specs.declared.used.Used.{Used}
use Rattle.verdict_stamp.specs.declared.used.Used.TheVariants as used
use Rattle.refine_board.specs.declared.marks.Mark.TheVariants.{Open, Proved}
use Rattle.refine_board.specs.declared.marks.LastOffer.{LastOffer}
use Rattle.refine_board.specs.declared.journal.Step.{Step}
use Rattle.refine_board.specs.declared.journal.Step.TheVariants.{Offered, Idle, Done, Counted, Stale, Split, Already, Foreign, Back}
use Rattle.refine_board.specs.declared.journal.Entry.{Entry}
use Rattle.refine_board.specs.States.{State, mark_of, IsCountedAt, offer_of, IsNeededPair, IsOpenPair, NoneOpen, SomeOut, AllCounted, called, offered, cleared, marked, released, divided}

-- what an entry of a party does
abbrev pub Does : ℕ → ℕ → Step → State → State → Type 0
Does places party (Offered p) before after = IsOpenPair places before p × (after ≡ called party (offered party p before))
Does places party Idle before after = NoneOpen places before × SomeOut places before × (after ≡ called party before)
Does places party Done before after = AllCounted places before × (after ≡ called party before)
Does places party (Counted p w) before after = IsNeededPair places before.classes p × (after ≡ called party (cleared party (marked p.member (Proved p.rep w) before)))
Does places party (Stale p) before after = after ≡ called party (released party before)
Does places party (Back p) before after = after ≡ called party (released party before)
Does places party Foreign before after = after ≡ called party (released party before)
Does places party (Already bits) before after = HoldIn places before.classes bits × (after ≡ called party (released party before))
Does places party (Split bits n) before after =
    (classes : Classes) × IsSplit places before.classes bits classes × (1 ≤ n) × (class_count places classes ≡ class_count places before.classes + n)
    × (after ≡ called party (cleared party (divided classes before)))

-- an entry of a party of the board, with its next call number
abbrev pub IsStep : ℕ → Entry → State → State → Type 0
IsStep places entry before after = (entry.worker < length before.calls) × (entry.call ≡ slice_index before.calls entry.worker) × Does places entry.worker entry.step before after

-- what a counted pair rests on: that it passes under the classes; that it passes by pairs that these have together; or that it is one of
-- the greatest correspondence for no more frames
abbrev pub RestsOn : Pair → ℕ → Classes → ℕ → Used → Type 0
RestsOn pair k classes p used.Version = Passes pair k classes p
RestsOn pair k classes p (used.Pairs pairs) = (all_together classes pairs ≡ true) × PassesBy pair k classes.phase pairs (needed classes p)
RestsOn pair k classes p (used.Known j) = (0 < j) × (j ≤ k) × IsKnown pair j classes p

-- what stands behind an entry: what a counted pair rests on, a row that may split
abbrev pub IsAllowed : Pair → ℕ → State → Step → Type 0
IsAllowed pair k board (Counted p w) = RestsOn pair k board.classes p.member w
IsAllowed pair k board (Already bits) = MaySplit pair k bits
IsAllowed pair k board (Split bits n) = MaySplit pair k bits
IsAllowed pair k board (Offered p) = Unit {0}
IsAllowed pair k board Idle = Unit {0}
IsAllowed pair k board Done = Unit {0}
IsAllowed pair k board (Stale p) = Unit {0}
IsAllowed pair k board (Back p) = Unit {0}
IsAllowed pair k board Foreign = Unit {0}

-- a legal list of entries leads from one board to another
abbrev pub Leads : Pair → ℕ → State → List Entry → State → Type 0
Leads pair k before [] after = after ≡ before
Leads pair k before (entry ∷ rest) after = (middle : State) × IsStep (places_of pair) entry before middle × IsAllowed pair k before entry.step × Leads pair k middle rest after

-- a board at its opening
abbrev pub opened : Pair → ℕ → Classes → ℕ → State
opened pair workers classes number = record { classes = classes; number = number; marks = replicate (places_of pair) Open; calls = replicate (workers + 1) 0; offers = replicate (workers + 1) None }

-- what is true of a board at every moment
pub record IsSupported (pair : Pair) (k : ℕ) (board : State) : Type 0 where
  pub partition : ArePartition (places_of pair) board.classes
  pub keeps : KeepsGreatest pair k board.classes
  pub marks : length board.marks ≡ places_of pair
  pub counted : (p : ℕ) → IsNeeded (places_of pair) board.classes p → IsCountedAt board p → Passes pair k board.classes p
  pub rests : (p r : ℕ) (w : Used) → IsNeeded (places_of pair) board.classes p → mark_of board p ≡ Proved r w → (least_of board.classes p ≡ r) × RestsOn pair k board.classes p w

abbrev pub HasOffer : State → ℕ → (LastOffer → Type 0) → Type 0
HasOffer board party P = (offer : LastOffer) × (offer_of board party ≡ Some offer) × P offer

-- a row separates a pair where the bits of its two places, each with its phase, differ
abbrev pub SeparatesPair : Classes → List Bool → Needed → Type 0
SeparatesPair classes bits p = relative classes bits p.rep ≢ relative classes bits p.member

-- what a caller that keeps the rules does
abbrev pub IsOrderly : State → ℕ → Step → Type 0
IsOrderly board party (Offered p) = offer_of board party ≡ None
IsOrderly board party Idle = offer_of board party ≡ None
IsOrderly board party Done = offer_of board party ≡ None
IsOrderly board party (Counted p w) = HasOffer board party (λ o. o.pair ≡ p)
IsOrderly board party (Stale p) = HasOffer board party (λ o. (o.pair ≡ p) × (o.number < board.number))
IsOrderly board party (Back p) = HasOffer board party (λ o. o.pair ≡ p)
IsOrderly board party Foreign = ⊥
IsOrderly board party (Already bits) = HasOffer board party (λ o. SeparatesPair board.classes bits o.pair)
IsOrderly board party (Split bits n) = HasOffer board party (λ o. SeparatesPair board.classes bits o.pair)

abbrev pub LeadsInOrder : Pair → ℕ → State → List Entry → State → Type 0
LeadsInOrder pair k before [] after = after ≡ before
LeadsInOrder pair k before (entry ∷ rest) after =
    (middle : State) × IsStep (places_of pair) entry before middle × IsAllowed pair k before entry.step × IsOrderly before entry.worker entry.step × LeadsInOrder pair k middle rest after
