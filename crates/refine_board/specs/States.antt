-- A board of refinement as plain data, and the changes that its entries make.
use Rattle.std.specs.Prelude.{◌≡◌, ◌==◌, ◌&&◌, ℕ, ◌+◌, ◌-◌, ◌^◌, ◌<◌, List, [], length, map, filter, not, Bool, true, false, set, if◌then◌else◌, slice_index, slice_index_or, Option, Some, None}
use Rattle.std.specs.List.{range_with_len}
use Rattle.atomic_table.specs.Seated.{TableId}
use Rattle.boxcar.specs.Table.{Shelves}
use Rattle.circ_model.specs.Netlist.{Netlist}
use Rattle.circ_model.specs.Meaning.{Pair}
use Rattle.class_partition.specs.declared.classes.Needed.{Needed}
use Rattle.class_partition.specs.Classes.{Classes, IsNeeded, least_of}
use Rattle.refine_board.specs.declared.marks.Mark.{Mark}
use Rattle.refine_board.specs.declared.marks.Mark.TheVariants.{Open, Out, Proved}
use Rattle.refine_board.specs.declared.marks.LastOffer.{LastOffer}
use Rattle.used_pairs.specs.Lists.{all_together}
use Rattle.verdict_stamp.specs.declared.used.Used.TheVariants as used

pub record State : Type 0 where
  pub classes : Classes
  pub number : ℕ  -- of the splits that led to the classes
  pub marks : List Mark  -- by place; a needed pair has its member's
  pub calls : List ℕ  -- by party
  pub offers : List (Option LastOffer)  -- by party

abbrev pub mark_of : State → ℕ → Mark
mark_of board p = slice_index_or board.marks p Open

abbrev pub is_counted : Mark → Bool
is_counted Open = false
is_counted Out = false
is_counted (Proved r w) = true

abbrev pub is_open : Mark → Bool
is_open Open = true
is_open Out = false
is_open (Proved r w) = false

-- the place's pair is counted
abbrev pub IsCountedAt : State → ℕ → Type 0
IsCountedAt board p = is_counted (mark_of board p) ≡ true

-- and counted as one of the greatest correspondence for some number of frames
abbrev pub IsKnownAt : State → ℕ → Type 0
IsKnownAt board p = (r j : ℕ) × (mark_of board p ≡ Proved r (used.Known j))

-- and counted by pairs that classes have together
abbrev pub IsListedAt : State → Classes → ℕ → Type 0
IsListedAt board classes p = (r : ℕ) × (pairs : List Needed) × (mark_of board p ≡ Proved r (used.Pairs pairs)) × (all_together classes pairs ≡ true)

-- what a split to these classes leaves of a place's mark: it stays counted where its pair is known, and where its pair and all that it rests on stay together
abbrev pub lasting : Classes → ℕ → Mark → Mark
lasting classes p Open = Open
lasting classes p Out = Open
lasting classes p (Proved r used.Version) = Open
lasting classes p (Proved r (used.Pairs pairs)) = if (least_of classes p == r) && all_together classes pairs then Proved r (used.Pairs pairs) else Open
lasting classes p (Proved r (used.Known j)) = Proved r (used.Known j)

abbrev pub lasting_marks : Classes → List Mark → List Mark
lasting_marks classes marks = map (λ p. lasting classes p (slice_index_or marks p Open)) (range_with_len 0 (length marks))

abbrev pub offer_of : State → ℕ → Option LastOffer
offer_of board party = slice_index_or board.offers party None

-- a place that isn't the least of its class, with that place
abbrev pub IsNeededPair : ℕ → Classes → Needed → Type 0
IsNeededPair places classes p = IsNeeded places classes p.member × (least_of classes p.member ≡ p.rep)

abbrev pub IsOpen : ℕ → State → ℕ → Type 0
IsOpen places board p = IsNeeded places board.classes p × (mark_of board p ≡ Open)

-- a needed pair that is open
abbrev pub IsOpenPair : ℕ → State → Needed → Type 0
IsOpenPair places board p = IsNeededPair places board.classes p × (mark_of board p.member ≡ Open)

-- the one with the least member
abbrev pub IsNextOpen : ℕ → State → Needed → Type 0
IsNextOpen places board p = IsOpenPair places board p × ((m : ℕ) → m < p.member → IsOpen places board m → ⊥)

-- the members of all of them, in their order
abbrev pub is_open_at : Classes → List Mark → ℕ → Bool
is_open_at classes marks p = not (least_of classes p == p) && is_open (slice_index_or marks p Open)

abbrev pub open_list : Classes → List Mark → List ℕ
open_list classes marks = filter (is_open_at classes marks) (range_with_len 0 (length classes.least))

abbrev pub open_members : State → List ℕ
open_members board = open_list board.classes board.marks

-- as many of them as are published at once
abbrev pub most_open : ℕ
most_open = 2 ^ 21 - 1

abbrev pub NoneOpen : ℕ → State → Type 0
NoneOpen places board = (m : ℕ) → IsOpen places board m → ⊥

abbrev pub SomeOut : ℕ → State → Type 0
SomeOut places board = (m : ℕ) × IsNeeded places board.classes m × (mark_of board m ≡ Out)

abbrev pub AllCounted : ℕ → State → Type 0
AllCounted places board = (m : ℕ) → IsNeeded places board.classes m → IsCountedAt board m

-- the party has made a call more
abbrev pub called : ℕ → State → State
called party board = record board { calls = set board.calls party (slice_index board.calls party + 1) }

abbrev pub offered : ℕ → Needed → State → State
offered party p board = record board { marks = set board.marks p.member Out; offers = set board.offers party (Some (record { pair = p; number = board.number })) }

abbrev pub cleared : ℕ → State → State
cleared party board = record board { offers = set board.offers party None }

abbrev pub marked : ℕ → Mark → State → State
marked p mark board = record board { marks = set board.marks p mark }

-- the pair of an offer of this number is open again
abbrev pub reopened : Option LastOffer → State → State
reopened None board = board
reopened (Some offer) board = if offer.number == board.number then marked offer.pair.member Open board else board

abbrev pub released : ℕ → State → State
released party board = cleared party (reopened (offer_of board party) board)

abbrev pub divided : Classes → State → State
divided classes board = record board { classes = classes; number = board.number + 1; marks = lasting_marks classes board.marks }

-- what a brand names before a call picks its run
abbrev pub no_net : Netlist
no_net = record { max_var = 0; inputs = []; latches = []; outputs = []; gates = [] }

abbrev pub no_pair : Pair
no_pair = record { left = no_net; right = no_net; tied = false }

abbrev pub no_state : State
no_state = record { classes = record { least = []; phase = [] }; number = 0; marks = []; calls = []; offers = [] }

abbrev pub no_list : Shelves
no_list = record { tag = []; buckets = [] }

abbrev pub no_word : TableId
no_word = record { words = 0; slots = 0; views_name = 0; atom = 0; block = 0; offset = 0; slot_names = [] }
