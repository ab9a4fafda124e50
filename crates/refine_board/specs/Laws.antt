-- The laws of every schedule, as statements.
use Rattle.std.specs.Prelude.{◌≡◌, ◌↔◌, ◌⊎◌, ℕ, ◌+◌, ◌-◌, ◌*◌, ◌/◌, ◌<◌, ◌≤◌, List, Bool}
use Rattle.circ_model.specs.Meaning.{Pair, places_of}
use Rattle.circ_model.specs.Correspondence.{Together, IsClassCount}
use Rattle.class_partition.specs.Classes.{Classes, ArePartition, AreTogether, Pairs, class_count, KeepsGreatest, AreOfGreatest}
use Rattle.refine_board.specs.declared.journal.Step.TheVariants.{Split}
use Rattle.refine_board.specs.declared.journal.Entry.{Entry}
use Rattle.class_partition.specs.declared.classes.Needed.{Needed}
use Rattle.refine_board.specs.States.{State, AllCounted, IsCountedAt, IsKnownAt, IsListedAt, IsNeededPair}
use Rattle.refine_board.specs.Schedules.{Does, IsAllowed, Leads, IsSupported, LeadsInOrder, opened}
use Rattle.refine_board.specs.Tallies.{split_entries, offered_entries, reopening_entries, late_entries, back_entries}

-- a legal list of entries from an opening that separates no pair of the greatest correspondence
pub record IsSchedule (pair : Pair) (k : ℕ) (opening : State) (entries : List Entry) (board : State) : Type 0 where
  pub workers : ℕ
  pub number : ℕ
  pub classes : Classes
  pub opened_so : opening ≡ opened pair workers classes number
  pub partition : ArePartition (places_of pair) classes
  pub keeps : KeepsGreatest pair k classes
  pub leads : Leads pair k opening entries board

-- after every entry the classes separate no pair, and each counted pair passes under the classes of that moment
abbrev pub StaysSupported : Type 0
StaysSupported = (pair : Pair) (k : ℕ) (opening : State) (entries : List Entry) (board : State) → IsSchedule pair k opening entries board → IsSupported pair k board

abbrev pub SplitsTakeApart : Type 0
SplitsTakeApart = (pair : Pair) (k : ℕ) (opening : State) (entries : List Entry) (board after : State) (party n : ℕ) (bits : List Bool) → IsSchedule pair k opening entries board
    → Does (places_of pair) party (Split bits n) board after → IsAllowed pair k board (Split bits n)
    → (p q : ℕ) → (AreTogether after.classes p q → ⊥) → Together pair k p q → ⊥

abbrev pub DoneIsGreatest : Type 0
DoneIsGreatest = (pair : Pair) (k : ℕ) (opening : State) (entries : List Entry) (board : State) → IsSchedule pair k opening entries board → AllCounted (places_of pair) board
    → AreOfGreatest pair k board.classes × IsClassCount pair k (class_count (places_of pair) board.classes)

abbrev pub NoLaterSplit : Type 0
NoLaterSplit = (pair : Pair) (k : ℕ) (opening : State) (entries more : List Entry) (board after : State) → IsSchedule pair k opening entries board → AllCounted (places_of pair) board → Leads pair k board more after
    → (after.classes ≡ board.classes) × (split_entries more ≡ 0)

abbrev pub FewSplits : Type 0
FewSplits = (pair : Pair) (k : ℕ) (opening : State) (entries : List Entry) (board : State) → IsSchedule pair k opening entries board → split_entries entries + 1 ≤ places_of pair

-- after a split a needed pair is counted exactly where it was needed and counted before it, and is known, or rests on pairs that are
-- together still
abbrev pub LastingStay : Type 0
LastingStay = (pair : Pair) (k : ℕ) (opening : State) (entries : List Entry) (board after : State) (party n : ℕ) (bits : List Bool) → IsSchedule pair k opening entries board
    → Does (places_of pair) party (Split bits n) board after → IsAllowed pair k board (Split bits n)
    → (p : Needed) → (IsNeededPair (places_of pair) after.classes p × IsCountedAt after p.member)
    ↔ (IsNeededPair (places_of pair) board.classes p × (IsKnownAt board p.member ⊎ (IsNeededPair (places_of pair) after.classes p × IsListedAt board after.classes p.member)))

-- classes with the same least places, which pair the same literals of the pair's places
abbrev pub AreAlike : ℕ → Classes → Classes → Type 0
AreAlike places a b = (a.least ≡ b.least) × ((x y : ℕ) → x / 2 < places → y / 2 < places → Pairs a x y ↔ Pairs b x y)

-- two lists after which each pair is counted, from whatever openings, end at classes that are alike; by the same phases they are equal
abbrev pub SameEnd : Type 0
SameEnd = (pair : Pair) (k : ℕ) (a b : State) (xs ys : List Entry) (a_end b_end : State) → IsSchedule pair k a xs a_end → IsSchedule pair k b ys b_end
    → AllCounted (places_of pair) a_end → AllCounted (places_of pair) b_end → AreAlike (places_of pair) a_end.classes b_end.classes × (a.classes.phase ≡ b.classes.phase → a_end.classes ≡ b_end.classes)

abbrev pub FewOffers : Type 0
FewOffers = (pair : Pair) (k : ℕ) (opening : State) (entries : List Entry) (board : State) → IsSchedule pair k opening entries board
    → offered_entries entries ≤ places_of pair * (places_of pair - 1) / 2 + reopening_entries entries

abbrev pub FewLate : Type 0
FewLate = (pair : Pair) (k workers number : ℕ) (classes : Classes) (entries : List Entry) (board : State) → ArePartition (places_of pair) classes → KeepsGreatest pair k classes → LeadsInOrder pair k (opened pair workers classes number) entries board
    → (late_entries entries ≤ workers * (places_of pair - 1)) × (offered_entries entries ≤ places_of pair * (places_of pair - 1) / 2 + back_entries entries)
