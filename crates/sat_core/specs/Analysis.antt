-- Conflict analysis: marked places of the trail, what the hints refute, and a learned clause.
use Rattle.std.specs.Prelude.{◌≡◌, ◌≤◌, ◌<◌, ◌+◌, ◌-◌, ◌++◌, ◌∷◌, [], ℕ, zero, suc, Bool, true, false, List, map, reverse, length, slice_index, slice_index_or, ◌⊎◌, if◌then◌else◌, ◌&&◌}
use Rattle.std.specs.Prelude.{nat_le}
use Rattle.std.specs.List.{All, Contains}
use Rattle.sat_core.specs.declared.marks.Marks.{Marks}
use Rattle.sat_core.specs.declared.analysis.Analysis.{Analysis}
use Rattle.cnf_store.specs.Codes.{neg, clause_at}
use Rattle.sat_core.specs.Derivations.{Refutes}
use Rattle.sat_trail.specs.Trail.{StandsBelow, IsWrong}

-- the literal's complement stands on the trail below i, at a marked place
abbrev pub IsMarked : List ℕ → List Bool → ℕ → ℕ → Type 0
IsMarked lits seen i m = (q : ℕ) × (q < i) × (slice_index lits q ≡ neg m) × (slice_index_or seen q false ≡ true)

-- the literal stands on the trail below i, or at a marked place
abbrev pub StandsOpen : List ℕ → List Bool → ℕ → ℕ → Type 0
StandsOpen lits seen i l = (q : ℕ) × ((q < i) ⊎ (slice_index_or seen q false ≡ true)) × (slice_index lits q ≡ l)

-- whatever is assumed of the trail below i and of the marked places, all of these among it, the hints refute
abbrev pub Ready : List (List ℕ) → List ℕ → List Bool → ℕ → List ℕ → Type 0
Ready clauses lits seen i hints =
    (assumed : List ℕ) → ((q : ℕ) → slice_index_or seen q false ≡ true → Contains assumed (slice_index lits q))
    → ((l : ℕ) → Contains assumed l → StandsOpen lits seen i l) → Refutes clauses assumed hints

-- how many places from start to i are marked
unfoldable pub open_below : List Bool → ℕ → ℕ → ℕ
open_below seen start zero = 0
open_below seen start (suc i) = open_below seen start i + (if nat_le start i && slice_index_or seen i false then 1 else 0)

-- so many places are marked from start to the limit, and below start
pub record Counts (seen : List Bool) (start limit high low : ℕ) : Type 0 where
  pub above : open_below seen start limit ≡ high
  pub below : open_below seen 0 start ≡ low

abbrev pub AreCounted : ℕ → Marks → Type 0
AreCounted limit m = Counts m.seen.items m.start limit m.above m.below

-- some places below the limit are marked besides
pub record HasMore (limit : ℕ) (old new : List Bool) : Type 0 where
  pub size : length new ≡ length old
  pub more : (q : ℕ) → slice_index_or old q false ≡ true → slice_index_or new q false ≡ true
  pub past : (q : ℕ) → limit ≤ q → slice_index_or new q false ≡ slice_index_or old q false

pub record AddsMarks (limit : ℕ) (old new : Marks) : Type 0 where
  pub seen : HasMore limit old.seen.items new.seen.items
  pub start : new.start ≡ old.start
  pub grows : old.above ≤ new.above

-- hints name clauses
abbrev pub AreKnown : List (List ℕ) → List ℕ → Type 0
AreKnown clauses hints = All (λ h. (0 < h) × (h ≤ length clauses)) hints

-- the literal stands on the trail from one place to another
abbrev pub StandsFrom : List ℕ → ℕ → ℕ → ℕ → Type 0
StandsFrom lits start limit l = (q : ℕ) × (start ≤ q) × (q < limit) × (slice_index lits q ≡ l)

-- all literals of a clause of this number are false below a place
pub record IsConflict (clauses : List (List ℕ)) (lits : List ℕ) (from c : ℕ) : Type 0 where
  pub within : from ≤ length lits
  pub known : (0 < c) × (c ≤ length clauses)
  pub wrong : IsWrong lits from (clause_at clauses c)

-- what analysis knows when all places from i on are done
pub record State (clauses : List (List ℕ)) (lits : List ℕ) (a : Analysis) (i : ℕ) : Type 0 where
  pub size : length a.marks.seen.items ≡ length lits
  pub within : i ≤ length lits
  pub counted : AreCounted i a.marks
  pub ready : Ready clauses lits a.marks.seen.items i (reverse a.hints.items)
  pub known : AreKnown clauses a.hints.items

-- place i is resolved
pub record Resolves (clauses : List (List ℕ)) (lits : List ℕ) (i : ℕ) (old new : Analysis) : Type 0 where
  pub state : State clauses lits new i
  pub start : new.marks.start ≡ old.marks.start
  pub grows : old.marks.above ≤ new.marks.above + 1
  pub here : slice_index_or new.marks.seen.items i false ≡ false
  pub past : (q : ℕ) → i < q → slice_index_or new.marks.seen.items q false ≡ slice_index_or old.marks.seen.items q false
  pub learned : new.learned.items ≡ old.learned.items

-- the literal of place i is kept: its complement is in the learned clause
pub record KeepsPlace (lits : List ℕ) (i : ℕ) (old new : Analysis) : Type 0 where
  pub seen : new.marks.seen.items ≡ old.marks.seen.items
  pub start : new.marks.start ≡ old.marks.start
  pub above : new.marks.above ≡ old.marks.above - 1
  pub below : new.marks.below ≡ old.marks.below
  pub hints : new.hints.items ≡ old.hints.items
  pub learned : new.learned.items ≡ old.learned.items ++ neg (slice_index lits i) ∷ []

-- no place from i on is marked: those that were are resolved
abbrev pub AreResolved : List Bool → ℕ → Type 0
AreResolved seen i = (q : ℕ) → i ≤ q → slice_index_or seen q false ≡ false

-- the marked places from i on are the first and those of the learned literals, which stand below start
pub record AreKept (lits : List ℕ) (seen : List Bool) (start first i : ℕ) (learned : List ℕ) : Type 0 where
  pub top : slice_index_or seen first false ≡ true
  pub all : (q : ℕ) → i ≤ q → slice_index_or seen q false ≡ true → (q ≡ first) ⊎ Contains learned (neg (slice_index lits q))
  pub stand : (l : ℕ) → Contains learned l → (q : ℕ) × (i ≤ q) × (q < start) × (slice_index lits q ≡ neg l) × (slice_index_or seen q false ≡ true)

-- place i alone is marked from the level's start on
pub record IsUnique (clauses : List (List ℕ)) (lits : List ℕ) (i : ℕ) (a : Analysis) : Type 0 where
  pub state : State clauses lits a (i + 1)
  pub one : a.marks.above ≡ 1
  pub start : a.marks.start ≤ i
  pub seen : slice_index_or a.marks.seen.items i false ≡ true
  pub resolved : AreResolved a.marks.seen.items (i + 1)

-- all places from i on are resolved or kept, below a level's start whose first place stays
pub record IsLowered (clauses : List (List ℕ)) (lits : List ℕ) (start first i : ℕ) (a : Analysis) : Type 0 where
  pub state : State clauses lits a i
  pub kept : AreKept lits a.marks.seen.items start first i a.learned.items
  pub zero : a.marks.start ≡ 0
  pub low : i ≤ start
  pub top : start ≤ first

-- all places are
pub record IsMinimised (clauses : List (List ℕ)) (lits : List ℕ) (start first : ℕ) (a : Analysis) : Type 0 where
  pub ready : Ready clauses lits a.marks.seen.items 0 (reverse a.hints.items)
  pub known : AreKnown clauses a.hints.items
  pub kept : AreKept lits a.marks.seen.items start first 0 a.learned.items

-- a learned clause with its hints: the complement of the literal at i, and literals that are false below start
pub record IsLearned (clauses : List (List ℕ)) (lits : List ℕ) (start limit i : ℕ) (learned hints : List ℕ) : Type 0 where
  pub above : start ≤ i
  pub below : i < limit
  pub inside : Contains learned (neg (slice_index lits i))
  pub stands : (l : ℕ) → Contains learned l → (l ≡ neg (slice_index lits i)) ⊎ StandsBelow lits start (neg l)
  pub refutes : Refutes clauses (map neg learned) hints
  pub known : AreKnown clauses hints
