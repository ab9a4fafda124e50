-- The needed pairs on which two logs of a needed pair rest: one over frames from reset, one over frames in which the classes hold.
use Rattle.std.specs.Prelude.{◌≡◌, ◌<◌, ◌-◌, ◌/◌, ◌↔◌, ◌⊎◌, ℕ, suc, List, [], ◌∷◌, length, flat_map, Bool, true, if◌then◌else◌}
use Rattle.std.specs.List.{All, Contains, range_with_len}
use Rattle.circ_model.specs.Meaning.{Pair, bit}
use Rattle.class_partition.specs.declared.classes.Needed.{Needed}
use Rattle.class_partition.specs.Classes.{Classes, IsNeeded, least_of, needed}
use Rattle.sat_log.specs.Derivations.{Line, IsAccepted}
use Rattle.log_check.specs.Reached.{IsReached, is_marked}
use Rattle.frame_unroll.specs.Unrolled.{Unrolling, after_classes, asking, asks, clauses_of, formula_of, from_reset}
use Rattle.frame_unroll.specs.Pairs.{pairs_of}

-- does a place differ from its class's least place in some of k frames from reset, and in the frame after k in which the classes hold?
abbrev pub base_asked : Pair → ℕ → Classes → ℕ → Unrolling
base_asked pair k classes m = asking (from_reset pair k) (asks (needed classes m).0 (needed classes m).1 0 (k - 1))

abbrev pub step_asked : Pair → ℕ → Classes → ℕ → Unrolling
step_asked pair k classes m = asking (after_classes pair k classes) (asks (needed classes m).0 (needed classes m).1 k k)

-- the one log is accepted over the clauses of the one, and the other over those of the other
abbrev pub AreAccepted : Pair → ℕ → Classes → ℕ → List Line → List Line → Type 0
AreAccepted pair k classes m base step = IsAccepted (formula_of (base_asked pair k classes m)) base × IsAccepted (formula_of (step_asked pair k classes m)) step

-- a needed pair of the classes: the last line of a log over the clauses of frames reaches one that is about it
pub record IsUsed (classes : Classes) (u : Unrolling) (log : List Line) (v : Needed) : Type 0 where
  pub is_needed : IsNeeded (length classes.least) classes v.member
  pub rep : v.rep ≡ least_of classes v.member
  pub reached : (h : ℕ) × IsReached (length (clauses_of u)) log h × Contains (pairs_of u h) (needed classes v.member)

-- members rise
abbrev pub Rise : List Needed → Type 0
Rise [] = Unit {0}
Rise (v ∷ vs) = All (λ (w : Needed). v.member < w.member) vs × Rise vs

-- the pairs are these, in the order of their members
pub record AreUsed (classes : Classes) (u : Unrolling) (log : List Line) (pairs : List Needed) : Type 0 where
  pub rise : Rise pairs
  pub exact : (v : Needed) → Contains pairs v ↔ IsUsed classes u log v

-- some of the pairs has this member
abbrev pub HasMember : List (ℕ × ℕ) → ℕ → Type 0
HasMember pairs p = (q : ℕ × ℕ) × Contains pairs q × (q.1 / 2 ≡ p)

-- bits are added at the members of these pairs
pub record AddsMembers (pairs : List (ℕ × ℕ)) (before after : List Bool) : Type 0 where
  pub size : length after ≡ length before
  pub exact : (p : ℕ) → (bit after p ≡ true) ↔ ((bit before p ≡ true) ⊎ HasMember pairs p)

-- a place has a bit exactly where one of the first `count` clauses has a mark and is about the pair of that member
pub record AreMembers (u : Unrolling) (marks : List Bool) (count places : ℕ) (bits : List Bool) : Type 0 where
  pub size : length bits ≡ places
  pub exact : (p : ℕ) → (bit bits p ≡ true) ↔ ((n : ℕ) × (n < count) × (is_marked marks n ≡ true) × HasMember (pairs_of u (suc n)) p)

-- the pairs of the members that have a bit
abbrev pub pair_with : Classes → List Bool → ℕ → List Needed
pair_with classes bits p = if bit bits p then record { rep = least_of classes p; member = p } ∷ [] else []

abbrev pub pairs_with : Classes → List Bool → ℕ → List Needed
pairs_with classes bits places = flat_map (pair_with classes bits) (range_with_len 0 places)
