-- Lists of published versions, and the stamps that name their versions.
use Rattle.std.specs.Prelude.{◌≡◌, ℕ, List, Some, slice_get}
use Rattle.std.specs.List.{All}
use Rattle.boxcar.specs.Table.{Shelves, Where, Shows}
use Rattle.circ_model.specs.Meaning.{places_of}
use Rattle.class_partition.specs.Classes.{IsNeeded, least_of}
use Rattle.class_partition.specs.declared.classes.Needed.{Needed}
use Rattle.verdict_stamp.specs.Versions.{Standing}

-- a version as it was published: with the members of its needed pairs that were open then, and how many versions were published up to then
pub record Issued : Type 0 where
  pub version : Standing
  pub pending : List ℕ
  pub turn : ℕ

abbrev pub issued : Standing → List ℕ → ℕ → Issued
issued version pending turn = record { version = version; pending = pending; turn = turn }

-- what a clause sees of a stamp: its index and what was published, with the place of that in its list
abbrev pub Stamped : Type 0
Stamped = Where Issued

-- the stamp is of this list, and names this version
abbrev pub IsStampOf : Shelves → Stamped → Standing → Type 0
IsStampOf list stamp version = Shows list stamp × (stamp.value.version ≡ version)

-- each of these is the member of a needed pair
abbrev pub AreMembers : Standing → List ℕ → Type 0
AreMembers v members = All (λ (m : ℕ). IsNeeded (places_of v.pair) v.classes m) members

-- the pair with this index of those that were open
abbrev pub IsPairAt : Issued → ℕ → Needed → Type 0
IsPairAt it index p = (slice_get it.pending index ≡ Some p.member) × IsNeeded (places_of it.version.pair) it.version.classes p.member × (least_of it.version.classes p.member ≡ p.rep)
