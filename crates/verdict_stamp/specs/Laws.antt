-- What verdicts rest on, as laws.
use Rattle.std.specs.Prelude.{◌≡◌, ◌↔◌, ℕ, ◌<◌, ◌≤◌, List, true}
use Rattle.std.specs.List.{Contains}
use Rattle.circ_model.specs.Meaning.{Pair, places_of}
use Rattle.circ_model.specs.Correspondence.{Corresponds}
use Rattle.class_partition.specs.declared.classes.Needed.{Needed}
use Rattle.class_partition.specs.Classes.{Classes, ArePartition, AreTogether, IsNeeded, KeepsGreatest, Passes, least_of, needed}
use Rattle.used_pairs.specs.Lists.{PassesBy, all_together}
use Rattle.verdict_stamp.specs.Versions.{IsKnown}

-- the greatest correspondence for j frames is part of that for k, where j is no greater
abbrev pub GreatestGrows : Type 0
GreatestGrows = (pair : Pair) (j k a b : ℕ) → j ≤ k → Corresponds pair j a b → Corresponds pair k a b

-- each of its pairs passes for k frames, under all classes that separate no pair of the greatest correspondence for k
abbrev pub KnownPairsPass : Type 0
KnownPairsPass = (pair : Pair) (j k : ℕ) (classes : Classes) (m : ℕ) → j ≤ k → KeepsGreatest pair k classes → IsKnown pair j classes m → Passes pair k classes m

-- a list of all needed pairs of classes
abbrev pub AreAllNeeded : ℕ → Classes → List Needed → Type 0
AreAllNeeded places classes pairs = (v : Needed) → Contains pairs v ↔ (IsNeeded places classes v.member × (v.rep ≡ least_of classes v.member))

-- classes that came from others by splits: they have no two places together that those have apart
pub record AreSplitFrom (places : ℕ) (before after : Classes) : Type 0 where
  pub was : ArePartition places before
  pub partition : ArePartition places after
  pub phase : after.phase ≡ before.phase
  pub apart : (p q : ℕ) → p < places → q < places → AreTogether after p q → AreTogether before p q

-- to rest on a version is to rest on all of its needed pairs: a pair passes by these exactly where it passes under the classes, and
-- classes that came from them by splits have these together exactly where they are the same
abbrev pub VersionIsAllPairs : Type 0
VersionIsAllPairs = (pair : Pair) (k : ℕ) (classes : Classes) (pairs : List Needed) → ArePartition (places_of pair) classes → AreAllNeeded (places_of pair) classes pairs
    → ((m : ℕ) → Passes pair k classes m ↔ PassesBy pair k classes.phase pairs (needed classes m))
    × ((after : Classes) → AreSplitFrom (places_of pair) classes after → (all_together after pairs ≡ true) ↔ (after ≡ classes))
