-- The laws of certificates, as statements.
use Rattle.std.specs.Prelude.{◌≡◌, ℕ, ◌<◌, List}
use Rattle.circ_model.specs.Meaning.{Pair, IsSoundPair, outputs_of, places_of}
use Rattle.class_partition.specs.Classes.{Classes, ArePartition, AreOfGreatest, IsStable}
use Rattle.circ_model.specs.Laws.{AgreeForEver}
use Rattle.corr_certificate.specs.declared.fault.Checked.{Checked}
use Rattle.corr_certificate.specs.Certificate.{IsChecked, IsSupported}

-- a text has one first fault, or none
abbrev pub OneAnswer : Type 0
OneAnswer = (pair : Pair) (bytes : List ℕ) (r s : Checked) → IsChecked pair bytes r → IsChecked pair bytes s → r ≡ s

-- the outputs agree in every frame of every run
abbrev pub SupportedAgree : Type 0
SupportedAgree = (pair : Pair) (bytes : List ℕ) → IsSoundPair pair → IsSupported pair bytes → (j : ℕ) → j < outputs_of pair → AgreeForEver pair j

-- the classes of the greatest correspondence are a correspondence
abbrev pub GreatestAreStable : Type 0
GreatestAreStable = (pair : Pair) (k : ℕ) (classes : Classes) → ArePartition (places_of pair) classes → AreOfGreatest pair k classes → IsStable pair k classes
