-- The outputs that classes don't pair.
use Rattle.std.specs.Prelude.{ℕ, ◌<◌, ◌⊎◌, List, Contains}
use Rattle.std.specs.List.Sorted.{IsStrictlyIncreasing}
use Rattle.circ_model.specs.Meaning.{Pair}
use Rattle.class_partition.specs.Classes.{Classes}
use Rattle.class_partition.specs.Laws.{PairOutput}

-- of the outputs below this one, in their order
pub record AreLeftOut (pair : Pair) (classes : Classes) (below : ℕ) (outputs : List ℕ) : Type 0 where
  pub rising : IsStrictlyIncreasing outputs
  pub unpaired : (j : ℕ) → Contains outputs j → (j < below) × (PairOutput pair classes j → ⊥)
  pub others : (j : ℕ) → j < below → Contains outputs j ⊎ PairOutput pair classes j
