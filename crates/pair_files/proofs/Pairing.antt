-- From the counts of two accepted netlists to why there is no pair.
use Rattle.std.proofs.Common.{ℕ, Bool, List, Option}
use Rattle.circ_model.specs.Meaning.{Pair}
use Rattle.pair_files.specs.declared.fault.Unpaired.{Unpaired}
use Rattle.pair_files.specs.declared.fault.Unpaired.TheVariants as unpaired
use Rattle.pair_files.specs.Pairs.{AreAccepted, AreApart, IsNoPair}

pub no_pair : (tied : Bool) (left right : Option (List ℕ)) (pair : Pair) → AreAccepted tied left right pair → (u : Unpaired) → AreApart pair u → IsNoPair tied left right u
no_pair tied left right pair accepted unpaired.Memory h = tt
no_pair tied left right pair accepted (unpaired.LoadFailed side) h = absurd h
no_pair tied left right pair accepted (unpaired.Refused side f) h = absurd h
no_pair tied left right pair accepted (unpaired.InputsDiffer a b) h = (pair, accepted, h)
no_pair tied left right pair accepted (unpaired.OutputsDiffer a b) h = (pair, accepted, h)
no_pair tied left right pair accepted (unpaired.FreeDiffer a b) h = (pair, accepted, h)
