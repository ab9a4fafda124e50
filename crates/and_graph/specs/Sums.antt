-- Sums modulo 2 of the values of nodes.
use Rattle.std.specs.Prelude.{ℕ, List, [], ◌∷◌, Bool, false}
use Rattle.circ_model.specs.Meaning.{signed}

-- whether an odd number of them is true
unfoldable pub sum_of : (ℕ → Bool) → List ℕ → Bool
sum_of v [] = false
sum_of v (n ∷ more) = signed (v n) (sum_of v more)
