use Rattle.std.proofs.Common.{◌≡◌, ◌+◌, ℕ, map, take}
use Rattle.circ_model.specs.Meaning.{free_from, own_resets}
use Rattle.product_machine.proofs.build.free_places.Given as goal

abbrev pub invariant-loop-k : goal.invariant-loop-k
invariant-loop-k l = l.places.items ≡ map (λ (i : ℕ). l.fn.from + i) (free_from 0 (take l.k (own_resets l.net)))
