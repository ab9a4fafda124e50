use Rattle.std.proofs.Common.{◌≡◌, ◌≤◌, take}
use Rattle.std.specs.Prelude.{count_by}
use Rattle.circ_model.specs.Meaning.{is_free, own_resets}
use Rattle.product_machine.proofs.build.free_count.Given as goal

abbrev pub invariant-loop-k : goal.invariant-loop-k
invariant-loop-k l = (l.count ≡ count_by is_free (take l.k (own_resets l.net))) × (l.count ≤ l.k)
