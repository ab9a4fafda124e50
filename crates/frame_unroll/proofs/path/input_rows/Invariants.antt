use Rattle.std.proofs.Common.{◌≡◌, ◌<◌, ◌+◌, ◌*◌, ℕ, [], length, get_or}
use Rattle.std.specs.List.{All}
use Rattle.circ_model.specs.Meaning.{bit}
use Rattle.frame_unroll.proofs.path.input_rows.Given as goal

abbrev pub invariant-loop-t : goal.invariant-loop-t
invariant-loop-t l =
    (length l.rows ≡ l.t) × All (λ r. length r ≡ l.inputs) l.rows
    × ((t i : ℕ) → t < l.t → i < l.inputs → bit (get_or l.rows t []) i ≡ bit l.from (t * l.n + (1 + i)))
