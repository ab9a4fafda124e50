use Rattle.std.proofs.Common.{◌≡◌, ◌<◌, ℕ}
use Rattle.circ_model.specs.Meaning.{outputs_of, state_at}
use Rattle.circ_model.specs.Verdict.{OutputAgrees}
use Rattle.product_machine.specs.Walk.{FitsPair}
use Rattle.trace_witness.proofs.replay.first_difference.Given as goal

abbrev pub invariant-loop-t : goal.invariant-loop-t
invariant-loop-t l = FitsPair l.product l.scratch × (l.scratch.state ≡ state_at l.product l.path l.t) × ((s i : ℕ) → s < l.t → i < outputs_of l.product → OutputAgrees l.product l.path s i)
