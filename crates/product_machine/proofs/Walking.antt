-- From frame to frame of a path.
use Rattle.std.proofs.Common.{◌≡◌, ◌∙◌, ◌<◌, ◌+◌, ℕ, suc, List, [], length, map, ap, arith, Bool}
use Rattle.circ_model.specs.Meaning.{Pair, IsSoundPair, Path, IsPath, row, state_at, inputs_at, next_state, value_in}
use Rattle.circ_model.proofs.Paths.{length_state}
use Rattle.product_machine.specs.Eval.{IsFrame}
use Rattle.product_machine.specs.States.{nexts}
use Rattle.product_machine.proofs.States.{next_state_is}

pub frame_of : (pair : Pair) (path : Path) (s : ℕ) (state : List Bool) → IsPath pair path → s < length path.inputs → state ≡ state_at pair path s → IsFrame pair state (inputs_at path s)
frame_of pair path s state is lt e = record { state_length = ap length e ∙ length_state pair path s is; input_length = is.inputs s [] lt }

pub walked : (pair : Pair) (path : Path) (s : ℕ) (state new : List Bool) → IsSoundPair pair → IsPath pair path → s < length path.inputs → state ≡ state_at pair path s
    → new ≡ map (value_in (row pair state (inputs_at path s))) (nexts pair) → new ≡ state_at pair path (s + 1)
unfolding state_at
walked pair path s state new sound is lt e n =
    let one : suc s ≡ s + 1 = omega arith in
    n ∙ next_state_is pair state (inputs_at path s) sound (frame_of pair path s state is lt e)
    ∙ ap (λ (x : List Bool). next_state pair x (inputs_at path s)) e ∙ ap (state_at pair path) one
