-- Rows that may split go on to rows that may split.
use Rattle.std.proofs.Common.{◌≡◌, ◌∙◌, ◌<◌, ◌≤◌, ◌+◌, ◌-◌, ℕ, zero, suc, Bool, List, [], ◌∷◌, length, ap, ap₂, sym, subst, arith, length-append, length-drop, length-take, ⊎_elim}
use Rattle.std.proofs.lemmas.Bool.{cases_lt}
use Rattle.std.proofs.lemmas.List.{get_or_push}
use Rattle.std.proofs.lemmas.List.Elements.{All-take, All-push}
use Rattle.circ_model.specs.Meaning.{Pair, IsSoundPair, Path, IsPath, IsInputRow, inputs_at, row, row_at, state_at}
use Rattle.circ_model.specs.Correspondence.{AgreesWithGreatest, MaySplit, MaySplit.OfRun, MaySplit.OfPath}
use Rattle.circ_model.specs.Laws.{shifted, cut, extended}
use Rattle.circ_model.proofs.Greatest.{greatest_steps}
use Rattle.circ_model.proofs.Paths.{length_state, row_of_cut, row_of_extended, row_shifted, shifted_is_path, state_next, cut_is_run, extended_is_run}
use Rattle.circ_model.proofs.Rows.{inputs_length}
use Rattle.product_machine.proofs.States.{next_state_is}
use Rattle.step_lanes.specs.Laws.{row_after}

-- where the greatest correspondence holds in the first k frames it holds in all
agrees_below : (pair : Pair) (k : ℕ) (path : Path) → IsPath pair path → ((t : ℕ) → t < k → AgreesWithGreatest pair k (row_at pair path t)) → (n t : ℕ) → t < n → t < length path.inputs → AgreesWithGreatest pair k (row_at pair path t)
agrees_below pair k path is before zero t lt within = absurd (omega arith)
agrees_below pair k path is before (suc n) t lt within =
    let earlier = agrees_below pair k path is before n in
    ⊎_elim (before t)
    (λ (le : k ≤ t).
    let s : ℕ = t - k in
    let at : s + k ≡ t = omega arith in
    subst (AgreesWithGreatest pair k) (sym (row_shifted pair path s k) ∙ ap (row_at pair path) at)
    (greatest_steps pair k (shifted pair path s) (shifted_is_path pair path s is) (omega (arith, length-drop s path.inputs))
    (λ u less. subst (AgreesWithGreatest pair k) (row_shifted pair path s u) (earlier (s + u) (omega arith) (omega arith)))))
    (cases_lt t k)

pub later_rows_may_split : (pair : Pair) (k : ℕ) (path : Path) → IsPath pair path → ((t : ℕ) → t < k → AgreesWithGreatest pair k (row_at pair path t)) → (t : ℕ) → k ≤ t → t < length path.inputs → MaySplit pair k (row_at pair path t)
later_rows_may_split pair k path is before t le within =
    let s : ℕ = t - k in
    let at : t ≡ s + k = omega arith in
    OfPath (shifted pair path s) (shifted_is_path pair path s is) (omega (arith, length-drop s path.inputs))
    (λ u less. subst (AgreesWithGreatest pair k) (row_shifted pair path s u) (agrees_below pair k path is before (t + 1) (s + u) (omega arith) (omega arith)))
    (ap (row_at pair path) at ∙ row_shifted pair path s k)

-- the next row of a path
row_next : (pair : Pair) (path : Path) (t : ℕ) → IsSoundPair pair → IsPath pair path → t < length path.inputs → row_at pair path (suc t) ≡ row_after pair (row_at pair path t) (inputs_at path (suc t))
row_next pair path t is on within =
    ap (λ (s : List Bool). row pair s (inputs_at path (suc t)))
    (state_next pair path t ∙ sym (next_state_is pair (state_at pair path t) (inputs_at path t) is (record { state_length = length_state pair path t on; input_length = inputs_length pair path t on within })))

-- the path up to frame t, and one frame more
abbrev up_to : Path → ℕ → Path
up_to path t = cut path (t + 1)

abbrev one_more : Path → ℕ → List Bool → Path
one_more path t inputs = extended (up_to path t) (inputs ∷ [])

length_up_to : (path : Path) (t : ℕ) → t < length path.inputs → length (up_to path t).inputs ≡ t + 1
length_up_to path t within = omega (arith, length-take (t + 1) path.inputs)

record IsOneMore (pair : Pair) (path : Path) (t : ℕ) (inputs : List Bool) : Type 0 where
  is_path : IsPath pair (one_more path t inputs)
  rows : length (one_more path t inputs).inputs ≡ t + 2
  same : (u : ℕ) → u ≤ t → row_at pair (one_more path t inputs) u ≡ row_at pair path u
  next : row_at pair (one_more path t inputs) (suc t) ≡ row_after pair (row_at pair path t) inputs

one_more_is : (pair : Pair) (path : Path) (t : ℕ) (inputs : List Bool) → IsSoundPair pair → IsPath pair path → t < length path.inputs → IsInputRow pair inputs → IsOneMore pair path t inputs
one_more_is pair path t inputs is on within row =
    let before : Path = up_to path t in
    let len : length before.inputs ≡ t + 1 = length_up_to path t within in
    let more : IsPath pair (one_more path t inputs) = record { start = on.start; inputs = All-push (IsInputRow pair) before.inputs inputs (All-take (IsInputRow pair) (t + 1) path.inputs on.inputs) row } in
    let rows : length (one_more path t inputs).inputs ≡ t + 2 = omega (arith, length-append before.inputs (inputs ∷ [])) in
    let same : (u : ℕ) → u ≤ t → row_at pair (one_more path t inputs) u ≡ row_at pair path u = λ u le. row_of_extended pair before (inputs ∷ []) u (omega arith) ∙ row_of_cut pair path (t + 1) u (omega arith) in
    record {
      is_path = more;
      rows = rows;
      same = same;
      next = row_next pair (one_more path t inputs) t is more (omega arith)
          ∙ ap₂ (row_after pair) (same t (omega arith)) (get_or_push before.inputs inputs [] (suc t) (omega arith));
    }

pub rows_go_on : (pair : Pair) (k : ℕ) (bits inputs : List Bool) → IsSoundPair pair → MaySplit pair k bits → IsInputRow pair inputs → MaySplit pair k (row_after pair bits inputs)
rows_go_on pair k bits inputs is (OfRun run t runs within at) row =
    let more = one_more_is pair run t inputs is runs.is_path within row in
    OfRun (one_more run t inputs) (suc t) (extended_is_run pair (up_to run t) (inputs ∷ []) (cut_is_run pair run (t + 1) runs) (All-push (IsInputRow pair) [] inputs (λ k d lt. absurd (omega arith)) row))
    (let e = more.rows in omega arith) (ap (λ (b : List Bool). row_after pair b inputs) at ∙ sym more.next)
rows_go_on pair k bits inputs is (OfPath path on within before at) row =
    let more = one_more_is pair path k inputs is on within row in
    subst (MaySplit pair k) (more.next ∙ ap (λ (b : List Bool). row_after pair b inputs) (sym at))
    (later_rows_may_split pair k (one_more path k inputs) more.is_path
    (λ u less. subst (AgreesWithGreatest pair k) (sym (more.same u (omega arith))) (before u less)) (suc k) (omega arith) (let e = more.rows in omega arith))
