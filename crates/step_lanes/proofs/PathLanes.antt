-- Lanes as paths, one frame after another.
use Rattle.std.proofs.Common.{◌≡◌, ◌∙◌, ◌<◌, ◌≤◌, ◌+◌, ◌-◌, ℕ, zero, suc, List, [], ◌∷◌, Bool, length, refl, ap, ap₂, sym, subst, arith, length-append, ⊎_elim}
use Rattle.std.specs.Prelude.{IsTrue}
use Rattle.std.proofs.lemmas.Bool.{cases_lt}
use Rattle.std.proofs.lemmas.List.{get_or_append_left, get_or_push}
use Rattle.std.proofs.lemmas.List.Elements.{All-nil, All-push}
use Rattle.circ_model.specs.Meaning.{Pair, Path, IsInputRow, inputs_at, latches_of, next_state, places_of, row, row_at, state_at}
use Rattle.circ_model.specs.Correspondence.{MaySplit}
use Rattle.circ_model.specs.Laws.{extended}
use Rattle.circ_model.proofs.Paths.{row_of_extended, state_next, state_same, state_start}
use Rattle.class_partition.specs.Classes.{Classes, HoldIn, KeepsGreatest}
use Rattle.class_partition.proofs.Partition.{agrees_where_they_hold}
use Rattle.step_lanes.specs.Paths.{IsPathLane}
use Rattle.step_lanes.proofs.GoingOn.{later_rows_may_split}

-- before the first frame
pub lane_begins : (pair : Pair) (k : ℕ) (classes : Classes) (kept : Bool) (bits state : List Bool) → length state ≡ latches_of pair → IsTrue kept → IsPathLane pair k classes 0 kept bits state
lane_begins pair k classes kept bits state size on =
    let path : Path = record { start = state; inputs = [] } in
    record {
      path = path;
      is_path = record { start = size; inputs = All-nil (IsInputRow pair) };
      rows = refl;
      next = sym (state_start pair path);
      row = λ t e. absurd (omega arith);
      hold = λ _ t lt less. absurd (omega arith);
      all = λ held. on;
    }

-- one frame more
pub lane_goes_on : (pair : Pair) (k : ℕ) (classes : Classes) (frames : ℕ) (kept still : Bool) (bits state inputs after next : List Bool) → IsPathLane pair k classes frames kept bits state → IsInputRow pair inputs → after ≡ row pair state inputs → next ≡ next_state pair state inputs
    → (IsTrue still → IsTrue kept) → (IsTrue still → 0 < frames → frames ≤ k → HoldIn (places_of pair) classes bits)
    → (IsTrue kept → (0 < frames → frames ≤ k → HoldIn (places_of pair) classes bits) → IsTrue still) → IsPathLane pair k classes (frames + 1) still after next
lane_goes_on pair k classes frames kept still bits state inputs after next is given words states keeps holds alls =
    let path : Path = extended is.path (inputs ∷ []) in
    let rows = is.rows in
    let input : inputs_at path frames ≡ inputs = get_or_push is.path.inputs inputs [] frames (omega arith) in
    let here : state_at pair path frames ≡ state = state_same pair path is.path frames refl (λ j lt. get_or_append_left is.path.inputs (inputs ∷ []) [] j (omega arith)) ∙ sym is.next in
    let more : suc frames ≡ frames + 1 = omega arith in
    record {
      path = path;
      is_path = record { start = is.is_path.start; inputs = All-push (IsInputRow pair) is.path.inputs inputs is.is_path.inputs given };
      rows = omega (arith, length-append is.path.inputs (inputs ∷ []));
      next = states ∙ sym (ap₂ (next_state pair) here input) ∙ sym (state_next pair path frames) ∙ ap (state_at pair path) more;
      row = λ t e. let last : frames ≡ t = omega arith in words ∙ sym (ap₂ (row pair) here input) ∙ ap (row_at pair path) last;
      hold = λ on t lt less. subst (HoldIn (places_of pair) classes) (sym (row_of_extended pair is.path (inputs ∷ []) t (omega arith)))
          (⊎_elim (λ (earlier : suc t < frames). is.hold (keeps on) t lt earlier)
          (λ (last : frames ≤ suc t). let e : frames ≡ suc t = omega arith in subst (HoldIn (places_of pair) classes) (is.row t e) (holds on (omega arith) (omega arith)))
          (cases_lt (suc t) frames));
      all = λ held.
          let earlier = λ (t : ℕ) (lt : t < k) (less : t < frames). subst (HoldIn (places_of pair) classes) (row_of_extended pair is.path (inputs ∷ []) t (omega arith)) (held t lt (omega arith)) in
          alls (is.all (λ t lt less. earlier t lt (omega arith)))
          (λ some few. let e : frames ≡ suc (frames - 1) = omega arith in subst (HoldIn (places_of pair) classes) (sym (is.row (frames - 1) e)) (earlier (frames - 1) (omega arith) (omega arith)));
    }

-- after more than k frames the row of a lane that is kept may split
pub lane_may_split : (pair : Pair) (k : ℕ) (classes : Classes) (frames : ℕ) (kept : Bool) (bits state : List Bool) → KeepsGreatest pair k classes → IsPathLane pair k classes frames kept bits state → k < frames → IsTrue kept → MaySplit pair k bits
lane_may_split pair k classes zero kept bits state keeps is enough on = absurd (omega arith)
lane_may_split pair k classes (suc t) kept bits state keeps is enough on =
    let rows = is.rows in
    subst (MaySplit pair k) (sym (is.row t refl))
    (later_rows_may_split pair k is.path is.is_path (λ u less. agrees_where_they_hold pair k classes (row_at pair is.path u) keeps (is.hold on u less (omega arith))) t (omega arith) (omega arith))
