-- The least difference, frame by frame and output by output.
use Rattle.std.proofs.Common.{◌≡◌, ◌∙◌, ◌<◌, ℕ, ◌+◌, length, slice_index, inl, inr, sym, subst, arith}
use Rattle.std.proofs.lemmas.Bool.{cases_lt}
use Rattle.circ_model.specs.Meaning.{Pair, Path, IsSoundPair, IsPath, IsRun, outputs_of, row_at, value_in}
use Rattle.circ_model.specs.Correspondence.{HoldsIn, IsLiteral}
use Rattle.circ_model.specs.Verdict.{AgreeBelow, IsFirstDifference, IsLeastDifference, OutputAgrees}
use Rattle.circ_model.proofs.First.{least_is_first}
use Rattle.circ_model.proofs.Outputs.{agree_where_held}
use Rattle.circ_model.proofs.Rows.{left_literal_is, right_literal_is, left_value, right_value}
use Rattle.product_machine.specs.States.{output_pair}
use Rattle.frame_graph.specs.Inductions.{LiteralsHoldInFrame}
use Rattle.frame_unroll.specs.Unrolled.{Differs}
use Rattle.induction_base.specs.declared.difference.Diff.{Diff}
use Rattle.induction_base.specs.Least.{IsShown}
use Rattle.induction_base.specs.LeastRun.{DiffersAtEnd}
use Rattle.induction_base.specs.Search.{AgreesAt, ApartAtEnd, HoldAt, IsFoundIn}
use Rattle.induction_base.proofs.Asking.{not_both}

-- both literals of an output stand in the row
left_stands : (pair : Pair) (j : ℕ) → IsSoundPair pair → j < outputs_of pair → IsLiteral pair (output_pair pair j).0
left_stands pair j sound lt = left_literal_is pair (slice_index pair.left.outputs j) sound (sound.left.all_defined.outputs j 0 lt)

right_stands : (pair : Pair) (j : ℕ) → IsSoundPair pair → j < outputs_of pair → IsLiteral pair (output_pair pair j).1
right_stands pair j sound lt =
    let same = sound.outputs in
    right_literal_is pair (slice_index pair.right.outputs j) sound (sound.right.all_defined.outputs j 0 (omega arith))

pub left_asked : (q pair : Pair) (p : ℕ × ℕ) (j : ℕ) → q ≡ pair → p ≡ output_pair pair j → IsSoundPair pair → j < outputs_of pair → IsLiteral q p.0
left_asked q pair p j e same sound lt = subst (λ (r : Pair). IsLiteral r p.0) (sym e) (subst (λ (r : ℕ × ℕ). IsLiteral pair r.0) (sym same) (left_stands pair j sound lt))

pub right_asked : (q pair : Pair) (p : ℕ × ℕ) (j : ℕ) → q ≡ pair → p ≡ output_pair pair j → IsSoundPair pair → j < outputs_of pair → IsLiteral q p.1
right_asked q pair p j e same sound lt = subst (λ (r : Pair). IsLiteral r p.1) (sym e) (subst (λ (r : ℕ × ℕ). IsLiteral pair r.1) (sym same) (right_stands pair j sound lt))

-- where the outputs agree their literals do
held_where_agree : (pair : Pair) (path : Path) (t j : ℕ) → IsSoundPair pair → IsPath pair path → t < length path.inputs → j < outputs_of pair → OutputAgrees pair path t j → HoldsIn (row_at pair path t) (output_pair pair j)
held_where_agree pair path t j sound is within lt agree =
    let same = sound.outputs in
    left_value pair path t (slice_index pair.left.outputs j) sound (sound.left.all_defined.outputs j 0 lt) ∙ agree
    ∙ sym (right_value pair path t (slice_index pair.right.outputs j) sound is within (sound.right.all_defined.outputs j 0 (omega arith)))

pub output_differs : (pair : Pair) (run : Path) (t j : ℕ) → IsSoundPair pair → IsRun pair run → t < length run.inputs → j < outputs_of pair
    → Differs pair run t (output_pair pair j).0 (output_pair pair j).1 → OutputAgrees pair run t j → ⊥
output_differs pair run t j sound is short lt differs agree =
    not_both (value_in (row_at pair run t) (output_pair pair j).0) (value_in (row_at pair run t) (output_pair pair j).1) (held_where_agree pair run t j sound is.is_path short lt agree) differs

-- what the graph says of a frame
pub hold_by_graph : (pair : Pair) (depth t a b : ℕ) → depth ≡ t + 1 → LiteralsHoldInFrame pair depth t a b → HoldAt pair t a b
hold_by_graph pair depth t a b e hold run is short = hold run (record { is_run = is; rows = omega arith })

-- from literals to outputs
pub agrees_at : (pair : Pair) (t j : ℕ) → IsSoundPair pair → j < outputs_of pair → HoldAt pair t (output_pair pair j).0 (output_pair pair j).1 → AgreesAt pair t j
agrees_at pair t j sound lt hold run is short = agree_where_held pair run t j sound is.is_path short lt (hold run is short)

pub differs_at : (pair : Pair) (t j : ℕ) (run : Path) → IsSoundPair pair → j < outputs_of pair → ApartAtEnd pair t (output_pair pair j).0 (output_pair pair j).1 run → DiffersAtEnd pair t j run
differs_at pair t j run sound lt is =
    let rows = is.rows in
    record { output = lt; is_run = is.is_run; rows = rows; differs = output_differs pair run t j sound is.is_run (omega arith) lt is.differs }

-- up to one more
pub one_more : (P : ℕ → Type 0) (n : ℕ) → ((i : ℕ) → i < n → P i) → P n → (i : ℕ) → i < n + 1 → P i
one_more P n below here i lt = elim (cases_lt i n) [
  | inl less ↦ below i less
  | inr more ↦ let e : n ≡ i = omega arith in subst P e here
]

pub none_before : (pair : Pair) → AgreeBelow pair 0
none_before pair run is s lt short j few = absurd (omega arith)

pub one_more_frame : (pair : Pair) (t : ℕ) → AgreeBelow pair t → ((i : ℕ) → i < outputs_of pair → AgreesAt pair t i) → AgreeBelow pair (t + 1)
one_more_frame pair t below here run is s lt short j few = elim (cases_lt s t) [
  | inl less ↦ below run is s less short j few
  | inr more ↦ let e : t ≡ s = omega arith in subst (λ (n : ℕ). n < length run.inputs → OutputAgrees pair run n j) e (here j few run is) short
]

-- the first output that differs in a frame, after frames in which none does, is the least difference
abbrev shows_least : (pair : Pair) (t : ℕ) (d : Diff) → AgreeBelow pair t → IsFoundIn pair t d → IsLeastDifference pair t d.output
shows_least pair t d below found = record {
  output = found.run.output;
  shown = (d.run, found.run.is_run, found.run.rows, found.run.differs);
  earlier_frames = below;
  earlier_outputs = λ run is len i few. found.before i few run is (omega arith);
}

pub is_shown : (pair : Pair) (k t : ℕ) (d : Diff) → t < k → AgreeBelow pair t → IsFoundIn pair t d → IsShown pair k d
is_shown pair k t d lt below found =
    let e = found.frame in
    let least = shows_least pair t d below found in
    let rows = found.run.rows in
    record {
      below = omega arith;
      least = subst (λ (n : ℕ). IsLeastDifference pair n d.output) (sym e) least;
      is_run = found.run.is_run;
      rows = omega arith;
      first = subst (λ (n : ℕ). IsFirstDifference pair d.run n d.output) (sym e) (least_is_first pair t d.output least);
    }

-- the least difference as it is answered may be asked for its least run
pub shown_at_end : (pair : Pair) (k : ℕ) (d : Diff) → IsShown pair k d → DiffersAtEnd pair d.frame d.output d.run
shown_at_end pair k d is = record { output = is.first.output; is_run = is.is_run; rows = is.rows; differs = is.first.differs }
