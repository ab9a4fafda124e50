-- What is read is a run, and one of the outputs.
use Rattle.std.proofs.Common.{◌≡◌, ◌<◌, ℕ, zero, suc, ◌+◌, ◌==◌, ◌&&◌, ltb, inl, inr, Bool, false, List, [], ◌∷◌, ◌++◌, length, Option, Some, None, Result, Ok, Err, IfOk, refl, subst, ◌∙◌, arith}
use Rattle.std.specs.List.{All}
use Rattle.std.proofs.lemmas.Bool.{and_parts, eqb-true, ltb-true}
use Rattle.std.proofs.lemmas.List.{length-map}
use Rattle.std.proofs.lemmas.List.Elements.{All-append}
use Rattle.plain_text.specs.Numbers.{number_at}
use Rattle.plain_text.specs.Pieces.{is_byte}
use Rattle.plain_text.proofs.Choices.{chosen}
use Rattle.circ_model.specs.Meaning.{Pair, IsRun, outputs_of, latches_of, resets}
use Rattle.trace_witness.specs.declared.read.Trace.{Trace}
use Rattle.trace_witness.specs.declared.fault.TraceKind.{TraceKind}
use Rattle.trace_witness.specs.declared.fault.TraceFault.{TraceFault}
use Rattle.trace_witness.specs.declared.fault.TraceError.{TraceError}
use Rattle.trace_witness.specs.Bits.{are_marks, bits_fault, bit_of, bits_of, is_against, reset_fault, breaks_tie, tie_fault, start_fault}
use Rattle.trace_witness.specs.Texts.{frame_or, frames_of, with_rows, started, start_of, below, output_named, named, output_of, trace_of, IsDue}
use Rattle.trace_witness.proofs.Starts.{start_from}
use Rattle.trace_witness.proofs.Ties.{each_like, run_ties}

abbrev HasWidth : ℕ → List Bool → Type 0
HasWidth width row = length row ≡ width

-- lines without a fault
no_kind : {k : TraceKind} → Some k ≡ None → ⊥
no_kind e = cc

pub good_length : (width : ℕ) (line : List ℕ) → bits_fault width line ≡ None → length line ≡ width
good_length width line e = elim (chosen (are_marks line) _ _ None e) [
  | inl p ↦ elim (chosen (length line == width) _ _ None p.1) [
    | inl q ↦ eqb-true _ _ q.0
    | inr q ↦ absurd (no_kind q.1)
  ]
  | inr p ↦ absurd (no_kind p.1)
]

-- so are start bits
record IsGoodStart (pair : Pair) (line : List ℕ) : Type 0 where
  length_is : length line ≡ latches_of pair
  resets_kept : is_against (resets pair) (bits_of line) ≡ false
  ties_kept : breaks_tie pair (bits_of line) ≡ false

good_start : (pair : Pair) (line : List ℕ) → start_fault pair line ≡ None → IsGoodStart pair line
good_start pair line e = by_reset (reset_fault pair line (bits_fault (latches_of pair) line)) refl e
  where
    by_bits : (k : Option TraceKind) → bits_fault (latches_of pair) line ≡ k → reset_fault pair line k ≡ None → (length line ≡ latches_of pair) × (is_against (resets pair) (bits_of line) ≡ false)
    by_bits (Some kind) is g = absurd (no_kind g)
    by_bits None is g = elim (chosen (is_against (resets pair) (bits_of line)) _ _ None g) [
      | inl p ↦ absurd (no_kind p.1)
      | inr p ↦ (good_length (latches_of pair) line is, p.0)
    ]

    by_reset : (k : Option TraceKind) → reset_fault pair line (bits_fault (latches_of pair) line) ≡ k → tie_fault pair line k ≡ None → IsGoodStart pair line
    by_reset (Some kind) is g = absurd (no_kind g)
    by_reset None is g = elim (chosen (breaks_tie pair (bits_of line)) _ _ None g) [
      | inl p ↦ absurd (no_kind p.1)
      | inr p ↦ let b = by_bits (bits_fault (latches_of pair) line) refl is in record { length_is = b.0; resets_kept = b.1; ties_kept = p.0 }
    ]

-- input rows
no_rows : {f : TraceFault} {rows : List (List Bool)} → Err f ≡ Ok rows → ⊥
no_rows e = cc

abbrev read : List (List Bool) → Result (List (List Bool)) TraceFault
read rows = Ok rows

same_rows : (a b : List (List Bool)) → read a ≡ read b → a ≡ b
same_rows a b e = cc

one_more : (width : ℕ) (rows : List (List Bool)) (row : List Bool) → All (HasWidth width) rows → length row ≡ width → All (HasWidth width) (rows ++ row ∷ [])
one_more width rows row all is = All-append (HasWidth width) rows (row ∷ []) all one
  where
    one : All (HasWidth width) (row ∷ [])
    one zero d lt = is
    one (suc k) d lt = absurd (omega arith)

rows_read : (width line : ℕ) (front : List (List Bool)) (ls : List (List ℕ)) (rows : List (List Bool)) → All (HasWidth width) front → frames_of width line front ls ≡ Ok rows → All (HasWidth width) rows
unfolding frames_of
rows_read width line front [] rows all e = absurd (no_rows e)
rows_read width line front (l ∷ ls) rows all e = elim (chosen (is_byte 46 l) (read front) _ (read rows) e) [
  | inl p ↦ subst (λ (r : List (List Bool)). All (HasWidth width) r) (same_rows front rows p.1) all
  | inr p ↦ by_line (bits_fault width l) refl p.1 (λ good more. rows_read width (line + 1) (front ++ bits_of l ∷ []) ls rows (one_more width front (bits_of l) all (length-map l bit_of ∙ good)) more)
]
  where
    by_line : (k : Option TraceKind) → bits_fault width l ≡ k → frame_or k line (frames_of width (line + 1) (front ++ bits_of l ∷ []) ls) ≡ Ok rows
        → (length l ≡ width → frames_of width (line + 1) (front ++ bits_of l ∷ []) ls ≡ Ok rows → All (HasWidth width) rows) → All (HasWidth width) rows
    by_line (Some kind) is g more = absurd (no_rows g)
    by_line None is g more = more (good_length width l is) g

-- what a trace of the pair is
pub record IsTrace (pair : Pair) (t : Trace) : Type 0 where
  pub run : IsRun pair t.run
  pub output : t.output < outputs_of pair

no_trace : {f : TraceFault} {t : Trace} → Err f ≡ Ok t → ⊥
no_trace e = cc

abbrev told : Trace → Result Trace TraceFault
told t = Ok t

same_trace : (a b : Trace) → told a ≡ told b → a ≡ b
same_trace a b e = cc

begins : (pair : Pair) (output : ℕ) (l : List ℕ) (ls : List (List ℕ)) (t : Trace) → output < outputs_of pair → start_of pair output (l ∷ ls) ≡ Ok t → IsTrace pair t
begins pair output l ls t lt e = by_start (start_fault pair l) refl e
  where
    by_rows : (r : Result (List (List Bool)) TraceFault) → frames_of (length pair.left.inputs) 4 [] ls ≡ r → start_fault pair l ≡ None → with_rows output (bits_of l) r ≡ Ok t → IsTrace pair t
    by_rows (Err f) is good g = absurd (no_trace g)
    by_rows (Ok rows) is good g =
        let s = good_start pair l good in
        let n = length-map l bit_of in
        subst (λ (u : Trace). IsTrace pair u) (same_trace (record { output = output; run = record { start = bits_of l; inputs = rows } }) t g) (record {
          run = record {
            is_path = record { start = n ∙ s.length_is; inputs = rows_read (length pair.left.inputs) 4 [] ls rows (λ k d lt. absurd (omega arith)) is };
            reset = start_from (resets pair) (bits_of l) s.resets_kept;
            ties = run_ties pair (record { start = bits_of l; inputs = rows }) (each_like pair (bits_of l) s.ties_kept);
          };
          output = lt;
        })

    by_start : (k : Option TraceKind) → start_fault pair l ≡ k → started k pair output l ls ≡ Ok t → IsTrace pair t
    by_start (Some kind) is g = absurd (no_trace g)
    by_start None is g = by_rows (frames_of (length pair.left.inputs) 4 [] ls) refl is g

starts : (pair : Pair) (output : ℕ) (ls : List (List ℕ)) (t : Trace) → output < outputs_of pair → start_of pair output ls ≡ Ok t → IsTrace pair t
starts pair output [] t lt e = absurd (no_trace e)
starts pair output (l ∷ ls) t lt e = begins pair output l ls t lt e

some_is : (a b : ℕ) → Some a ≡ Some b → a ≡ b
some_is a b e = cc

no_name : {n : ℕ} → None ≡ Some n → ⊥
no_name e = cc

below_is : (outputs end output : ℕ) (n : Option (ℕ × ℕ)) → below outputs end n ≡ Some output → output < outputs
below_is outputs end output None e = absurd (no_name e)
below_is outputs end output (Some n) e = elim (chosen ((n.1 == end) && ltb n.0 outputs) (Some n.0) None (Some output) e) [
  | inl p ↦ subst (λ (k : ℕ). k < outputs) (some_is n.0 output p.1) (ltb-true _ _ (and_parts _ _ p.0).1)
  | inr p ↦ absurd (no_name p.1)
]

name_below : (outputs output : ℕ) (l : List ℕ) → output_named outputs l ≡ Some output → output < outputs
name_below outputs output l e = elim (chosen _ (below outputs (length l) (number_at l 1)) None (Some output) e) [
  | inl p ↦ below_is outputs (length l) output (number_at l 1) p.1
  | inr p ↦ absurd (no_name p.1)
]

names : (pair : Pair) (ls : List (List ℕ)) (t : Trace) → output_of pair ls ≡ Ok t → IsTrace pair t
names pair [] t e = absurd (no_trace e)
names pair (l ∷ ls) t e = by_name (output_named (outputs_of pair) l) refl e
  where
    by_name : (n : Option ℕ) → output_named (outputs_of pair) l ≡ n → named n pair ls ≡ Ok t → IsTrace pair t
    by_name None is g = absurd (no_trace g)
    by_name (Some output) is g = starts pair output ls t (name_below (outputs_of pair) output l is) g

trace_is : (pair : Pair) (ls : List (List ℕ)) (t : Trace) → trace_of pair ls ≡ Ok t → IsTrace pair t
unfolding trace_of
trace_is pair [] t e = absurd (no_trace e)
trace_is pair (l ∷ ls) t e = elim (chosen (is_byte 49 l) (output_of pair ls) _ (told t) e) [
  | inl p ↦ names pair ls t p.1
  | inr p ↦ absurd (no_trace p.1)
]

-- so is what an answer holds
pub due_is : (pair : Pair) (ls : List (List ℕ)) (r : Result Trace TraceError) → IsDue r (trace_of pair ls) → IfOk r (λ t. IsTrace pair t)
due_is pair ls (Ok t) due = trace_is pair ls t due
due_is pair ls (Err e) due = tt

pub run_of : (pair : Pair) (r : Result Trace TraceError) → IfOk r (λ t. IsTrace pair t) → IfOk r (λ t. IsRun pair t.run)
run_of pair (Ok t) is = is.run
run_of pair (Err e) is = tt

pub output_of_trace : (pair : Pair) (r : Result Trace TraceError) → IfOk r (λ t. IsTrace pair t) → IfOk r (λ t. t.output < outputs_of pair)
output_of_trace pair (Ok t) is = is.output
output_of_trace pair (Err e) is = tt
