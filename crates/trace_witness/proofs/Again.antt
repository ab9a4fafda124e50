-- What is written is read again.
use Rattle.std.proofs.Common.{◌≡◌, ◌≢◌, ℕ, suc, ◌+◌, ◌<◌, Bool, true, false, ◌&&◌, List, [], ◌∷◌, ◌++◌, length, Some, None, Ok, refl, sym, ap, ◌∙◌, arith, append_assoc, append-nil, decimal}
use Rattle.std.specs.List.{All, AllByRecursion}
use Rattle.std.proofs.lemmas.Bool.{eq-eqb, lt-ltb}
use Rattle.plain_text.specs.Numbers.{SpellsNumber, number_at}
use Rattle.plain_text.proofs.Again.{digits_whole, none_is, number_made, number_spelled, piece_again}
use Rattle.plain_text.specs.Pieces.{is_byte}
use Rattle.circ_model.specs.Meaning.{Pair, Path, IsRun, outputs_of, latches_of, resets}
use Rattle.trace_witness.specs.Lines.{lines_of}
use Rattle.trace_witness.specs.Bits.{are_marks, has_unknown, bits_fault, bits_of, is_against, breaks_tie, start_fault}
use Rattle.trace_witness.specs.Texts.{bytes_of, frames_of, frames_text, trace_of, trace_text, output_named}
use Rattle.trace_witness.proofs.Starts.{not_against_run}
use Rattle.trace_witness.proofs.Ties.{tied_run}

-- a number in decimal
name_again : (outputs n : ℕ) (ds : List ℕ) → SpellsNumber ds n → n < outputs → output_named outputs (98 ∷ ds) ≡ Some n
unfolding number_at
name_again outputs n ds s lt =
    let d = digits_whole ds s.digits in
    let m = number_made ds 1 n s in
    let e = eq-eqb (1 + length ds) (suc (length ds)) (omega arith) in
    let t = lt-ltb n outputs lt in
    rw (d, m, e, t) refl

-- lines of bits
bytes_not_lf : (bits : List Bool) → AllByRecursion (λ b. b ≢ 10) (bytes_of bits)
bytes_not_lf [] = tt
bytes_not_lf (true ∷ bits) = ((λ e. omega arith), bytes_not_lf bits)
bytes_not_lf (false ∷ bits) = ((λ e. omega arith), bytes_not_lf bits)

bits_again : (bits : List Bool) → bits_of (bytes_of bits) ≡ bits
bits_again [] = refl
bits_again (true ∷ bits) = ap (λ (l : List Bool). true ∷ l) (bits_again bits)
bits_again (false ∷ bits) = ap (λ (l : List Bool). false ∷ l) (bits_again bits)

marks_again : (bits : List Bool) → are_marks (bytes_of bits) ≡ true
marks_again [] = refl
marks_again (true ∷ bits) = marks_again bits
marks_again (false ∷ bits) = marks_again bits

known_again : (bits : List Bool) → has_unknown (bytes_of bits) ≡ false
known_again [] = refl
known_again (true ∷ bits) = known_again bits
known_again (false ∷ bits) = known_again bits

length_again : (bits : List Bool) → length (bytes_of bits) ≡ length bits
length_again [] = refl
length_again (b ∷ bits) = ap suc (length_again bits)

line_good : (width : ℕ) (bits : List Bool) → length bits ≡ width → bits_fault width (bytes_of bits) ≡ None
line_good width bits e =
    let a = marks_again bits in
    let b = eq-eqb (length (bytes_of bits)) width (length_again bits ∙ e) in
    let c = known_again bits in
    rw (a, b, c) refl

and_false : (a : Bool) → (a && false) ≡ false
and_false true = refl
and_false false = refl

not_end : (bits : List Bool) → is_byte 46 (bytes_of bits) ≡ false
not_end [] = refl
not_end (true ∷ bits) = and_false _
not_end (false ∷ bits) = and_false _

start_good : (pair : Pair) (run : Path) → IsRun pair run → start_fault pair (bytes_of run.start) ≡ None
start_good pair run is =
    let g = line_good (latches_of pair) run.start is.is_path.start in
    let b = bits_again run.start in
    let a = ap (is_against (resets pair)) b ∙ not_against_run pair run is in
    let t = ap (breaks_tie pair) b ∙ tied_run pair run is in
    rw (g, a, t) refl

frames_again : (width line : ℕ) (front rows : List (List Bool)) → All (λ r. length r ≡ width) rows → frames_of width line front (lines_of (frames_text rows)) ≡ Ok (front ++ rows)
unfolding frames_of frames_text
frames_again width line front [] all =
    let p = piece_again 10 (46 ∷ []) [] ((λ e. omega arith), tt) in
    rw p (ap (λ (l : List (List Bool)). Ok l) (sym (append-nil front)))
frames_again width line front (row ∷ rows) all =
    let p = piece_again 10 (bytes_of row) (frames_text rows) (bytes_not_lf row) in
    let t = not_end row in
    let g = line_good width row (all 0 [] (omega arith)) in
    let b = bits_again row in
    let again = frames_again width (line + 1) (front ++ row ∷ []) rows (λ k d lt. all (suc k) d (omega arith)) in
    rw (p, t, g, b, again) (ap (λ (l : List (List Bool)). Ok l) (append_assoc front (row ∷ []) rows))

-- a run and one of the pair's outputs
pub trace_again : (pair : Pair) (output : ℕ) (run : Path) → IsRun pair run → output < outputs_of pair → output < 4294967296
    → trace_of pair (lines_of (trace_text output run)) ≡ Ok (record { output = output; run = run })
unfolding trace_of
trace_again pair output run is lt small =
    let s = number_spelled output small in
    let rest : List ℕ = frames_text run.inputs in
    let a = piece_again 10 (49 ∷ []) ((98 ∷ decimal output) ++ 10 ∷ (bytes_of run.start ++ 10 ∷ rest)) ((λ e. omega arith), tt) in
    let b = piece_again 10 (98 ∷ decimal output) (bytes_of run.start ++ 10 ∷ rest) ((λ e. omega arith), none_is 10 (decimal output) (omega arith) s.digits) in
    let c = piece_again 10 (bytes_of run.start) rest (bytes_not_lf run.start) in
    let n = name_again (outputs_of pair) output (decimal output) s lt in
    let g = start_good pair run is in
    let f = frames_again (length pair.left.inputs) 4 [] run.inputs is.is_path.inputs in
    let i = bits_again run.start in
    rw (a, b, n, c, g, f, i) refl
