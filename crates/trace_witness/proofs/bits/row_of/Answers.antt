use Rattle.std.proofs.Common.{◌≡◌, ◌≢◌, ◌∙◌, ◌<◌, ◌≤◌, ◌+◌, ℕ, Bool, false, List, length, ap, sym, subst, ⊎_elim, arith}
use Rattle.std.specs.Prelude.{slice_set}
use Rattle.std.proofs.lemmas.Bool.{cases_lt}
use Rattle.std.proofs.lemmas.List.{length-map, length-set, get_or-map, get_or-set_same, get_or-set_other}
use Rattle.circ_model.specs.Meaning.{bit}
use Rattle.trace_witness.specs.Bits.{bit_of, bits_of}
use Rattle.trace_witness.proofs.Starts.{one_row}
use Rattle.trace_witness.proofs.bits.row_of.Goals as goal

-- one more bit
set_more : (row after bits : List Bool) (i k : ℕ) (b : Bool) → after ≡ slice_set row i b → i < length row → b ≡ bit bits i → (k < i → bit row k ≡ bit bits k) → k < i + 1 → bit after k ≡ bit bits k
set_more row after bits i k b e within is before lt =
    ap (λ (r : List Bool). bit r k) e
    ∙ ⊎_elim
    (λ (early : k < i). (let other : k ≢ i = omega arith in get_or-set_other row i k b false other) ∙ before early)
    (λ (late : i ≤ k). let at : i ≡ k = omega arith in subst (λ (m : ℕ). bit (slice_set row i b) m ≡ bit bits m) at (get_or-set_same row i b false within ∙ is))
    (cases_lt k i)

pub loop-i-preserved : goal.loop-i-preserved
loop-i-preserved c =
    let line = c.args.line.now in
    let i = c.loop-i.i in
    let lt : i < length line = omega (arith, c.requires) in
    let within : i < length c.loop-i.row = omega (arith, c.loop-i.invariant.0, length-map line bit_of) in (
      ap length c.set.ensures ∙ length-set c.loop-i.row i _ ∙ c.loop-i.invariant.0,
      λ k below. set_more c.loop-i.row c.set.new.self (bits_of line) i k _ c.set.ensures within (sym (get_or-map bit_of line i 0 false lt)) (c.loop-i.invariant.1 k) below,
    )

pub returns : goal.returns
returns c =
    let past = c.loop-i-test.false in
    let len = length-map c.args.line.now bit_of in
    one_row c.loop-i.row (bits_of c.args.line.now) c.loop-i.invariant.0 (λ k lt. c.loop-i.invariant.1 k (omega (arith, c.requires)))
