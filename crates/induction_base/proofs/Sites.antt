-- Where the bits that spell a path stand in its rows.
use Rattle.std.proofs.Common.{◌≡◌, ◌∙◌, ◌<◌, ◌≤◌, ◌+◌, ◌-◌, ◌*◌, ◌/◌, ℕ, length, sym, ap, subst, arith, true, not}
use Rattle.circ_model.specs.Meaning.{Pair, Path, IsSoundPair, IsPath, bit, inputs_at, latches_of, left_from, literal, right_from, row_at, value_in}
use Rattle.circ_model.proofs.Literals.{half_literal, value_of_literal}
use Rattle.circ_model.proofs.Rows.{length_own, length_places}
use Rattle.frame_graph.proofs.Positions.{input_bit, left_bit, right_bit}
use Rattle.induction_base.specs.Fixing.{IsZeroAt}
use Rattle.induction_base.specs.Spelling.{spelled}
use Rattle.induction_base.proofs.Spelling.{spelled_input}

-- a latch's place has its start bit
abbrev pub HasStart : Pair → ℕ → ℕ → Type 0
HasStart pair j p = (path : Path) → IsPath pair path → 0 < length path.inputs → bit (row_at pair path 0) p ≡ bit path.start j

pub left_start : (pair : Pair) (j p : ℕ) → IsSoundPair pair → j < length pair.left.latches → p ≡ left_from pair + j → HasStart pair j p
left_start pair j p sound lt e = subst (HasStart pair j) (sym e) (left_bit pair j sound lt).bits

pub right_start : (pair : Pair) (j p : ℕ) → IsSoundPair pair → length pair.left.latches ≤ j → j < latches_of pair → p ≡ 1 + length pair.left.inputs + length pair.left.gates + j → HasStart pair j p
right_start pair j p sound le lt e =
    let k : ℕ = j - length pair.left.latches in
    let less : k < length pair.right.latches = omega arith in
    let same : length pair.left.latches + k ≡ j = omega arith in
    let there : right_from pair + k ≡ p = (let i = sound.inputs in let o = length_own pair.left in omega arith) in
    subst (HasStart pair j) there (subst (λ (m : ℕ). HasStart pair m (right_from pair + k)) same (right_bit pair k sound less).bits)

-- the literal of an input
pub zero_input : (pair : Pair) (rows i latches w frame input lit : ℕ) → IsSoundPair pair → latches ≡ latches_of pair → w ≡ length pair.left.inputs → latches ≤ i → i - latches ≡ frame * w + input → frame < rows → input < w → lit ≡ literal (1 + input) true → IsZeroAt pair rows i (frame, lit)
zero_input pair rows i latches w frame input lit sound many wide le at lt less e =
    let h = half_literal (1 + input) true in
    let places = length_places pair in
    let less' : input < length pair.left.inputs = omega arith in
    let there : latches_of pair + (frame * length pair.left.inputs + input) ≡ i = subst (λ (n : ℕ). latches_of pair + (frame * n + input) ≡ i) wide (omega arith) in
    let one : 1 + input - 1 ≡ input = omega arith in
    record {
      frame = lt;
      literal = (let s : lit / 2 ≡ 1 + input = ap (λ (n : ℕ). n / 2) e ∙ h in omega arith);
      low = λ path on rows_are.
          let short : frame < length path.inputs = omega arith in
          ap (λ (l : ℕ). value_in (row_at pair path frame) l) e ∙ value_of_literal (row_at pair path frame) (1 + input) true
          ∙ ap not ((input_bit pair input sound less').bits path frame on short ∙ ap (bit (inputs_at path frame)) one ∙ sym (spelled_input pair path frame input on short less') ∙ ap (bit (spelled path)) there);
    }

-- the bit of an input, as the code reads it
pub input_read : (pair : Pair) (path : Path) (i latches w frame input : ℕ) → IsPath pair path → latches ≡ latches_of pair → w ≡ length pair.left.inputs → latches ≤ i → i - latches ≡ frame * w + input → frame < length path.inputs → input < w
    → bit (inputs_at path frame) input ≡ bit (spelled path) i
input_read pair path i latches w frame input on many wide le at lt less =
    let less' : input < length pair.left.inputs = omega arith in
    let there : latches_of pair + (frame * length pair.left.inputs + input) ≡ i = subst (λ (n : ℕ). latches_of pair + (frame * n + input) ≡ i) wide (omega arith) in
    sym (spelled_input pair path frame input on lt less') ∙ ap (bit (spelled path)) there
