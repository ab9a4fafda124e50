-- Where the first separator stands, the first piece ends.
use Rattle.std.proofs.Common.{◌≡◌, ℕ, zero, suc, ◌<◌, List, [], ◌∷◌, length, take, drop, get_or, refl, arith}
use Rattle.std.proofs.lemmas.Bool.{eq-eqb, ne_eqb}
use Rattle.plain_text.specs.Pieces.{pieces, last_of, HasNone}

pub none_left : (separator : ℕ) (bs : List ℕ) → HasNone separator bs (length bs) → (pieces separator bs ≡ []) × (last_of separator bs ≡ bs)
unfolding pieces last_of
none_left separator [] none = (refl, refl)
none_left separator (b ∷ bs) none =
    let t = ne_eqb b separator (none 0 (omega arith)) in
    let h = none_left separator bs (λ i lt. none (suc i) (omega arith)) in
    (rw (t, h.0) refl, rw (t, h.0) refl)

pub first_piece : (separator : ℕ) (bs : List ℕ) (at : ℕ) → at < length bs → HasNone separator bs at → get_or bs at 0 ≡ separator
    → (pieces separator bs ≡ take at bs ∷ pieces separator (drop (suc at) bs)) × (last_of separator bs ≡ last_of separator (drop (suc at) bs))
unfolding pieces last_of
first_piece separator [] at lt none is = absurd (omega arith)
first_piece separator (b ∷ bs) zero lt none is = let t = eq-eqb b separator is in (rw t refl, rw t refl)
first_piece separator (b ∷ bs) (suc at) lt none is =
    let t = ne_eqb b separator (none 0 (omega arith)) in
    let h = first_piece separator bs at (omega arith) (λ i lt. none (suc i) (omega arith)) is in
    (rw (t, h.0) refl, rw (t, h.0) h.1)
