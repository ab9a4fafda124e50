-- Where the header's numbers are read, its line ends.
use Rattle.std.proofs.Common.{◌≡◌, ℕ, ◌≤◌, inl, inr, Bool, true, eqb, List, length, get_or, Some, None, refl, leb}
use Rattle.std.proofs.lemmas.Bool.{le-leb}
use Rattle.aiger_codec.specs.Lines.{has_end}
use Rattle.aiger_codec.specs.Header.{form_of, header_numbers, checked, header_at}
use Rattle.plain_text.proofs.Choices.{chosen}
use Rattle.aiger_codec.proofs.Ends.{ends_here, read_ends}

pub header_ends : (bytes : List ℕ) (x : List ℕ × ℕ) → header_numbers bytes ≡ Some x → has_end bytes ≡ true
unfolding header_numbers
header_ends bytes x e =
    elim (chosen (eqb (get_or bytes 3 0) 32) _ _ (Some x) e) [
      | inl p ↦ let h = read_ends 9 bytes 4 x p.1 in ends_here bytes h.0 h.2
      | inr p ↦ absurd (no_some p.1)
    ]
  where
    no_some : {A : Type 0} {x : A} → None ≡ Some x → ⊥
    no_some e = cc

pub header_read : (bytes : List ℕ) (binary : Bool) (x : List ℕ × ℕ) → form_of bytes ≡ Some binary → header_numbers bytes ≡ Some x → 5 ≤ length x.0 → header_at bytes ≡ checked binary x.0 x.1
unfolding header_at
header_read bytes binary x f e le =
    let a = header_ends bytes x e in
    let b : leb 5 (length x.0) ≡ true = le-leb _ _ le in
    rw (f, a, e, b) refl
