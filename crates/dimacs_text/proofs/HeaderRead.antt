-- Where the header is read, the clauses are those of the lines after it.
use Rattle.std.proofs.Common.{◌≡◌, ℕ, ◌+◌, false, List, [], ◌∷◌, length, Some, Result, refl, sym, ap, ◌∙◌, subst}
use Rattle.cnf_store.specs.Clauses.{Formula}
use Rattle.plain_text.specs.Pieces.{pieces, last_of}
use Rattle.dimacs_text.specs.Words.{header_of}
use Rattle.dimacs_text.specs.Texts.{State, state, finished, lines_from, is_passed, header_from, IsRead}
use Rattle.dimacs_text.specs.declared.header.Header.{Header}
use Rattle.dimacs_text.specs.declared.fault.DimacsFault.{DimacsFault}
use Rattle.dimacs_text.specs.declared.fault.DimacsError.{DimacsError}

abbrev pub after_header : Header → ℕ → ℕ → List ℕ → Result State DimacsFault
after_header h end next after = finished end h.clauses (lines_from next (state (record { vars = h.vars; clauses = [] }) []) (pieces 10 after) (last_of 10 after))

header_step : (end at : ℕ) (l after : List ℕ) (h : Header) → is_passed l ≡ false → header_of l ≡ Some h
    → header_from end at (l ∷ pieces 10 after) (last_of 10 after) ≡ after_header h end (at + length l + 1) after
unfolding header_from
header_step end at l after h n i = rw (n, i) refl

pub header_read : (end at : ℕ) (rest l after : List ℕ) (whole : Result State DimacsFault) (h : Header) (result : Result Formula DimacsError)
    → header_from end at (pieces 10 rest) (last_of 10 rest) ≡ whole → pieces 10 rest ≡ l ∷ pieces 10 after → last_of 10 rest ≡ last_of 10 after
    → is_passed l ≡ false → header_of l ≡ Some h → (at + length l + 1) + length after ≡ end
    → IsRead result (after_header h ((at + length l + 1) + length after) (at + length l + 1) after) → IsRead result whole
header_read end at rest l after whole h result d p q n i s is =
    let a = ap (λ (x : List (List ℕ)). header_from end at x (last_of 10 rest)) p in
    let b = ap (λ (x : List ℕ). header_from end at (l ∷ pieces 10 after) x) q in
    let e = ap (λ (x : ℕ). after_header h x (at + length l + 1) after) s in
    subst (IsRead result) (e ∙ sym (header_step end at l after h n i) ∙ sym b ∙ sym a ∙ d) is
