-- Texts that are appended one after another.
use Rattle.std.proofs.Common.{◌≡◌, ◌∙◌, ◌+◌, ℕ, zero, suc, List, ◌++◌, ap, sym, arith, append_assoc, zero-add, append-nil}
use Rattle.std.specs.Prelude.{flat_map}
use Rattle.std.specs.List.{range_with_len}

-- one more piece
range_more : {X : Type 0} (f : ℕ → List X) (from n : ℕ) → flat_map f (range_with_len from (n + 1)) ≡ flat_map f (range_with_len from n) ++ f (from + n)
range_more f from zero = let e : from ≡ from + 0 = omega arith in append-nil (f from) ∙ ap f e
range_more f from (suc n) =
    let h = range_more f (from + 1) n in
    let e : (from + 1) + n ≡ from + suc n = omega arith in
    let s : suc n + 1 ≡ suc (n + 1) = omega arith in
    ap (λ (m : ℕ). flat_map f (range_with_len from m)) s ∙ ap (λ (l : List _). f from ++ l) (h ∙ ap (λ (m : ℕ). flat_map f (range_with_len (from + 1) n) ++ f m) e) ∙ sym (append_assoc (f from) (flat_map f (range_with_len (from + 1) n)) (f (from + suc n)))

-- what was appended so far, and one more piece
pub added_more : {X : Type 0} (f : ℕ → List X) (old cs ds : List X) (n : ℕ) → cs ≡ old ++ flat_map f (range_with_len 0 n) → ds ≡ cs ++ f n → ds ≡ old ++ flat_map f (range_with_len 0 (n + 1))
added_more f old cs ds n h e =
    let z = zero-add n in
    e ∙ ap (λ (l : List _). l ++ f n) h ∙ append_assoc old (flat_map f (range_with_len 0 n)) (f n) ∙ ap (λ (l : List _). old ++ l) (sym (range_more f 0 n ∙ ap (λ (m : ℕ). flat_map f (range_with_len 0 n) ++ f m) z))
