-- What is read is spelled so, and what is spelled so is read.
use Rattle.std.proofs.Common.{◌≡◌, ℕ, zero, suc, ◌+◌, ◌<◌, ◌≤◌, inl, inr, Bool, true, false, cond, leb, ◌&&◌, List, [], ◌∷◌, ◌++◌, length, drop, get_or, Some, refl, sym, ap, subst, ◌∙◌, arith, append_assoc, length-append, add-one, drop-cons}
use Rattle.std.specs.List.{AllByRecursion}
use Rattle.std.proofs.lemmas.Bool.{cases_lt, eq-eqb, ne_eqb, leb-true}
use Rattle.std.proofs.lemmas.List.{get_or-drop, get_or_past, drop-drop}
use Rattle.std.proofs.Math.Seq.{get_or-append_seam, drop-append-add}
use Rattle.plain_text.specs.Numbers.{IsDigit, SpellsNumber, is_digit, digits, capped, value_from, number_of, number_at}
use Rattle.plain_text.proofs.Again.{is_of_digit, number_made}
use Rattle.aiger_codec.specs.Lines.{numbers_at}
use Rattle.aiger_codec.specs.Grammar.{SpellsLine}
use Rattle.aiger_codec.proofs.Ends.{some_is, first_of, others_of}

-- a text stands at a place
pub record Stands (bytes : List ℕ) (at : ℕ) (text rest : List ℕ) : Type 0 where
  pub is : drop at bytes ≡ text ++ rest

pub and_both : (a b : Bool) → (a && b) ≡ true → (a ≡ true) × (b ≡ true)
and_both true b e = (refl, e)
and_both false b e = absurd cc

digit_is : (b : ℕ) → is_digit b ≡ true → IsDigit b
digit_is b e = let h = and_both (leb 48 b) (leb b 57) e in (leb-true _ _ h.0, leb-true _ _ h.1)

-- the digits at the front are digits, and begin the bytes
pub digits_front : (bs : List ℕ) → AllByRecursion IsDigit (digits bs) × (bs ≡ digits bs ++ drop (length (digits bs)) bs)
digits_front [] = (tt, refl)
digits_front (b ∷ bs) = by_test (is_digit b) refl (digits_front bs)
  where
    by_test : (c : Bool) → is_digit b ≡ c → AllByRecursion IsDigit (digits bs) × (bs ≡ digits bs ++ drop (length (digits bs)) bs)
        → AllByRecursion IsDigit (cond c (b ∷ digits bs) []) × (b ∷ bs ≡ cond c (b ∷ digits bs) [] ++ drop (length (cond c (b ∷ digits bs) [])) (b ∷ bs))
    by_test true e h = ((digit_is b e, h.0), ap (λ (l : List ℕ). b ∷ l) h.1)
    by_test false e h = (tt, refl)

number_parts : (ds : List ℕ) (at n end : ℕ) → AllByRecursion IsDigit ds → number_of ds at ≡ Some (n, end) → SpellsNumber ds n × (end ≡ at + length ds)
number_parts [] at n end all e = absurd cc
number_parts (d ∷ ds) at n end all e =
    let p = some_is (capped (value_from 0 (d ∷ ds)), at + length (d ∷ ds)) (n, end) e in
    (record { some = omega arith; digits = all; value = sym (ap (λ (x : ℕ × ℕ). x.0) p) }, sym (ap (λ (x : ℕ × ℕ). x.1) p))

pub number_takes : (bytes : List ℕ) (at n end : ℕ) → number_at bytes at ≡ Some (n, end) → (text : List ℕ) × SpellsNumber text n × Stands bytes at text (drop end bytes) × (end ≡ at + length text)
unfolding number_at
number_takes bytes at n end e =
    let f = digits_front (drop at bytes) in
    let p = number_parts (digits (drop at bytes)) at n end f.0 e in
    let d : drop (length (digits (drop at bytes))) (drop at bytes) ≡ drop end bytes = drop-drop (length (digits (drop at bytes))) at bytes ∙ ap (λ (k : ℕ). drop k bytes) (sym p.1) in
    (digits (drop at bytes), p.0, record { is = f.1 ∙ ap (λ (l : List ℕ). digits (drop at bytes) ++ l) d }, p.1)

digits_of_text : (text : List ℕ) (b : ℕ) (rest : List ℕ) → AllByRecursion IsDigit text → is_digit b ≡ false → digits (text ++ b ∷ rest) ≡ text
digits_of_text [] b rest all e = rw e refl
digits_of_text (d ∷ text) b rest all e = let t = is_of_digit d all.0 in let h = digits_of_text text b rest all.1 e in rw (t, h) refl

pub number_again : (bytes : List ℕ) (at : ℕ) (text : List ℕ) (n b : ℕ) (rest : List ℕ) → SpellsNumber text n → is_digit b ≡ false → Stands bytes at text (b ∷ rest) → number_at bytes at ≡ Some (n, at + length text)
unfolding number_at
number_again bytes at text n b rest s e stands =
    let d : digits (drop at bytes) ≡ text = ap digits stands.is ∙ digits_of_text text b rest s.digits e in
    ap (λ (ds : List ℕ). number_of ds at) d ∙ number_made text at n s

-- the byte after a text, and what follows it
pub byte_after : (bytes : List ℕ) (at : ℕ) (text : List ℕ) (b : ℕ) (rest : List ℕ) → Stands bytes at text (b ∷ rest) → get_or bytes (at + length text) 0 ≡ b
byte_after bytes at text b rest s = sym (get_or-drop at bytes (length text) 0) ∙ ap (λ (l : List ℕ). get_or l (length text) 0) s.is ∙ get_or-append_seam text b rest 0

pub rest_after : (bytes : List ℕ) (at : ℕ) (text : List ℕ) (b : ℕ) (rest : List ℕ) → Stands bytes at text (b ∷ rest) → drop (at + length text + 1) bytes ≡ rest
rest_after bytes at text b rest s =
    let e : at + length text + 1 ≡ at + (length text + 1) = omega arith in
    ap (λ (k : ℕ). drop k bytes) e ∙ sym (drop-drop (length text + 1) at bytes) ∙ ap (λ (l : List ℕ). drop (length text + 1) l) s.is ∙ drop-append-add text (b ∷ rest) 1

-- a byte that isn't 0 stands within
pub byte_here : (bytes : List ℕ) (i b : ℕ) → get_or bytes i 0 ≡ b → 0 < b → drop i bytes ≡ b ∷ drop (i + 1) bytes
byte_here bytes i b e lt =
    elim (cases_lt i (length bytes)) [
      | inl within ↦
          let d : drop i bytes ≡ get_or bytes i 0 ∷ drop (i + 1) bytes = rw add-one (drop-cons bytes i 0 within) in
          d ∙ ap (λ (x : ℕ). x ∷ drop (i + 1) bytes) e
      | inr past ↦ absurd (omega (arith, get_or_past bytes i 0 past))
    ]

pub line_takes : (most : ℕ) (bytes : List ℕ) (at : ℕ) (x : List ℕ × ℕ) → numbers_at most bytes at ≡ Some x
    → (text : List ℕ) × SpellsLine text x.0 × Stands bytes at text (drop x.1 bytes) × (x.1 ≡ at + length text)
unfolding numbers_at
line_takes zero bytes at x e = absurd cc
line_takes (suc more) bytes at x e =
    let f = first_of bytes more at x e in
    let t = number_takes bytes at f.value f.end f.number in
    elim f.goes [
      | inl p ↦
          let here = byte_here bytes f.end 10 p.0 (omega arith) in
          let stands : drop at bytes ≡ (t.0 ++ 10 ∷ []) ++ drop (f.end + 1) bytes = t.2.is ∙ ap (λ (l : List ℕ). t.0 ++ l) here ∙ sym (append_assoc t.0 (10 ∷ []) (drop (f.end + 1) bytes)) in
          let len : f.end + 1 ≡ at + length (t.0 ++ 10 ∷ []) = omega (arith, length-append t.0 (10 ∷ []), t.3) in
          subst (λ (y : List ℕ × ℕ). (text : List ℕ) × SpellsLine text y.0 × Stands bytes at text (drop y.1 bytes) × (y.1 ≡ at + length text)) (sym p.1)
          (t.0 ++ 10 ∷ [], (t.0, t.1, refl), record { is = stands }, len)
      | inr p ↦
          let o = others_of f.value (numbers_at more bytes (f.end + 1)) x p.1 in
          let u = line_takes more bytes (f.end + 1) o.0 o.1 in
          let here = byte_here bytes f.end 32 p.0 (omega arith) in
          let stands : drop at bytes ≡ (t.0 ++ 32 ∷ u.0) ++ drop o.0.1 bytes = t.2.is ∙ ap (λ (l : List ℕ). t.0 ++ l) (here ∙ ap (λ (l : List ℕ). 32 ∷ l) u.2.is) ∙ sym (append_assoc t.0 (32 ∷ u.0) (drop o.0.1 bytes)) in
          let len : o.0.1 ≡ at + length (t.0 ++ 32 ∷ u.0) = omega (arith, length-append t.0 (32 ∷ u.0), t.3, u.3) in
          subst (λ (y : List ℕ × ℕ). (text : List ℕ) × SpellsLine text y.0 × Stands bytes at text (drop y.1 bytes) × (y.1 ≡ at + length text)) (sym o.2)
          (t.0 ++ 32 ∷ u.0, joined f.value t.0 u.0 o.0.0 t.1 u.1, record { is = stands }, len)
    ]
  where
    joined : (n : ℕ) (t u ns : List ℕ) → SpellsNumber t n → SpellsLine u ns → SpellsLine (t ++ 32 ∷ u) (n ∷ ns)
    joined n t u [] s line = absurd line
    joined n t u (m ∷ ns) s line = (t, u, s, line, refl)

pub line_again : (ns : List ℕ) (most : ℕ) (bytes : List ℕ) (at : ℕ) (text rest : List ℕ) → length ns ≤ most → SpellsLine text ns → Stands bytes at text rest → numbers_at most bytes at ≡ Some (ns, at + length text)
unfolding numbers_at
line_again [] most bytes at text rest le s stands = absurd s
line_again (n ∷ []) zero bytes at text rest le s stands = absurd (omega arith)
line_again (n ∷ []) (suc more) bytes at text rest le s stands =
    let now : Stands bytes at s.0 (10 ∷ rest) = record { is = stands.is ∙ ap (λ (l : List ℕ). l ++ rest) s.2 ∙ append_assoc s.0 (10 ∷ []) rest } in
    let a = number_again bytes at s.0 n 10 rest s.1 refl now in
    let b = eq-eqb _ _ (byte_after bytes at s.0 10 rest now) in
    let len : at + length s.0 + 1 ≡ at + length text = omega (arith, ap length s.2, length-append s.0 (10 ∷ [])) in
    rw (a, b) (ap (λ (k : ℕ). Some (n ∷ [], k)) len)
line_again (n ∷ m ∷ ns) zero bytes at text rest le s stands = absurd (omega arith)
line_again (n ∷ m ∷ ns) (suc more) bytes at text rest le s stands =
    let t = s.0 in let u = s.1 in
    let now : Stands bytes at t (32 ∷ (u ++ rest)) = record { is = stands.is ∙ ap (λ (l : List ℕ). l ++ rest) s.4 ∙ append_assoc t (32 ∷ u) rest } in
    let a = number_again bytes at t n 32 (u ++ rest) s.2 refl now in
    let here = byte_after bytes at t 32 (u ++ rest) now in
    let b = ne_eqb (get_or bytes (at + length t) 0) 10 (λ h. omega arith) in
    let c = eq-eqb _ _ here in
    let others = line_again (m ∷ ns) more bytes (at + length t + 1) u rest (omega arith) s.3 (record { is = rest_after bytes at t 32 (u ++ rest) now }) in
    let len : at + length t + 1 + length u ≡ at + length text = omega (arith, ap length s.4, length-append t (32 ∷ u)) in
    rw (a, b, c, others) (ap (λ (k : ℕ). Some (n ∷ m ∷ ns, k)) len)
