-- Symbol lines, both ways.
use Rattle.std.proofs.Common.{◌≡◌, ℕ, ◌+◌, ◌<◌, inl, inr, Bool, true, false, eqb, List, [], ◌∷◌, ◌++◌, length, drop, get_or, Option, Some, None, Ok, refl, sym, ap, ◌∙◌, arith, append_assoc, length-append, add-one, drop-cons}
use Rattle.std.specs.List.{AllByRecursion}
use Rattle.std.proofs.lemmas.Bool.{eq-eqb, eqb-true, ne_eqb, lt-ltb, ltb-true}
use Rattle.plain_text.specs.Numbers.{IsDigit, SpellsNumber, number_at}
use Rattle.aiger_codec.specs.Lines.{has_end}
use Rattle.aiger_codec.specs.Symbols.{first_end, count_of, is_named, named_line, symbol_at}
use Rattle.aiger_codec.specs.Grammar.{SpellsSymbol}
use Rattle.aiger_codec.specs.Laws.{StandsAt}
use Rattle.aiger_codec.specs.declared.symbols.Counts.{Counts}
use Rattle.plain_text.proofs.Choices.{chosen}
use Rattle.aiger_codec.proofs.Spelled.{Stands, number_takes, number_again, byte_here, byte_after, rest_after, and_both}
use Rattle.aiger_codec.proofs.DeltaSteps.{first_byte}

-- the first LF ends a name without one
record Line (bs : List ℕ) (at end : ℕ) : Type 0 where
  name : List ℕ
  rest : List ℕ
  is : bs ≡ name ++ 10 ∷ rest
  one_line : has_end name ≡ false
  ends : end ≡ at + length name

nat_is : (x y : ℕ) → Some x ≡ Some y → x ≡ y
nat_is x y e = cc

line_of : (bs : List ℕ) (at end : ℕ) → first_end bs at ≡ Some end → Line bs at end
line_of [] at end e = absurd cc
line_of (b ∷ bs) at end e =
    elim (chosen (eqb b 10) _ _ (Some end) e) [
      | inl p ↦ record { name = []; rest = bs; is = ap (λ (x : ℕ). x ∷ bs) (eqb-true _ _ p.0); one_line = refl; ends = omega (arith, nat_is at end p.1) }
      | inr p ↦
          let l = line_of bs (at + 1) end p.1 in
          let q = p.0 in
          record { name = b ∷ l.name; rest = l.rest; is = ap (λ (x : List ℕ). b ∷ x) l.is; one_line = rw q l.one_line; ends = omega (arith, l.ends) }
    ]

line_again : (name rest : List ℕ) (at : ℕ) → has_end name ≡ false → first_end (name ++ 10 ∷ rest) at ≡ Some (at + length name)
line_again [] rest at e = ap (λ (x : ℕ). Some x) (omega arith)
line_again (b ∷ name) rest at e =
    elim (chosen (eqb b 10) _ _ false e) [
      | inl p ↦ absurd (no_line p.1)
      | inr p ↦
          let h = line_again name rest (at + 1) p.1 in
          let q = p.0 in
          let k : at + 1 + length name ≡ at + length (b ∷ name) = omega arith in rw q (h ∙ ap (λ (x : ℕ). Some x) k)
    ]
  where
    no_line : true ≡ false → ⊥
    no_line e = absurd cc

-- digits hold no LF
skip_digits : (ds rest : List ℕ) (at : ℕ) → AllByRecursion IsDigit ds → first_end (ds ++ rest) at ≡ first_end rest (at + length ds)
skip_digits [] rest at all = ap (first_end rest) (omega arith)
skip_digits (d ∷ ds) rest at all =
    let q = ne_eqb d 10 (λ h. omega (arith, all.0)) in
    let k : at + 1 + length ds ≡ at + length (d ∷ ds) = omega arith in
    rw q (skip_digits ds rest (at + 1) all.1 ∙ ap (first_end rest) k)

-- before the name stand the kind, the number and a space
skip_front : (kind : ℕ) (ds rest : List ℕ) (at : ℕ) → (kind ≡ 10 → ⊥) → AllByRecursion IsDigit ds → first_end (kind ∷ (ds ++ 32 ∷ rest)) at ≡ first_end rest (at + length ds + 2)
skip_front kind ds rest at ne all =
    let q = ne_eqb kind 10 ne in
    let k : at + 1 + length ds + 1 ≡ at + length ds + 2 = omega arith in
    rw q (skip_digits ds (32 ∷ rest) (at + 1) all ∙ ap (first_end rest) k)

-- only three kinds have positions
kind_is : (counts : Counts) (kind position : ℕ) → position < count_of counts kind → (kind ≡ 10 → ⊥) × (kind ≡ 99 → ⊥)
kind_is counts kind position lt = (
  λ e. let h : count_of counts kind ≡ count_of counts 10 = ap (count_of counts) e in absurd (omega (arith, h)),
  λ e. let h : count_of counts kind ≡ count_of counts 99 = ap (count_of counts) e in absurd (omega (arith, h)),
)

-- ---- one symbol

named_is : (at after : ℕ) (fits : Bool) (r : Option ℕ) → named_line at fits r ≡ Ok after → (end : ℕ) × (r ≡ Some end) × (fits ≡ true) × (end + 1 ≡ after)
named_is at after fits None e = absurd cc
named_is at after true (Some end) e = (end, refl, refl, cc)
named_is at after false (Some end) e = absurd cc

is_named_is : (count : ℕ) (bytes : List ℕ) (r : Option (ℕ × ℕ)) → is_named count bytes r ≡ true → (n : ℕ × ℕ) × (r ≡ Some n) × (n.0 < count) × (get_or bytes n.1 0 ≡ 32)
is_named_is count bytes None e = absurd cc
is_named_is count bytes (Some n) e = let p = and_both _ _ e in (n, refl, ltb-true _ _ p.0, eqb-true _ _ p.1)

parts : (ds name rest : List ℕ) → ds ++ 32 ∷ (name ++ 10 ∷ rest) ≡ (ds ++ 32 ∷ (name ++ 10 ∷ [])) ++ rest
parts ds name rest = sym (append_assoc ds (32 ∷ (name ++ 10 ∷ [])) rest ∙ ap (λ (l : List ℕ). ds ++ 32 ∷ l) (append_assoc name (10 ∷ []) rest))

parts_length : (ds name : List ℕ) → length (ds ++ 32 ∷ (name ++ 10 ∷ [])) ≡ length ds + length name + 2
parts_length ds name = omega (arith, length-append ds (32 ∷ (name ++ 10 ∷ [])), length-append name (10 ∷ []))

-- what a symbol line that was read is made of
made_of : (counts : Counts) (bytes : List ℕ) (at end after position place : ℕ) (number : List ℕ) → at < length bytes → position < count_of counts (get_or bytes at 0) → SpellsNumber number position
    → drop (at + 1) bytes ≡ number ++ drop place bytes → place ≡ at + 1 + length number → get_or bytes place 0 ≡ 32 → first_end (drop at bytes) at ≡ Some end → end + 1 ≡ after
    → (text : List ℕ) × SpellsSymbol counts text × StandsAt bytes at text after (drop after bytes)
made_of counts bytes at end after position place number within there spelled is place_is space ended after_is =
    let kind = get_or bytes at 0 in
    let first : drop at bytes ≡ kind ∷ drop (at + 1) bytes = rw add-one (drop-cons bytes at 0 within) in
    let here = byte_here bytes place 32 space (omega arith) in
    let front : drop at bytes ≡ kind ∷ (number ++ 32 ∷ drop (place + 1) bytes) = first ∙ ap (λ (l : List ℕ). kind ∷ l) (is ∙ ap (λ (l : List ℕ). number ++ l) here) in
    let skipped = skip_front kind number (drop (place + 1) bytes) at ((kind_is counts kind position there).0) spelled.digits in
    let line = line_of (drop (place + 1) bytes) (at + length number + 2) end (sym skipped ∙ sym (ap (λ (l : List ℕ). first_end l at) front) ∙ ended) in
    let rest = rest_after bytes (place + 1) line.name 10 line.rest (record { is = line.is }) in
    let place_after : place + 1 + length line.name + 1 ≡ after = omega (arith, line.ends) in
    let left : line.rest ≡ drop after bytes = sym rest ∙ ap (λ (k : ℕ). drop k bytes) place_after in (
      kind ∷ (number ++ 32 ∷ (line.name ++ 10 ∷ [])),
      record { kind = kind; number = number; position = position; name = line.name; is = refl; spelled = spelled; there = there; one_line = line.one_line },
      record {
        is = front ∙ ap (λ (l : List ℕ). kind ∷ (number ++ 32 ∷ l)) line.is ∙ ap (λ (l : List ℕ). kind ∷ l) (parts number line.name line.rest)
            ∙ ap (λ (l : List ℕ). (kind ∷ (number ++ 32 ∷ (line.name ++ 10 ∷ []))) ++ l) left;
        ends = omega (arith, line.ends, parts_length number line.name);
      },
    )

pub symbol_spelled : (counts : Counts) (bytes : List ℕ) (at after : ℕ) → at < length bytes → symbol_at counts bytes at ≡ Ok after
    → (text : List ℕ) × SpellsSymbol counts text × StandsAt bytes at text after (drop after bytes)
unfolding symbol_at
symbol_spelled counts bytes at after within e =
    let line = named_is at after (is_named (count_of counts (get_or bytes at 0)) bytes (number_at bytes (at + 1))) (first_end (drop at bytes) at) e in
    let named = is_named_is (count_of counts (get_or bytes at 0)) bytes (number_at bytes (at + 1)) line.2 in
    let t = number_takes bytes (at + 1) named.0.0 named.0.1 named.1 in
    made_of counts bytes at line.0 after named.0.0 named.0.1 t.0 within named.2 t.1 t.2.is t.3 named.3 line.1 line.3

pub symbol_read : (counts : Counts) (bytes : List ℕ) (at end : ℕ) (text rest : List ℕ) → SpellsSymbol counts text → StandsAt bytes at text end rest
    → (at < length bytes) × (get_or bytes at 0 ≡ 99 → ⊥) × (symbol_at counts bytes at ≡ Ok end)
unfolding symbol_at
symbol_read counts bytes at end text rest s stands =
    let is : drop at bytes ≡ s.kind ∷ (s.number ++ 32 ∷ (s.name ++ 10 ∷ rest)) = stands.is ∙ ap (λ (l : List ℕ). l ++ rest) s.is ∙ ap (λ (l : List ℕ). s.kind ∷ l) (sym (parts s.number s.name rest)) in
    let first = first_byte bytes at s.kind (s.number ++ 32 ∷ (s.name ++ 10 ∷ rest)) is in
    let kinds = kind_is counts s.kind s.position s.there in
    let now : Stands bytes (at + 1) s.number (32 ∷ (s.name ++ 10 ∷ rest)) = record { is = first.2 } in
    let number = number_again bytes (at + 1) s.number s.position 32 (s.name ++ 10 ∷ rest) s.spelled refl now in
    let space = eq-eqb _ _ (byte_after bytes (at + 1) s.number 32 (s.name ++ 10 ∷ rest) now) in
    let there = lt-ltb _ _ s.there in
    let line = ap (λ (l : List ℕ). first_end l at) is ∙ skip_front s.kind s.number (s.name ++ 10 ∷ rest) at kinds.0 s.spelled.digits ∙ line_again s.name rest (at + length s.number + 2) s.one_line in
    let after : at + length s.number + 2 + length s.name + 1 ≡ end = omega (arith, stands.ends, ap length s.is, parts_length s.number s.name) in
    (first.0, λ e. kinds.1 (sym first.1 ∙ e), rw (first.1, number, there, space, line) (ap (λ (k : ℕ). Ok k) after))
