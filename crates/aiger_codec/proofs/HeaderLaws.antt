-- The header, both ways.
use Rattle.std.proofs.Common.{◌≡◌, ℕ, ◌+◌, ◌<◌, ◌≤◌, inl, inr, Bool, true, false, not, cond, eqb, leb, ◌||◌, List, ◌∷◌, ◌++◌, length, drop, get_or, Option, Some, None, Result, Ok, Err, refl, sym, ap, subst, ◌∙◌, arith, append_assoc, length-append}
use Rattle.std.proofs.lemmas.Bool.{eqb-true, leb-true, leb-false}
use Rattle.aiger_codec.specs.Lines.{has_end, numbers_at}
use Rattle.aiger_codec.specs.Header.{begins, form_of, header_numbers, miscounts, refused, read_as, checked, numbered, formed, header_at, IsWithinLimits}
use Rattle.aiger_codec.specs.Grammar.{SaysHeader, SpellsHeader, magic}
use Rattle.aiger_codec.specs.Laws.{StandsAt}
use Rattle.aiger_codec.specs.declared.fault.NetFault.{NetFault}
use Rattle.aiger_codec.specs.declared.fault.NetKind.{NetKind}
use Rattle.aiger_codec.specs.declared.header.Header.{Header}
use Rattle.plain_text.proofs.Choices.{chosen}
use Rattle.aiger_codec.proofs.Spelled.{byte_here, line_takes, and_both}
use Rattle.aiger_codec.proofs.LineLaws.{no_more}

-- a check that was passed
passed : (b : Bool) (kind : NetKind) (r : Result Header NetFault) (h : Header) → cond b (refused kind) r ≡ Ok h → (b ≡ false) × (r ≡ Ok h)
passed true kind r h e = absurd cc
passed false kind r h e = (refl, e)

not_false : (b : Bool) → not b ≡ false → b ≡ true
not_false true e = refl
not_false false e = absurd cc

is_zero : (n : ℕ) → not (eqb n 0) ≡ false → n ≡ 0
is_zero n e = eqb-true n 0 (not_false (eqb n 0) e)

both_false : (a b : Bool) → (a || b) ≡ false → (a ≡ false) × (b ≡ false)
both_false true b e = absurd cc
both_false false b e = (refl, e)

counts : (binary : Bool) (m sum : ℕ) → miscounts binary m sum ≡ false → (sum ≤ m) × (binary ≡ true → sum ≡ m)
counts true m sum e = let h = eqb-true sum m (not_false (eqb sum m) e) in (omega arith, λ _. h)
counts false m sum e = (leb-true sum m (not_false (leb sum m) e), λ f. absurd cc)

abbrev found : Header → Result Header NetFault
found h = Ok h

same_header : (x y : Header) → found x ≡ found y → x ≡ y
same_header x y e = cc

-- what the checks leave
record Checked (binary : Bool) (ns : List ℕ) (end : ℕ) (h : Header) : Type 0 where
  says : length ns ≤ 9 → 5 ≤ length ns → SaysHeader ns h
  limits : IsWithinLimits h
  form : h.binary ≡ binary
  all : h.binary ≡ true → h.i + h.l + h.a ≡ h.m
  end_is : h.end ≡ end

checks : (binary : Bool) (ns : List ℕ) (end : ℕ) (h : Header) → checked binary ns end ≡ Ok h → Checked binary ns end h
unfolding checked
checks binary ns end h e =
    let p = passed _ _ _ h e in
    let q = passed _ _ _ h p.1 in
    let r = passed _ _ _ h q.1 in
    let s = passed _ _ _ h r.1 in
    let t = passed _ _ _ h s.1 in
    let u = passed _ _ _ h t.1 in
    let limits = both_false _ _ t.0 in
    let count = counts binary _ _ u.0 in
    let few : get_or ns 0 0 < 1000001 = leb-false 1000001 (get_or ns 0 0) limits.0 in
    let some : get_or ns 3 0 < 1000001 = leb-false 1000001 (get_or ns 3 0) limits.1 in
    let is : read_as binary ns end ≡ h = same_header _ _ u.1 in
    subst (Checked binary ns end) is
    (record {
      says = λ most least. record {
        least = least;
        most = most;
        m = refl;
        i = refl;
        l = refl;
        o = refl;
        a = refl;
        bad = is_zero _ p.0;
        constraint = is_zero _ q.0;
        justice = is_zero _ r.0;
        fairness = is_zero _ s.0;
      };
      limits = record { variables = omega (arith, few); outputs = omega (arith, some); sections = count.0 };
      form = refl;
      all = count.1;
      end_is = refl;
    })

-- what is left of a header that was read
formed_is : (bytes : List ℕ) (r : Option Bool) (h : Header) → formed bytes r ≡ Ok h → (binary : Bool) × (r ≡ Some binary) × (numbered binary (header_numbers bytes) ≡ Ok h)
formed_is bytes None h e = absurd cc
formed_is bytes (Some binary) h e =
    elim (chosen (has_end bytes) _ _ (found h) e) [
      | inl p ↦ (binary, refl, p.1)
      | inr p ↦ absurd (no_header p.1)
    ]
  where
    no_header : {f : NetFault} → Err f ≡ found h → ⊥
    no_header e = cc

numbered_is : (binary : Bool) (r : Option (List ℕ × ℕ)) (h : Header) → numbered binary r ≡ Ok h
    → (x : List ℕ × ℕ) × (r ≡ Some x) × (5 ≤ length x.0) × (checked binary x.0 x.1 ≡ Ok h)
numbered_is binary None h e = absurd cc
numbered_is binary (Some x) h e =
    elim (chosen (leb 5 (length x.0)) _ _ (found h) e) [
      | inl p ↦ (x, refl, leb-true _ _ p.0, p.1)
      | inr p ↦ absurd (no_header p.1)
    ]
  where
    no_header : {f : NetFault} → Err f ≡ found h → ⊥
    no_header e = cc

numbers_are : (bytes : List ℕ) (x : List ℕ × ℕ) → header_numbers bytes ≡ Some x → (get_or bytes 3 0 ≡ 32) × (numbers_at 9 bytes 4 ≡ Some x)
unfolding header_numbers
numbers_are bytes x e =
    elim (chosen (eqb (get_or bytes 3 0) 32) _ _ (Some x) e) [
      | inl p ↦ (eqb-true _ _ p.0, p.1)
      | inr p ↦ absurd (no_some p.1)
    ]
  where
    no_some : None ≡ Some x → ⊥
    no_some e = cc

abbrev second : Bool → ℕ
second true = 105
second false = 97

begins_is : (bytes : List ℕ) (n : ℕ) → begins bytes n ≡ true → (get_or bytes 0 0 ≡ 97) × (get_or bytes 1 0 ≡ n) × (get_or bytes 2 0 ≡ 103)
begins_is bytes n e =
    let p = and_both _ _ e in
    let q = and_both _ _ p.0 in
    (eqb-true _ _ q.0, eqb-true _ _ q.1, eqb-true _ _ p.1)

some_bool : (a b : Bool) → Some a ≡ Some b → a ≡ b
some_bool a b e = cc

form_is : (bytes : List ℕ) (binary : Bool) → form_of bytes ≡ Some binary → (get_or bytes 0 0 ≡ 97) × (get_or bytes 1 0 ≡ second binary) × (get_or bytes 2 0 ≡ 103)
form_is bytes binary e =
    elim (chosen (begins bytes 105) _ _ (Some binary) e) [
      | inl p ↦ let h = begins_is bytes 105 p.0 in (h.0, h.1 ∙ ap second (some_bool true binary p.1), h.2)
      | inr p ↦
          elim (chosen (begins bytes 97) _ _ (Some binary) p.1) [
            | inl q ↦ let h = begins_is bytes 97 q.0 in (h.0, h.1 ∙ ap second (some_bool false binary q.1), h.2)
            | inr q ↦ absurd (no_some q.1)
          ]
    ]
  where
    no_some : None ≡ Some binary → ⊥
    no_some e = cc

-- the first four bytes
magic_here : (bytes : List ℕ) (binary : Bool) → (get_or bytes 0 0 ≡ 97) × (get_or bytes 1 0 ≡ second binary) × (get_or bytes 2 0 ≡ 103) → get_or bytes 3 0 ≡ 32
    → drop 0 bytes ≡ magic binary ++ drop 4 bytes
magic_here bytes true h e =
    byte_here bytes 0 97 h.0 (omega arith) ∙ ap (λ (l : List ℕ). 97 ∷ l) (byte_here bytes 1 105 h.1 (omega arith)
    ∙ ap (λ (l : List ℕ). 105 ∷ l) (byte_here bytes 2 103 h.2 (omega arith) ∙ ap (λ (l : List ℕ). 103 ∷ l) (byte_here bytes 3 32 e (omega arith))))
magic_here bytes false h e =
    byte_here bytes 0 97 h.0 (omega arith) ∙ ap (λ (l : List ℕ). 97 ∷ l) (byte_here bytes 1 97 h.1 (omega arith)
    ∙ ap (λ (l : List ℕ). 97 ∷ l) (byte_here bytes 2 103 h.2 (omega arith) ∙ ap (λ (l : List ℕ). 103 ∷ l) (byte_here bytes 3 32 e (omega arith))))

pub four : (binary : Bool) → length (magic binary) ≡ 4
four true = refl
four false = refl

pub header_spelled : (bytes : List ℕ) (h : Header) → header_at bytes ≡ Ok h → (text : List ℕ) × SpellsHeader text h × StandsAt bytes 0 text h.end (drop h.end bytes)
unfolding header_at
header_spelled bytes h e =
    let f = formed_is bytes (form_of bytes) h e in
    let n = numbered_is f.0 (header_numbers bytes) h f.2 in
    let x = n.0 in
    let k = checks f.0 x.0 x.1 h n.3 in
    let line = numbers_are bytes x n.1 in
    let t = line_takes 9 bytes 4 x line.1 in
    let form : form_of bytes ≡ Some h.binary = f.1 ∙ ap Some (sym k.form) in
    let first = magic_here bytes h.binary (form_is bytes h.binary form) line.0 in (
      magic h.binary ++ t.0,
      record { line = t.0; numbers = x.0; is = refl; spelled = t.1; says = k.says (no_more 9 bytes 4 x line.1) n.2; limits = k.limits; all = k.all },
      record {
        is = first ∙ ap (λ (l : List ℕ). magic h.binary ++ l) (t.2.is ∙ ap (λ (j : ℕ). t.0 ++ drop j bytes) (sym k.end_is)) ∙ sym (append_assoc (magic h.binary) t.0 (drop h.end bytes));
        ends = omega (arith, k.end_is, t.3, length-append (magic h.binary) t.0, four h.binary);
      },
    )
