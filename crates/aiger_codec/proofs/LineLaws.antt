-- Numbers and lines, both ways.
use Rattle.std.proofs.Common.{◌≡◌, ℕ, zero, suc, ◌+◌, ◌≤◌, inl, inr, leb, List, [], ◌∷◌, ◌++◌, length, drop, Option, Some, None, Result, Ok, Err, refl, sym, ap, subst, ◌∙◌, arith}
use Rattle.std.specs.List.{AllByRecursion}
use Rattle.std.proofs.lemmas.Bool.{leb-true}
use Rattle.plain_text.specs.Numbers.{IsDigit, SpellsNumber, digits, number_of, number_at}
use Rattle.aiger_codec.specs.Lines.{has_end, has_count, numbers_at, line_at}
use Rattle.aiger_codec.specs.Grammar.{SpellsLine}
use Rattle.aiger_codec.specs.Laws.{StandsAt}
use Rattle.aiger_codec.specs.declared.fault.NetFault.{NetFault}
use Rattle.plain_text.proofs.Choices.{chosen}
use Rattle.aiger_codec.proofs.Ends.{first_of, others_of, line_read}
use Rattle.plain_text.proofs.Again.{is_of_digit, number_made}
use Rattle.aiger_codec.proofs.Spelled.{number_takes, line_takes, line_again}

pub no_more : (most : ℕ) (bytes : List ℕ) (at : ℕ) (x : List ℕ × ℕ) → numbers_at most bytes at ≡ Some x → length x.0 ≤ most
unfolding numbers_at
no_more zero bytes at x e = absurd cc
no_more (suc more) bytes at x e =
    let f = first_of bytes more at x e in
    elim f.goes [
      | inl p ↦ let l : length x.0 ≡ length (f.value ∷ []) = ap (λ (y : List ℕ × ℕ). length y.0) p.1 in omega arith
      | inr p ↦
          let o = others_of f.value (numbers_at more bytes (f.end + 1)) x p.1 in
          let h = no_more more bytes (f.end + 1) o.0 o.1 in
          let l : length x.0 ≡ length (f.value ∷ o.0.0) = ap (λ (y : List ℕ × ℕ). length y.0) o.2 in
          omega arith
    ]

-- a line that was read
pub record IsRead (least most : ℕ) (bytes : List ℕ) (at : ℕ) (x : List ℕ × ℕ) : Type 0 where
  pub numbers : numbers_at most bytes at ≡ Some x
  pub enough : least ≤ length x.0
  pub few : length x.0 ≤ most

abbrev done : List ℕ × ℕ → Result (List ℕ × ℕ) NetFault
done x = Ok x

ok_is : (x y : List ℕ × ℕ) → done x ≡ done y → x ≡ y
ok_is x y e = cc

counted : (least most : ℕ) (bytes : List ℕ) (at : ℕ) (x : List ℕ × ℕ) (r : Option (List ℕ × ℕ)) → numbers_at most bytes at ≡ r → has_count least at r ≡ Ok x → IsRead least most bytes at x
counted least most bytes at x None is e = absurd cc
counted least most bytes at x (Some y) is e =
    elim (chosen (leb least (length y.0)) _ _ (done x) e) [
      | inl p ↦
          let same : y ≡ x = ok_is y x p.1 in
          let numbers : numbers_at most bytes at ≡ Some x = is ∙ ap (λ (z : List ℕ × ℕ). Some z) same in
          record { numbers = numbers; enough = subst (λ (z : List ℕ × ℕ). least ≤ length z.0) same (leb-true _ _ p.0); few = no_more most bytes at x numbers }
      | inr p ↦ absurd (no_ok p.1)
    ]
  where
    no_ok : {f : NetFault} → Err f ≡ Ok x → ⊥
    no_ok e = cc

pub line_is : (least most : ℕ) (bytes : List ℕ) (at : ℕ) (x : List ℕ × ℕ) → line_at least most bytes at ≡ Ok x → IsRead least most bytes at x
unfolding line_at
line_is least most bytes at x e =
    elim (chosen (has_end (drop at bytes)) _ _ (Ok x) e) [
      | inl p ↦ counted least most bytes at x (numbers_at most bytes at) refl p.1
      | inr p ↦ absurd (no_ok p.1)
    ]
  where
    no_ok : {f : NetFault} → Err f ≡ Ok x → ⊥
    no_ok e = cc

pub number_spelled : (bytes : List ℕ) (at n end : ℕ) → number_at bytes at ≡ Some (n, end) → (text : List ℕ) × SpellsNumber text n × StandsAt bytes at text end (drop end bytes)
number_spelled bytes at n end e = let t = number_takes bytes at n end e in (t.0, t.1, record { is = t.2.is; ends = t.3 })

digits_only : (text rest : List ℕ) → AllByRecursion IsDigit text → digits rest ≡ [] → digits (text ++ rest) ≡ text
digits_only [] rest all e = e
digits_only (d ∷ text) rest all e = let t = is_of_digit d all.0 in let h = digits_only text rest all.1 e in rw (t, h) refl

pub number_read : (bytes : List ℕ) (at n end : ℕ) (text rest : List ℕ) → SpellsNumber text n → digits rest ≡ [] → StandsAt bytes at text end rest → number_at bytes at ≡ Some (n, end)
unfolding number_at
number_read bytes at n end text rest s e stands =
    let d : digits (drop at bytes) ≡ text = ap digits stands.is ∙ digits_only text rest s.digits e in
    ap (λ (ds : List ℕ). number_of ds at) d ∙ number_made text at n s ∙ ap (λ (k : ℕ). Some (n, k)) (sym stands.ends)

pub line_spelled : (least most : ℕ) (bytes : List ℕ) (at : ℕ) (ns : List ℕ) (end : ℕ) → line_at least most bytes at ≡ Ok (ns, end)
    → (text : List ℕ) × SpellsLine text ns × StandsAt bytes at text end (drop end bytes) × (least ≤ length ns) × (length ns ≤ most)
line_spelled least most bytes at ns end e =
    let read = line_is least most bytes at (ns, end) e in
    let t = line_takes most bytes at (ns, end) read.numbers in
    (t.0, t.1, record { is = t.2.is; ends = t.3 }, read.enough, read.few)

pub line_is_read : (least most : ℕ) (bytes : List ℕ) (at : ℕ) (ns : List ℕ) (end : ℕ) (text rest : List ℕ) → SpellsLine text ns → StandsAt bytes at text end rest
    → least ≤ length ns → length ns ≤ most → line_at least most bytes at ≡ Ok (ns, end)
line_is_read least most bytes at ns end text rest s stands enough few =
    let numbers = line_again ns most bytes at text rest few s (record { is = stands.is }) in
    line_read least most bytes at (ns, end) (numbers ∙ ap (λ (k : ℕ). Some (ns, k)) (sym stands.ends)) enough
