-- A header that is spelled is read.
use Rattle.std.proofs.Common.{◌≡◌, ℕ, ◌+◌, ◌≤◌, Bool, true, false, leb, List, ◌++◌, length, drop, Some, Ok, refl, sym, ap, ◌∙◌, arith, append_assoc, length-append}
use Rattle.std.proofs.lemmas.Bool.{eq-eqb, le-leb, lt-leb}
use Rattle.aiger_codec.specs.Lines.{numbers_at}
use Rattle.aiger_codec.specs.Header.{form_of, header_numbers, miscounts, checked, header_at, IsWithinLimits}
use Rattle.aiger_codec.specs.Grammar.{SpellsLine, SaysHeader, SpellsHeader, magic}
use Rattle.aiger_codec.specs.Laws.{StandsAt}
use Rattle.aiger_codec.specs.declared.header.Header.{Header}
use Rattle.aiger_codec.proofs.Spelled.{line_again}
use Rattle.aiger_codec.proofs.HeaderLine.{header_read}
use Rattle.aiger_codec.proofs.HeaderLaws.{four}

no_miscount : (binary : Bool) (m sum : ℕ) → sum ≤ m → (binary ≡ true → sum ≡ m) → miscounts binary m sum ≡ false
no_miscount true m sum le all = let e = eq-eqb sum m (all refl) in rw e refl
no_miscount false m sum le all = let e = le-leb sum m le in rw e refl

checks_again : (ns : List ℕ) (h : Header) → SaysHeader ns h → IsWithinLimits h → (h.binary ≡ true → h.i + h.l + h.a ≡ h.m) → checked h.binary ns h.end ≡ Ok h
unfolding checked
checks_again ns h s limits all =
    let a : leb 1000001 h.m ≡ false = lt-leb _ _ (omega (arith, limits.variables)) in
    let b : leb 1000001 h.o ≡ false = lt-leb _ _ (omega (arith, limits.outputs)) in
    let c = no_miscount h.binary h.m (h.i + h.l + h.a) limits.sections all in
    rw (s.bad, s.constraint, s.justice, s.fairness, s.m, s.o, a, b, s.i, s.l, s.a, c) refl

form_again : (binary : Bool) (l : List ℕ) → form_of (magic binary ++ l) ≡ Some binary
form_again true l = refl
form_again false l = refl

numbers_again : (binary : Bool) (l : List ℕ) → (header_numbers (magic binary ++ l) ≡ numbers_at 9 (magic binary ++ l) 4) × (drop 4 (magic binary ++ l) ≡ l)
unfolding header_numbers
numbers_again true l = (refl, refl)
numbers_again false l = (refl, refl)

header_again : (h : Header) (line ns rest : List ℕ) → SpellsLine line ns → SaysHeader ns h → IsWithinLimits h → (h.binary ≡ true → h.i + h.l + h.a ≡ h.m) → h.end ≡ 4 + length line
    → header_at (magic h.binary ++ (line ++ rest)) ≡ Ok h
header_again h line ns rest spelled says limits all end =
    let bytes = magic h.binary ++ (line ++ rest) in
    let n = numbers_again h.binary (line ++ rest) in
    let numbers = n.0 ∙ line_again ns 9 bytes 4 line rest says.most spelled (record { is = n.1 }) in
    header_read bytes h.binary (ns, 4 + length line) (form_again h.binary (line ++ rest)) numbers says.least
    ∙ ap (λ (k : ℕ). checked h.binary ns k) (sym end) ∙ checks_again ns h says limits all

pub header_is_read : (bytes : List ℕ) (h : Header) (text rest : List ℕ) → SpellsHeader text h → StandsAt bytes 0 text h.end rest → header_at bytes ≡ Ok h
header_is_read bytes h text rest s stands =
    let is : bytes ≡ magic h.binary ++ (s.line ++ rest) = stands.is ∙ ap (λ (l : List ℕ). l ++ rest) s.is ∙ append_assoc (magic h.binary) s.line rest in
    let end : h.end ≡ 4 + length s.line = omega (arith, stands.ends, ap length s.is, length-append (magic h.binary) s.line, four h.binary) in
    ap header_at is ∙ header_again h s.line s.numbers rest s.spelled s.says s.limits s.all end
