-- Symbol lines one after the other.
use Rattle.std.proofs.Common.{◌≡◌, ℕ, zero, suc, ◌+◌, ◌<◌, ◌≤◌, ◌⊎◌, inl, inr, Bool, true, false, cond, eqb, ltb, ◌&&◌, List, [], ◌∷◌, length, drop, get_or, Option, Some, None, Result, Ok, Err, refl, sym, ◌∙◌, arith}
use Rattle.std.proofs.lemmas.Bool.{lt-ltb, le-ltb, eq-eqb, ne_eqb}
use Rattle.plain_text.proofs.Choices.{chosen}
use Rattle.aiger_codec.specs.declared.fault.NetFault.{NetFault}
use Rattle.aiger_codec.specs.declared.symbols.Counts.{Counts}
use Rattle.aiger_codec.specs.Symbols.{first_end, named_line, symbol_at, next_symbol, symbols_at}

-- what is still read gives the whole
pub record Left (counts : Counts) (bytes : List ℕ) (at : ℕ) (total : Result ℕ NetFault) : Type 0 where
  pub fuel : ℕ
  pub enough : length bytes ≤ at + fuel
  pub is : symbols_at fuel counts bytes at ≡ total

pub left_first : (counts : Counts) (bytes : List ℕ) (start : ℕ) → Left counts bytes start (symbols_at (length bytes) counts bytes start)
left_first counts bytes start = record { fuel = length bytes; enough = omega arith; is = refl }

first_end_after : (bs : List ℕ) (at end : ℕ) → first_end bs at ≡ Some end → at ≤ end
first_end_after [] at end e = absurd cc
first_end_after (b ∷ bs) at end e = elim (chosen (eqb b 10) _ _ (Some end) e) [
  | inl p ↦ let s = some_nat at end p.1 in omega arith
  | inr p ↦ let h = first_end_after bs (at + 1) end p.1 in omega arith
]
  where
    some_nat : (x y : ℕ) → Some x ≡ Some y → x ≡ y
    some_nat x y e = cc

line_after : (at : ℕ) (fits : Bool) (r : Option ℕ) (after : ℕ) → ((end : ℕ) → r ≡ Some end → at ≤ end) → named_line at fits r ≡ Ok after → at < after
line_after at fits None after h e = absurd cc
line_after at true (Some end) after h e = let s : end + 1 ≡ after = cc in let k = h end refl in omega arith
line_after at false (Some end) after h e = absurd cc

pub symbol_after : (counts : Counts) (bytes : List ℕ) (at after : ℕ) → symbol_at counts bytes at ≡ Ok after → at < after
unfolding symbol_at
symbol_after counts bytes at after e = line_after at _ (first_end (drop at bytes) at) after (λ end is. first_end_after (drop at bytes) at end is) e

pub opened : (counts : Counts) (bytes : List ℕ) (at more : ℕ) (r : Result ℕ NetFault) → at < length bytes → (get_or bytes at 0 ≡ 99 → ⊥) → symbol_at counts bytes at ≡ r → symbols_at (suc more) counts bytes at ≡ next_symbol (symbols_at more counts bytes) r
unfolding symbols_at
opened counts bytes at more r lt ne e = let t = lt-ltb at (length bytes) lt in let c = ne_eqb (get_or bytes at 0) 99 ne in rw (t, c, e) refl

pub closed : (counts : Counts) (bytes : List ℕ) (at fuel : ℕ) → (length bytes ≤ at) ⊎ (get_or bytes at 0 ≡ 99) → symbols_at fuel counts bytes at ≡ Ok at
unfolding symbols_at
closed counts bytes at zero stop = refl
closed counts bytes at (suc more) (inl le) = let t = le-ltb at (length bytes) le in rw t refl
closed counts bytes at (suc more) (inr is) = let c = eq-eqb (get_or bytes at 0) 99 is in rw c (by_test (ltb at (length bytes)))
  where
    by_test : (b : Bool) → cond (b && false) (next_symbol (symbols_at more counts bytes) (symbol_at counts bytes at)) (Ok at) ≡ Ok at
    by_test true = refl
    by_test false = refl

-- where fuel is left there is one more of it
fuel_left : (counts : Counts) (bytes : List ℕ) (at : ℕ) (total : Result ℕ NetFault) → Left counts bytes at total → at < length bytes → (more : ℕ) × (length bytes ≤ at + suc more) × (symbols_at (suc more) counts bytes at ≡ total)
fuel_left counts bytes at total left lt = step left.fuel left.enough left.is
  where
    step : (fuel : ℕ) → length bytes ≤ at + fuel → symbols_at fuel counts bytes at ≡ total → (more : ℕ) × (length bytes ≤ at + suc more) × (symbols_at (suc more) counts bytes at ≡ total)
    step zero enough is = absurd (omega arith)
    step (suc more) enough is = (more, enough, is)

pub left_more : (counts : Counts) (bytes : List ℕ) (at after : ℕ) (total : Result ℕ NetFault) → Left counts bytes at total → at < length bytes → (get_or bytes at 0 ≡ 99 → ⊥) → symbol_at counts bytes at ≡ Ok after → Left counts bytes after total
left_more counts bytes at after total left lt ne e =
    let f = fuel_left counts bytes at total left lt in
    let h = symbol_after counts bytes at after e in
    record { fuel = f.0; enough = omega (arith, f.1); is = sym (opened counts bytes at f.0 (Ok after) lt ne e) ∙ f.2 }

pub left_fails : (counts : Counts) (bytes : List ℕ) (at : ℕ) (fault : NetFault) (total : Result ℕ NetFault) → Left counts bytes at total → at < length bytes → (get_or bytes at 0 ≡ 99 → ⊥) → symbol_at counts bytes at ≡ Err fault → Err fault ≡ total
left_fails counts bytes at fault total left lt ne e =
    let f = fuel_left counts bytes at total left lt in
    sym (opened counts bytes at f.0 (Err fault) lt ne e) ∙ f.2

pub left_done : (counts : Counts) (bytes : List ℕ) (at : ℕ) (total : Result ℕ NetFault) → Left counts bytes at total → (length bytes ≤ at) ⊎ (get_or bytes at 0 ≡ 99) → Ok at ≡ total
left_done counts bytes at total left stop = sym (closed counts bytes at left.fuel stop) ∙ left.is
