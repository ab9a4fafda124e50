-- How digits are read one after the other.
use Rattle.std.proofs.Common.{◌≡◌, ℕ, suc, ◌+◌, ◌-◌, ◌*◌, ◌<◌, ◌≤◌, ◌⊎◌, ap₂, true, false, leb, List, [], ◌∷◌, length, drop, get_or, Some, None, refl, sym, ap, ◌∙◌, arith, add-one, drop-cons}
use Rattle.std.proofs.lemmas.Bool.{le-leb}
use Rattle.std.proofs.Math.ListN.{drop_of_length-le}
use Rattle.std.proofs.lemmas.Bool.Decides.{nat_tests}
use Rattle.plain_text.specs.Numbers.{is_digit, digits, value_from, capped, number_of, number_at}

abbrev pub digits_at : List ℕ → ℕ → List ℕ
digits_at bytes at = digits (drop at bytes)

pub digit_here : (bytes : List ℕ) (i : ℕ) → i < length bytes → 48 ≤ get_or bytes i 0 → get_or bytes i 0 ≤ 57 → digits_at bytes i ≡ get_or bytes i 0 ∷ digits_at bytes (i + 1)
digit_here bytes i lt low high =
    let d : drop i bytes ≡ get_or bytes i 0 ∷ drop (i + 1) bytes = rw add-one (drop-cons bytes i 0 lt) in
    let a : leb 48 (get_or bytes i 0) ≡ true = le-leb _ _ low in
    let b : leb (get_or bytes i 0) 57 ≡ true = le-leb _ _ high in
    ap digits d ∙ rw (a, b) refl

not_digit : (b : ℕ) → (b < 48) ⊎ (57 < b) → is_digit b ≡ false
not_digit b h = grind (arith, nat_tests)

pub no_digit_here : (bytes : List ℕ) (i : ℕ) → i < length bytes → (get_or bytes i 0 < 48) ⊎ (57 < get_or bytes i 0) → digits_at bytes i ≡ []
no_digit_here bytes i lt h =
    let d : drop i bytes ≡ get_or bytes i 0 ∷ drop (i + 1) bytes = rw add-one (drop-cons bytes i 0 lt) in
    let a : is_digit (get_or bytes i 0) ≡ false = not_digit _ h in
    ap digits d ∙ rw a refl

pub no_digit_past : (bytes : List ℕ) (i : ℕ) → length bytes ≤ i → digits_at bytes i ≡ []
no_digit_past bytes i le = ap digits (drop_of_length-le bytes le)

-- numbers that count alike go on alike
pub alike : (ds : List ℕ) (a b : ℕ) → capped a ≡ capped b → capped (value_from a ds) ≡ capped (value_from b ds)
alike [] a b e = e
alike (d ∷ ds) a b e = alike ds (10 * a + (d - 48)) (10 * b + (d - 48)) (omega arith)

-- what has been read so far
pub record Reads (bytes : List ℕ) (start now read : ℕ) : Type 0 where
  pub order : start ≤ now
  pub within : now ≤ length bytes
  pub small : read ≤ 4294967295
  pub len : now + length (digits_at bytes now) ≡ start + length (digits_at bytes start)
  pub value : capped (value_from read (digits_at bytes now)) ≡ capped (value_from 0 (digits_at bytes start))

pub reads_none : (bytes : List ℕ) (start : ℕ) → start < length bytes → Reads bytes start start 0
reads_none bytes start lt = record { order = omega arith; within = omega arith; small = omega arith; len = refl; value = refl }

pub reads_digit : (bytes : List ℕ) (start i value next : ℕ) → Reads bytes start i value → i < length bytes → 48 ≤ get_or bytes i 0 → get_or bytes i 0 ≤ 57
    → next ≡ capped (10 * value + (get_or bytes i 0 - 48)) → Reads bytes start (i + 1) next
reads_digit bytes start i value next r lt low high is =
    let d = digit_here bytes i lt low high in
    let l : length (digits_at bytes i) ≡ suc (length (digits_at bytes (i + 1))) = ap length d in
    let v : value_from value (digits_at bytes i) ≡ value_from (10 * value + (get_or bytes i 0 - 48)) (digits_at bytes (i + 1)) = ap (value_from value) d in
    let c : capped next ≡ capped (10 * value + (get_or bytes i 0 - 48)) = omega arith in
    record {
      order = omega (arith, r.order);
      within = omega arith;
      small = omega arith;
      len = omega (arith, r.len);
      value = alike (digits_at bytes (i + 1)) _ _ c ∙ sym (ap capped v) ∙ r.value;
    }

number_is : (ds : List ℕ) (at end : ℕ) (value : ℕ) → at < end → end ≡ at + length ds → value ≡ capped (value_from 0 ds) → number_of ds at ≡ Some (value, end)
number_is [] at end value lt e v = absurd (omega arith)
number_is (d ∷ ds) at end value lt e v = ap₂ (λ (a b : ℕ). Some (a, b)) (sym v) (sym e)

-- where no digit follows
pub number_read : (bytes : List ℕ) (start end value : ℕ) → Reads bytes start end value → digits_at bytes end ≡ [] → start < end → number_at bytes start ≡ Some (value, end)
unfolding number_at
number_read bytes start end value r none lt =
    let n : length (digits_at bytes end) ≡ 0 = ap length none in
    let v : value_from value (digits_at bytes end) ≡ value = ap (value_from value) none in
    number_is (digits_at bytes start) start end value lt (omega (arith, r.len)) (omega (arith, r.small, r.value, ap capped v))

pub no_number : (bytes : List ℕ) (start : ℕ) → digits_at bytes start ≡ [] → number_at bytes start ≡ None
unfolding number_at
no_number bytes start none = ap (λ (ds : List ℕ). number_of ds start) none
