-- The bits that spell a path, and their order.
use Rattle.std.proofs.Common.{◌≡◌, ◌∙◌, ◌<◌, ◌≤◌, ◌+◌, ◌-◌, ◌*◌, ◌++◌, ◌⊎◌, ℕ, zero, suc, List, [], ◌∷◌, length, get_or, inl, inr, refl, sym, ap, ap₂, subst, arith, Bool, true, false, length-append, ext_get_or}
use Rattle.std.specs.Prelude.{flat_map}
use Rattle.std.specs.List.{All}
use Rattle.std.proofs.lemmas.Bool.{cases_lt}
use Rattle.std.proofs.lemmas.List.{get_or_append_left, get_or-append_right}
use Rattle.std.proofs.lemmas.List.Elements.{All-head, All-tail}
use Rattle.circ_model.specs.Meaning.{Pair, Path, IsInputRow, IsPath, bit, inputs_at, latches_of}
use Rattle.induction_base.specs.Spelling.{ComesBefore, SameBelow, spelled}

abbrev pub joined : List (List Bool) → List Bool
joined rows = flat_map (λ (row : List Bool). row) rows

length_joined : (pair : Pair) (rows : List (List Bool)) → All (IsInputRow pair) rows → length (joined rows) ≡ length rows * length pair.left.inputs
length_joined pair [] wide = omega arith
length_joined pair (r ∷ rs) wide =
    let h = length_joined pair rs (All-tail (IsInputRow pair) r rs wide) in
    let e = All-head (IsInputRow pair) r rs wide in
    let a = length-append r (joined rs) in
    omega arith

joined_bit : (pair : Pair) (rows : List (List Bool)) (t i : ℕ) → All (IsInputRow pair) rows → t < length rows → i < length pair.left.inputs → bit (joined rows) (t * length pair.left.inputs + i) ≡ bit (get_or rows t []) i
joined_bit pair [] t i wide lt less = absurd (omega arith)
joined_bit pair (r ∷ rs) zero i wide lt less =
    let e = All-head (IsInputRow pair) r rs wide in
    let z : 0 * length pair.left.inputs + i ≡ i = omega arith in
    ap (bit (r ++ joined rs)) z ∙ get_or_append_left r (joined rs) false i (omega arith)
joined_bit pair (r ∷ rs) (suc t) i wide lt less =
    let w : ℕ = length pair.left.inputs in
    let e = All-head (IsInputRow pair) r rs wide in
    let le : w ≤ suc t * w + i = omega arith in
    let d : suc t * w + i - w ≡ t * w + i = omega arith in
    get_or-append_right r (joined rs) w (suc t * w + i) false e le ∙ ap (bit (joined rs)) d ∙ joined_bit pair rs t i (All-tail (IsInputRow pair) r rs wide) (omega arith) less

pub length_spelled : (pair : Pair) (path : Path) → IsPath pair path → length (spelled path) ≡ latches_of pair + length path.inputs * length pair.left.inputs
length_spelled pair path is =
    let s = is.start in
    let a = length-append path.start (joined path.inputs) in
    let j = length_joined pair path.inputs is.inputs in
    omega arith

-- a start bit
pub spelled_start : (pair : Pair) (path : Path) (i : ℕ) → IsPath pair path → i < latches_of pair → bit (spelled path) i ≡ bit path.start i
spelled_start pair path i is lt = let s = is.start in get_or_append_left path.start (joined path.inputs) false i (omega arith)

-- a bit of an input row
pub spelled_input : (pair : Pair) (path : Path) (t i : ℕ) → IsPath pair path → t < length path.inputs → i < length pair.left.inputs → bit (spelled path) (latches_of pair + (t * length pair.left.inputs + i)) ≡ bit (inputs_at path t) i
spelled_input pair path t i is lt less =
    let at : ℕ = t * length pair.left.inputs + i in
    let d : latches_of pair + at - latches_of pair ≡ at = omega arith in
    get_or-append_right path.start (joined path.inputs) (latches_of pair) (latches_of pair + at) false is.start (omega arith) ∙ ap (bit (joined path.inputs)) d ∙ joined_bit pair path.inputs t i is.inputs lt less

-- up to one more position
pub same_more : (i : ℕ) (a b : List Bool) → SameBelow i a b → bit a i ≡ bit b i → SameBelow (i + 1) a b
same_more i a b same here k lt = elim (cases_lt k i) [
  | inl less ↦ same k less
  | inr more ↦ let e : i ≡ k = omega arith in subst (λ (n : ℕ). bit a n ≡ bit b n) e here
]

pub same_less : (i : ℕ) (a b : List Bool) → SameBelow (i + 1) a b → SameBelow i a b
same_less i a b same k lt = same k (omega arith)

pub same_through : (i : ℕ) (a b c : List Bool) → SameBelow i a b → SameBelow i b c → SameBelow i a c
same_through i a b c one two k lt = one k lt ∙ two k lt

pub same_back : (i : ℕ) (a b : List Bool) → SameBelow i a b → SameBelow i b a
same_back i a b same k lt = sym (same k lt)

-- one of two lists comes before the other, or they have the same bits
abbrev pub AreOrdered : ℕ → List Bool → List Bool → Type 0
AreOrdered n a b = SameBelow n a b ⊎ (ComesBefore a b ⊎ ComesBefore b a)

next_bit : (n : ℕ) (a b : List Bool) (x y : Bool) → bit a n ≡ x → bit b n ≡ y → n < length a → n < length b → SameBelow n a b → AreOrdered (n + 1) a b
next_bit n a b true true p q la lb same = inl (same_more n a b same (p ∙ sym q))
next_bit n a b false false p q la lb same = inl (same_more n a b same (p ∙ sym q))
next_bit n a b false true p q la lb same = inr (inl (n, lb, same, p, q))
next_bit n a b true false p q la lb same = inr (inr (n, la, same_back n a b same, q, p))

pub ordered : (n : ℕ) (a b : List Bool) → n ≤ length a → n ≤ length b → AreOrdered n a b
ordered zero a b la lb = inl (λ k lt. absurd (omega arith))
ordered (suc n) a b la lb = elim (ordered n a b (omega arith) (omega arith)) [
  | inl same ↦ let one : n + 1 ≡ suc n = omega arith in subst (λ (m : ℕ). AreOrdered m a b) one (next_bit n a b (bit a n) (bit b n) refl refl (omega arith) (omega arith) same)
  | inr other ↦ inr other
]

-- paths that are spelled by the same bits are one
rows_equal : (pair : Pair) (a b : Path) → IsPath pair a → IsPath pair b → length a.inputs ≡ length b.inputs → spelled a ≡ spelled b → a.inputs ≡ b.inputs
rows_equal pair a b one two rows e = ext_get_or [] a.inputs b.inputs rows (λ t lt.
    let lb : t < length b.inputs = omega arith in
    let wa : length (get_or a.inputs t []) ≡ length pair.left.inputs = one.inputs t [] lt in
    let wb : length (get_or b.inputs t []) ≡ length pair.left.inputs = two.inputs t [] lb in
    ext_get_or false (get_or a.inputs t []) (get_or b.inputs t []) (wa ∙ sym wb) (λ i less.
    let in' : i < length pair.left.inputs = omega arith in
    sym (spelled_input pair a t i one lt in') ∙ ap (λ (bits : List Bool). bit bits (latches_of pair + (t * length pair.left.inputs + i))) e ∙ spelled_input pair b t i two lb in'))

starts_equal : (pair : Pair) (a b : Path) → IsPath pair a → IsPath pair b → spelled a ≡ spelled b → a.start ≡ b.start
starts_equal pair a b one two e = ext_get_or false a.start b.start (one.start ∙ sym two.start) (λ i lt.
    let s = one.start in
    let in' : i < latches_of pair = omega arith in
    sym (spelled_start pair a i one in') ∙ ap (λ (bits : List Bool). bit bits i) e ∙ spelled_start pair b i two in')

pub spelled_once : (pair : Pair) (a b : Path) → IsPath pair a → IsPath pair b → length a.inputs ≡ length b.inputs → spelled a ≡ spelled b → a ≡ b
spelled_once pair a b one two rows e = ap₂ (λ (s : List Bool) (r : List (List Bool)). record { start = s; inputs = r }) (starts_equal pair a b one two e) (rows_equal pair a b one two rows e)
