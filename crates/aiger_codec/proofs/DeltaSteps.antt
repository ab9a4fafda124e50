-- Reading and writing a number of a binary body, byte by byte.
use Rattle.std.proofs.Common.{◌≡◌, ℕ, zero, suc, ◌+◌, ◌-◌, ◌*◌, ◌/◌, ◌%◌, ◌^◌, ◌<◌, ◌≤◌, ◌⊎◌, inl, inr, List, [], ◌∷◌, ◌++◌, length, drop, get_or, refl, sym, ap, ap₂, ◌∙◌, arith, append_assoc, pow-suc}
use Rattle.std.proofs.lemmas.Bool.{lt-ltb, le-ltb, cases_lt}
use Rattle.std.proofs.Math.Nat.{mul-le-mul_left, mul-le-mul_right}
use Rattle.std.proofs.lemmas.List.{get_or-drop, drop-drop, length-drop}
use Rattle.aiger_codec.specs.declared.delta.Delta.{Delta}
use Rattle.aiger_codec.specs.declared.delta.Delta.TheVariants.{Value, Cut, Wide}
use Rattle.aiger_codec.specs.Deltas.{under, spelled_at, below_limit, delta_at, shortest_in, shortest}

-- what was read before, and what is still read
abbrev pub over : ℕ → ℕ → Delta → Delta
over low weight (Value n end) = Value (low + weight * n) end
over low weight Cut = Cut
over low weight Wide = Wide

over_under : (v w low : ℕ) (d : Delta) → over v w (under low d) ≡ over (v + w * low) (w * 128) d
over_under v w low (Value n end) = let e : v + w * (low + 128 * n) ≡ v + w * low + w * 128 * n = omega arith in ap (λ (k : ℕ). Value k end) e
over_under v w low Cut = refl
over_under v w low Wide = refl

pub record Spelling (bytes : List ℕ) (start i low weight : ℕ) : Type 0 where
  pub so_far : over low weight (spelled_at (5 - i) bytes (start + i)) ≡ spelled_at 5 bytes start
  pub less : low < weight
  pub power : weight ≡ 128 ^ i

pub spelling_first : (bytes : List ℕ) (start : ℕ) → Spelling bytes start 0 0 1
spelling_first bytes start = record { so_far = let e : start + 0 ≡ start = omega arith in rw e (same (spelled_at 5 bytes start)); less = omega arith; power = refl }
  where
    same : (d : Delta) → over 0 1 d ≡ d
    same (Value n end) = let e : 0 + 1 * n ≡ n = omega arith in ap (λ (k : ℕ). Value k end) e
    same Cut = refl
    same Wide = refl

-- while there is room for a byte the weight is small
pub small_weight : (i : ℕ) → i < 5 → 128 ^ i ≤ 268435456
small_weight zero lt = omega arith
small_weight (suc zero) lt = omega arith
small_weight (suc (suc zero)) lt = omega arith
small_weight (suc (suc (suc zero))) lt = omega arith
small_weight (suc (suc (suc (suc zero)))) lt = omega arith
small_weight (suc (suc (suc (suc (suc i))))) lt = absurd (omega arith)

pub spelling_cut : (bytes : List ℕ) (start i low weight : ℕ) → Spelling bytes start i low weight → i < 5 → length bytes ≤ start + i → delta_at bytes start ≡ Cut
unfolding spelled_at delta_at
spelling_cut bytes start i low weight s lt past =
    let k : 5 - i ≡ suc (4 - i) = omega arith in
    let t = le-ltb (start + i) (length bytes) past in
    let e : spelled_at 5 bytes start ≡ Cut = sym s.so_far ∙ rw (k, t) refl in
    ap below_limit e

pub spelling_last : (bytes : List ℕ) (start i low weight : ℕ) → Spelling bytes start i low weight → i < 5 → start + i < length bytes → get_or bytes (start + i) 0 < 128
    → delta_at bytes start ≡ below_limit (Value (low + weight * get_or bytes (start + i) 0) (start + i + 1))
unfolding spelled_at delta_at
spelling_last bytes start i low weight s lt within small =
    let k : 5 - i ≡ suc (4 - i) = omega arith in
    let t = lt-ltb (start + i) (length bytes) within in
    let u = lt-ltb (get_or bytes (start + i) 0) 128 small in
    let e : spelled_at 5 bytes start ≡ Value (low + weight * get_or bytes (start + i) 0) (start + i + 1) = sym s.so_far ∙ rw (k, t, u) refl in
    ap below_limit e

pub spelling_more : (bytes : List ℕ) (start i low weight : ℕ) → Spelling bytes start i low weight → i < 5 → start + i < length bytes → 128 ≤ get_or bytes (start + i) 0 → get_or bytes (start + i) 0 < 256
    → Spelling bytes start (i + 1) (low + weight * (get_or bytes (start + i) 0 - 128)) (weight * 128)
unfolding spelled_at
spelling_more bytes start i low weight s lt within high byte =
    let b = get_or bytes (start + i) 0 in
    let k : 5 - i ≡ suc (5 - (i + 1)) = omega arith in
    let t = lt-ltb (start + i) (length bytes) within in
    let u = le-ltb b 128 high in
    let place : start + i + 1 ≡ start + (i + 1) = omega arith in
    let one : over low weight (spelled_at (5 - i) bytes (start + i)) ≡ over (low + weight * (b - 128)) (weight * 128) (spelled_at (5 - (i + 1)) bytes (start + (i + 1))) =
    rw (k, t, u, place) (over_under low weight (b - 128) (spelled_at (5 - (i + 1)) bytes (start + (i + 1)))) in
    record {
      so_far = sym one ∙ s.so_far;
      less = let m = mul-le-mul_left weight (more_than b byte) in omega (arith, s.less);
      power = let p = pow-suc 128 i in let e : 128 ^ (i + 1) ≡ 128 ^ (suc i) = ap (λ (n : ℕ). 128 ^ n) (omega arith) in omega (arith, s.power);
    }
  where
    more_than : (b : ℕ) → b < 256 → b - 128 ≤ 127
    more_than b lt = omega arith

pub spelling_out : (bytes : List ℕ) (start i low weight : ℕ) → Spelling bytes start i low weight → 5 ≤ i → delta_at bytes start ≡ Wide
unfolding spelled_at delta_at
spelling_out bytes start i low weight s le =
    let k : 5 - i ≡ 0 = omega arith in
    let e : spelled_at 5 bytes start ≡ Wide = sym s.so_far ∙ rw k refl in
    ap below_limit e

-- ---- writing

pub record Writes (items : List ℕ) (i rest : ℕ) (total : List ℕ) : Type 0 where
  pub so_far : items ++ shortest_in (4 - i) rest ≡ total

pub writes_first : (items : List ℕ) (n : ℕ) → Writes items 0 n (items ++ shortest n)
unfolding shortest
writes_first items n = record { so_far = refl }

pub writes_more : (items : List ℕ) (i rest : ℕ) (total : List ℕ) → Writes items i rest total → i < 4 → 128 ≤ rest → Writes (items ++ (rest % 128 + 128) ∷ []) (i + 1) (rest / 128) total
unfolding shortest_in
writes_more items i rest total w lt high =
    let k : 4 - i ≡ suc (4 - (i + 1)) = omega arith in
    let t = le-ltb rest 128 high in
    let one : items ++ shortest_in (4 - i) rest ≡ (items ++ (rest % 128 + 128) ∷ []) ++ shortest_in (4 - (i + 1)) (rest / 128) = rw (k, t) (sym (append_assoc items ((rest % 128 + 128) ∷ []) (shortest_in (4 - (i + 1)) (rest / 128)))) in
    record { so_far = sym one ∙ w.so_far }

pub writes_last : (items : List ℕ) (i rest : ℕ) (total : List ℕ) → Writes items i rest total → (4 ≤ i) ⊎ (rest < 128) → items ++ rest ∷ [] ≡ total
unfolding shortest_in
writes_last items i rest total w (inl le) = let k : 4 - i ≡ 0 = omega arith in let one : items ++ shortest_in (4 - i) rest ≡ items ++ rest ∷ [] = rw k refl in sym one ∙ w.so_far
writes_last items i rest total w (inr lt) = let one : shortest_in (4 - i) rest ≡ rest ∷ [] = one_byte (4 - i) rest lt in sym (ap (λ (l : List ℕ). items ++ l) one) ∙ w.so_far
  where
    one_byte : (more n : ℕ) → n < 128 → shortest_in more n ≡ n ∷ []
    one_byte zero n lt = refl
    one_byte (suc more) n lt = let t = lt-ltb n 128 lt in rw t refl

-- ---- what is written is read again, whatever follows

pub first_byte : (bytes : List ℕ) (at b : ℕ) (rest : List ℕ) → drop at bytes ≡ b ∷ rest → (at < length bytes) × (get_or bytes at 0 ≡ b) × (drop (at + 1) bytes ≡ rest)
first_byte bytes at b rest e = (
  (let l = length-drop at bytes in let m : length (drop at bytes) ≡ suc (length rest) = ap length e in omega arith),
  (let g = get_or-drop at bytes 0 0 in let z : at + 0 ≡ at = omega arith in sym (ap (λ (k : ℕ). get_or bytes k 0) z) ∙ sym g ∙ ap (λ (l : List ℕ). get_or l 0 0) e),
  sym (drop-drop 1 at bytes) ∙ ap (λ (l : List ℕ). drop 1 l) e,
)

spelled_shortest : (more : ℕ) (bytes : List ℕ) (at n : ℕ) (rest : List ℕ) → drop at bytes ≡ shortest_in more n ++ rest → n < 128 ^ (more + 1) → spelled_at (suc more) bytes at ≡ Value n (at + length (shortest_in more n))
unfolding shortest_in spelled_at
spelled_shortest zero bytes at n rest e lt =
    let small : n < 128 = omega arith in
    let h = first_byte bytes at n rest e in
    let t = lt-ltb at (length bytes) h.0 in
    let u = lt-ltb n 128 small in
    rw (t, h.1, u) refl
spelled_shortest (suc more) bytes at n rest e lt =
    elim (cases_lt n 128) [
      | inl small ↦
          let u = lt-ltb n 128 small in
          let e1 : drop at bytes ≡ n ∷ rest = rw u at e in
          let h = first_byte bytes at n rest e1 in
          let t = lt-ltb at (length bytes) h.0 in
          rw (t, h.1, u) refl
      | inr big ↦
          let u = le-ltb n 128 big in
          let e1 : drop at bytes ≡ (n % 128 + 128) ∷ (shortest_in more (n / 128) ++ rest) = rw u at e in
          let h = first_byte bytes at (n % 128 + 128) (shortest_in more (n / 128) ++ rest) e1 in
          let t = lt-ltb at (length bytes) h.0 in
          let v = le-ltb (n % 128 + 128) 128 (omega arith) in
          let p = pow-suc 128 (more + 1) in
          let s : 128 ^ (suc more + 1) ≡ 128 ^ (suc (more + 1)) = ap (λ (k : ℕ). 128 ^ k) (omega arith) in
          let again = spelled_shortest more bytes (at + 1) (n / 128) rest h.2 (omega arith) in
          let sum : (n % 128 + 128 - 128) + 128 * (n / 128) ≡ n = omega arith in
          let place : at + 1 + length (shortest_in more (n / 128)) ≡ at + length ((n % 128 + 128) ∷ shortest_in more (n / 128)) = omega arith in
          rw (t, h.1, u, v, again) (ap₂ Value sum place)
    ]

pub delta_again : (bytes : List ℕ) (at n : ℕ) (rest : List ℕ) → n < 4294967296 → drop at bytes ≡ shortest n ++ rest → delta_at bytes at ≡ Value n (at + length (shortest n))
unfolding delta_at shortest
delta_again bytes at n rest lt e =
    let h = spelled_shortest 4 bytes at n rest e (omega arith) in
    let t = lt-ltb n 4294967296 lt in
    rw (h, t) refl

-- ---- sums stay small

pub sum_small : (bytes : List ℕ) (start i low weight b : ℕ) → Spelling bytes start i low weight → i < 5 → b ≤ 127 → (low + weight * b < 34359738368) × (weight ≤ 268435456)
sum_small bytes start i low weight b s lt le =
    let w = small_weight i lt in
    let m = mul-le-mul_left weight le in
    (omega (arith, s.less, s.power), omega (arith, s.power))

pub value_due : (bytes : List ℕ) (start n end : ℕ) → delta_at bytes start ≡ below_limit (Value n end) → n < 4294967296 → Value n end ≡ delta_at bytes start
value_due bytes start n end e lt = let t = lt-ltb n 4294967296 lt in sym (e ∙ rw t refl)

pub wide_due : (bytes : List ℕ) (start n end : ℕ) → delta_at bytes start ≡ below_limit (Value n end) → 4294967296 ≤ n → Wide ≡ delta_at bytes start
wide_due bytes start n end e le = let t = le-ltb n 4294967296 le in sym (e ∙ rw t refl)

-- the rest shrinks as the weight grows
pub rest_small : (i rest n : ℕ) → rest * 128 ^ i ≤ n → rest / 128 * 128 ^ (i + 1) ≤ n
rest_small i rest n le =
    let s : 128 ^ (i + 1) ≡ 128 ^ (suc i) = ap (λ (k : ℕ). 128 ^ k) (omega arith) in
    shrink (rest / 128) rest (128 ^ i) (128 ^ (i + 1)) n (omega arith) (omega (arith, pow-suc 128 i)) le
  where
    shrink : (q rest x y n : ℕ) → q * 128 ≤ rest → y ≡ x * 128 → rest * x ≤ n → q * y ≤ n
    shrink q rest x y n d e le =
        let m = mul-le-mul_right x d in
        let f : q * y ≡ q * (x * 128) = ap (λ (k : ℕ). q * k) e in
        omega arith
