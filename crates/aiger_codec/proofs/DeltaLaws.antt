-- Numbers of the binary form, both ways.
use Rattle.std.proofs.Common.{◌≡◌, ℕ, zero, suc, ◌+◌, ◌-◌, ◌*◌, ◌/◌, ◌%◌, ◌^◌, ◌<◌, ◌≤◌, inl, inr, List, [], ◌∷◌, ◌++◌, length, drop, get_or, refl, sym, ap, ap₂, subst, ◌∙◌, arith, pow-suc, ltb, add-one, drop-cons}
use Rattle.std.proofs.lemmas.Bool.{lt-ltb, le-ltb, ltb-false, ltb-true, cases_lt}
use Rattle.aiger_codec.specs.declared.delta.Delta.{Delta}
use Rattle.aiger_codec.specs.declared.delta.Delta.TheVariants.{Value, Cut, Wide}
use Rattle.aiger_codec.specs.Deltas.{under, spelled_at, below_limit, delta_at, IsSpelled, shortest_in, shortest}
use Rattle.aiger_codec.specs.Laws.{StandsAt}
use Rattle.plain_text.proofs.Choices.{chosen}
use Rattle.aiger_codec.proofs.DeltaSteps.{first_byte}

-- no other spelling is shorter
shorter : (more : ℕ) (text : List ℕ) (n : ℕ) → IsSpelled text n → length (shortest_in more n) ≤ length text
unfolding shortest_in
shorter more [] n s = absurd s
shorter zero (b ∷ bs) n s = omega arith
shorter (suc more) (b ∷ []) n s = let u = lt-ltb n 128 (omega (arith, s.0, s.1)) in rw u (omega arith)
shorter (suc more) (b ∷ c ∷ bs) n s =
    elim (cases_lt n 128) [
      | inl small ↦ let u = lt-ltb n 128 small in rw u (omega arith)
      | inr big ↦
          let u = le-ltb n 128 big in
          let high : s.2 ≡ n / 128 = omega (arith, s.0, s.1, s.3) in
          let h = shorter more (c ∷ bs) (n / 128) (subst (IsSpelled (c ∷ bs)) high s.4) in
          rw u (omega arith)
    ]

pub none_shorter : (text : List ℕ) (n : ℕ) → IsSpelled text n → length (shortest n) ≤ length text
unfolding shortest
none_shorter text n s = shorter 4 text n s

-- and the shortest is one
one_more : (b : ℕ) (text : List ℕ) (n : ℕ) → 128 ≤ b → b < 256 → n + 128 ≡ b + 128 * (n / 128) → IsSpelled text (n / 128) → IsSpelled (b ∷ text) n
one_more b [] n low high e s = absurd s
one_more b (c ∷ text) n low high e s = (low, high, n / 128, e, s)

spells : (more n : ℕ) → n < 128 ^ (more + 1) → IsSpelled (shortest_in more n) n × (length (shortest_in more n) ≤ more + 1)
unfolding shortest_in
spells zero n lt = ((omega arith, refl), omega arith)
spells (suc more) n lt =
    elim (cases_lt n 128) [
      | inl small ↦ let u = lt-ltb n 128 small in rw u ((small, refl), omega arith)
      | inr big ↦
          let u = le-ltb n 128 big in
          let p = pow-suc 128 (more + 1) in
          let e : 128 ^ (suc more + 1) ≡ 128 ^ (suc (more + 1)) = ap (λ (k : ℕ). 128 ^ k) (omega arith) in
          let h = spells more (n / 128) (omega arith) in
          rw u (one_more (n % 128 + 128) (shortest_in more (n / 128)) n (omega arith) (omega arith) (omega arith) h.0, omega (arith, h.1))
    ]

pub shortest_spelled : (n : ℕ) → n < 2 ^ 32 → IsSpelled (shortest n) n × (length (shortest n) ≤ 5)
unfolding shortest
shortest_spelled n lt = spells 4 n (omega arith)

-- what is spelled is read
spelled_again : (more : ℕ) (bytes : List ℕ) (at : ℕ) (text rest : List ℕ) (n : ℕ) → IsSpelled text n → drop at bytes ≡ text ++ rest → length text ≤ more → spelled_at more bytes at ≡ Value n (at + length text)
unfolding spelled_at
spelled_again more bytes at [] rest n s e le = absurd s
spelled_again zero bytes at (b ∷ text) rest n s e le = absurd (omega arith)
spelled_again (suc more) bytes at (b ∷ []) rest n s e le =
    let h = first_byte bytes at b rest e in
    let t = lt-ltb at (length bytes) h.0 in
    let u = lt-ltb b 128 s.0 in
    rw (t, h.1, u) (ap (λ (k : ℕ). Value k (at + 1)) (sym s.1))
spelled_again (suc more) bytes at (b ∷ c ∷ text) rest n s e le =
    let h = first_byte bytes at b ((c ∷ text) ++ rest) e in
    let t = lt-ltb at (length bytes) h.0 in
    let u = le-ltb b 128 s.0 in
    let again = spelled_again more bytes (at + 1) (c ∷ text) rest s.2 s.4 h.2 (omega arith) in
    let sum : (b - 128) + 128 * s.2 ≡ n = omega (arith, s.0, s.3) in
    let place : at + 1 + length (c ∷ text) ≡ at + length (b ∷ c ∷ text) = omega arith in
    rw (t, h.1, u, again) (ap₂ Value sum place)

pub delta_read : (bytes : List ℕ) (at n end : ℕ) (text rest : List ℕ) → IsSpelled text n → StandsAt bytes at text end rest → length text ≤ 5 → n < 2 ^ 32 → delta_at bytes at ≡ Value n end
unfolding delta_at
delta_read bytes at n end text rest s stands le lt =
    let h = spelled_again 5 bytes at text rest n s stands.is le in
    let t = lt-ltb n 4294967296 (omega arith) in
    rw (h, t) (ap (λ (k : ℕ). Value n k) (sym stands.ends))

-- what is read is spelled
with_first : (b : ℕ) (text : List ℕ) (n high : ℕ) → 128 ≤ b → b < 256 → n + 128 ≡ b + 128 * high → IsSpelled text high → IsSpelled (b ∷ text) n
with_first b [] n high low byte e s = absurd s
with_first b (c ∷ text) n high low byte e s = (low, byte, high, e, s)

value_is : (m k n end : ℕ) → Value m k ≡ Value n end → (m ≡ n) × (k ≡ end)
value_is m k n end e = (cc, cc)

under_is : (low n end : ℕ) (d : Delta) → under low d ≡ Value n end → (high : ℕ) × (d ≡ Value high end) × (low + 128 * high ≡ n)
under_is low n end (Value high k) e = let v = value_is _ _ _ _ e in (high, ap (λ (x : ℕ). Value high x) v.1, v.0)
under_is low n end Cut e = absurd cc
under_is low n end Wide e = absurd cc

below_is : (n end : ℕ) (d : Delta) → below_limit d ≡ Value n end → (d ≡ Value n end) × (n < 2 ^ 32)
below_is n end (Value m k) e =
    elim (chosen (ltb m 4294967296) _ _ (Value n end) e) [
      | inl p ↦ let v = value_is _ _ _ _ p.1 in let lt = ltb-true _ _ p.0 in (p.1, omega (arith, v.0))
      | inr p ↦ absurd (no_value p.1)
    ]
  where
    no_value : Wide ≡ Value n end → ⊥
    no_value e = cc
below_is n end Cut e = absurd cc
below_is n end Wide e = absurd cc

pub byte_at : (bytes : List ℕ) (at : ℕ) → at < length bytes → drop at bytes ≡ get_or bytes at 0 ∷ drop (at + 1) bytes
byte_at bytes at within = rw add-one (drop-cons bytes at 0 within)

-- so much of the bytes was read
record Taken (bytes : List ℕ) (at n end more : ℕ) : Type 0 where
  text : List ℕ
  spelled : IsSpelled text n
  stands : StandsAt bytes at text end (drop end bytes)
  few : length text ≤ more

one_byte : (bytes : List ℕ) (at n end more : ℕ) → at < length bytes → get_or bytes at 0 < 128 → Value (get_or bytes at 0) (at + 1) ≡ Value n end → Taken bytes at n end (suc more)
one_byte bytes at n end more within small e =
    let v = value_is _ _ _ _ e in
    record {
      text = get_or bytes at 0 ∷ [];
      spelled = (small, sym v.0);
      stands = record { is = byte_at bytes at within ∙ ap (λ (k : ℕ). get_or bytes at 0 ∷ drop k bytes) v.1; ends = sym v.1 };
      few = omega arith;
    }

more_bytes : (bytes : List ℕ) (at n end more high : ℕ) → at < length bytes → 128 ≤ get_or bytes at 0 → get_or bytes at 0 < 256 → get_or bytes at 0 - 128 + 128 * high ≡ n
    → Taken bytes (at + 1) high end more → Taken bytes at n end (suc more)
more_bytes bytes at n end more high within low byte sum t =
    record {
      text = get_or bytes at 0 ∷ t.text;
      spelled = with_first (get_or bytes at 0) t.text n high low byte (omega arith) t.spelled;
      stands = record {
        is = byte_at bytes at within ∙ ap (λ (l : List ℕ). get_or bytes at 0 ∷ l) t.stands.is;
        ends = omega (arith, t.stands.ends);
      };
      few = omega (arith, t.few);
    }

taken_at : (more : ℕ) (bytes : List ℕ) (at n end : ℕ) → ((i : ℕ) → get_or bytes i 0 < 256) → spelled_at more bytes at ≡ Value n end → Taken bytes at n end more
unfolding spelled_at
taken_at zero bytes at n end small e = absurd cc
taken_at (suc more) bytes at n end small e =
    elim (chosen (ltb at (length bytes)) _ _ (Value n end) e) [
      | inr p ↦ absurd (no_value p.1)
      | inl p ↦
          let within = ltb-true _ _ p.0 in
          elim (chosen (ltb (get_or bytes at 0) 128) _ _ (Value n end) p.1) [
            | inl q ↦ one_byte bytes at n end more within (ltb-true _ _ q.0) q.1
            | inr q ↦
                let u = under_is (get_or bytes at 0 - 128) n end (spelled_at more bytes (at + 1)) q.1 in
                more_bytes bytes at n end more u.0 within (ltb-false _ _ q.0) (small at) u.2 (taken_at more bytes (at + 1) u.0 end small u.1)
          ]
    ]
  where
    no_value : Cut ≡ Value n end → ⊥
    no_value e = cc

pub delta_spelled : (bytes : List ℕ) (at n end : ℕ) → ((i : ℕ) → get_or bytes i 0 < 256) → delta_at bytes at ≡ Value n end
    → (text : List ℕ) × IsSpelled text n × StandsAt bytes at text end (drop end bytes) × (length text ≤ 5) × (n < 2 ^ 32)
unfolding delta_at
delta_spelled bytes at n end small e =
    let b = below_is n end (spelled_at 5 bytes at) e in
    let t = taken_at 5 bytes at n end small b.0 in (t.text, t.spelled, t.stands, t.few, b.1)
