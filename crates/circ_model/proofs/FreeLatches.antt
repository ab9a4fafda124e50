-- The free ones among resets: which is the j-th, and how many stand before one.
use Rattle.std.proofs.Common.{◌≡◌, ◌∙◌, ◌<◌, ◌+◌, ℕ, zero, suc, List, [], ◌∷◌, ◌++◌, length, take, get_or, refl, ap, sym, subst, arith, if◌then◌else◌}
use Rattle.std.specs.Prelude.{count_by}
use Rattle.std.proofs.lemmas.List.{length-map}
use Rattle.std.proofs.lemmas.List.Sums.{sum_by-cons, sum_by_more, sum_by-take-le}
use Rattle.circ_model.specs.declared.netlist.Latch.{Latch}
use Rattle.circ_model.specs.declared.netlist.Reset.{Reset}
use Rattle.circ_model.specs.declared.netlist.Reset.TheVariants.{Zero, One, Free}
use Rattle.circ_model.specs.Netlist.{Netlist}
use Rattle.circ_model.specs.Meaning.{is_free, free_from, own_resets, free_latches}

count_free : (rs : List Reset) → count_by is_free (Free ∷ rs) ≡ suc (count_by is_free rs)
count_free rs = sum_by-cons (λ (r : Reset). if is_free r then 1 else 0) Free rs ∙ omega arith

-- there are as many as are counted
pub free_number : (n : ℕ) (rs : List Reset) → length (free_from n rs) ≡ count_by is_free rs
free_number n [] = refl
free_number n (Zero ∷ rs) = free_number (n + 1) rs
free_number n (One ∷ rs) = free_number (n + 1) rs
free_number n (Free ∷ rs) = ap suc (free_number (n + 1) rs) ∙ sym (count_free rs)

-- the free one at k is the j-th: so many stand before it
record IsFreeAt (n : ℕ) (rs : List Reset) (k j : ℕ) : Type 0 where
  pub within : k < length rs
  pub free : get_or rs k Free ≡ Free
  pub before : count_by is_free (take k rs) ≡ j
  pub listed : j < length (free_from n rs)
  pub is : get_or (free_from n rs) j 0 ≡ n + k

after_zero : (n : ℕ) (rs : List Reset) (k j : ℕ) → IsFreeAt (n + 1) rs k j → IsFreeAt n (Zero ∷ rs) (suc k) j
after_zero n rs k j h = record { within = omega (arith, h.within); free = h.free; before = h.before; listed = h.listed; is = omega (arith, h.is) }

after_one : (n : ℕ) (rs : List Reset) (k j : ℕ) → IsFreeAt (n + 1) rs k j → IsFreeAt n (One ∷ rs) (suc k) j
after_one n rs k j h = record { within = omega (arith, h.within); free = h.free; before = h.before; listed = h.listed; is = omega (arith, h.is) }

after_free : (n : ℕ) (rs : List Reset) (k j : ℕ) → IsFreeAt (n + 1) rs k j → IsFreeAt n (Free ∷ rs) (suc k) (suc j)
after_free n rs k j h = record { within = omega (arith, h.within); free = h.free; before = count_free (take k rs) ∙ ap suc h.before; listed = omega (arith, h.listed); is = omega (arith, h.is) }

first_free : (n : ℕ) (rs : List Reset) → IsFreeAt n (Free ∷ rs) 0 0
first_free n rs = record { within = omega arith; free = refl; before = refl; listed = omega arith; is = omega arith }

at_free : (n : ℕ) (rs : List Reset) (k : ℕ) → k < length rs → get_or rs k Free ≡ Free → IsFreeAt n rs k (count_by is_free (take k rs))
at_free n [] k lt e = absurd (omega arith)
at_free n (Zero ∷ rs) zero lt e = absurd (let f : ⊥ = cc in f)
at_free n (One ∷ rs) zero lt e = absurd (let f : ⊥ = cc in f)
at_free n (Free ∷ rs) zero lt e = first_free n rs
at_free n (Zero ∷ rs) (suc k) lt e = after_zero n rs k (count_by is_free (take k rs)) (at_free (n + 1) rs k (omega arith) e)
at_free n (One ∷ rs) (suc k) lt e = after_one n rs k (count_by is_free (take k rs)) (at_free (n + 1) rs k (omega arith) e)
at_free n (Free ∷ rs) (suc k) lt e = subst (IsFreeAt n (Free ∷ rs) (suc k)) (sym (count_free (take k rs))) (after_free n rs k (count_by is_free (take k rs)) (at_free (n + 1) rs k (omega arith) e))

-- the j-th is free
free_at : (n : ℕ) (rs : List Reset) (j : ℕ) → j < length (free_from n rs) → (k : ℕ) × IsFreeAt n rs k j
free_at n [] j lt = absurd (omega arith)
free_at n (Zero ∷ rs) j lt = let (k, h) = free_at (n + 1) rs j lt in (suc k, after_zero n rs k j h)
free_at n (One ∷ rs) j lt = let (k, h) = free_at (n + 1) rs j lt in (suc k, after_one n rs k j h)
free_at n (Free ∷ rs) zero lt = (0, first_free n rs)
free_at n (Free ∷ rs) (suc j) lt = let (k, h) = free_at (n + 1) rs j (omega arith) in (suc k, after_free n rs k j h)

-- the free latch at k of a netlist is its j-th
pub record IsFreeLatch (net : Netlist) (k j : ℕ) : Type 0 where
  pub within : k < length net.latches
  pub free : get_or (own_resets net) k Free ≡ Free
  pub before : count_by is_free (take k (own_resets net)) ≡ j
  pub listed : j < length (free_latches net)
  pub is : get_or (free_latches net) j 0 ≡ k

pub length_own_resets : (net : Netlist) → length (own_resets net) ≡ length net.latches
length_own_resets net = length-map net.latches (λ (l : Latch). l.reset)

of_latch : (net : Netlist) (k j : ℕ) → IsFreeAt 0 (own_resets net) k j → IsFreeLatch net k j
of_latch net k j h = record { within = omega (arith, h.within, length_own_resets net); free = h.free; before = h.before; listed = h.listed; is = omega (arith, h.is) }

-- each free latch is one, and each of the list
pub free_latch : (net : Netlist) (k : ℕ) → k < length net.latches → get_or (own_resets net) k Free ≡ Free → IsFreeLatch net k (count_by is_free (take k (own_resets net)))
free_latch net k lt e = of_latch net k (count_by is_free (take k (own_resets net))) (at_free 0 (own_resets net) k (omega (arith, length_own_resets net)) e)

pub listed_latch : (net : Netlist) (j : ℕ) → j < length (free_latches net) → (k : ℕ) × IsFreeLatch net k j
listed_latch net j lt = let (k, h) = free_at 0 (own_resets net) j lt in (k, of_latch net k j h)

reworded : (n k : ℕ) (r : Reset) (got before : List ℕ) → got ≡ before ++ (if is_free r then ((n + 1) + k) ∷ [] else []) → got ≡ before ++ (if is_free r then (n + suc k) ∷ [] else [])
reworded n k r got before e = e ∙ ap (λ (m : ℕ). before ++ (if is_free r then m ∷ [] else [])) (omega arith)

free_one_more : (n : ℕ) (rs : List Reset) (k : ℕ) → k < length rs → free_from n (take (suc k) rs) ≡ free_from n (take k rs) ++ (if is_free (get_or rs k Free) then (n + k) ∷ [] else [])
free_one_more n [] k lt = absurd (omega arith)
free_one_more n (Zero ∷ rs) zero lt = refl
free_one_more n (One ∷ rs) zero lt = refl
free_one_more n (Free ∷ rs) zero lt = ap (λ (m : ℕ). m ∷ []) (omega arith)
free_one_more n (Zero ∷ rs) (suc k) lt = reworded n k (get_or rs k Free) (free_from (n + 1) (take (suc k) rs)) (free_from (n + 1) (take k rs)) (free_one_more (n + 1) rs k (omega arith))
free_one_more n (One ∷ rs) (suc k) lt = reworded n k (get_or rs k Free) (free_from (n + 1) (take (suc k) rs)) (free_from (n + 1) (take k rs)) (free_one_more (n + 1) rs k (omega arith))
free_one_more n (Free ∷ rs) (suc k) lt = ap (λ (ms : List ℕ). n ∷ ms) (reworded n k (get_or rs k Free) (free_from (n + 1) (take (suc k) rs)) (free_from (n + 1) (take k rs)) (free_one_more (n + 1) rs k (omega arith)))

-- the free ones of one more reset
pub free_more : (n : ℕ) (rs : List Reset) (k : ℕ) → k < length rs → free_from n (take (k + 1) rs) ≡ free_from n (take k rs) ++ (if is_free (get_or rs k Free) then (n + k) ∷ [] else [])
free_more n rs k lt = ap (λ (m : ℕ). free_from n (take m rs)) (let e : k + 1 ≡ suc k = omega arith in e) ∙ free_one_more n rs k lt

-- how many stand before the next
pub count_more : (rs : List Reset) (i : ℕ) → i < length rs → count_by is_free (take (i + 1) rs) ≡ count_by is_free (take i rs) + (if is_free (get_or rs i Free) then 1 else 0)
count_more rs i lt = sum_by_more (λ (r : Reset). if is_free r then 1 else 0) rs i Free lt

pub count_within : (rs : List Reset) (i : ℕ) → i < length rs → get_or rs i Free ≡ Free → count_by is_free (take i rs) < count_by is_free rs
count_within rs i lt e = omega (arith, count_more rs i lt ∙ ap (λ (r : Reset). count_by is_free (take i rs) + (if is_free r then 1 else 0)) e, sum_by-take-le (λ (r : Reset). if is_free r then 1 else 0) rs (i + 1))
