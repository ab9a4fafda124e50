-- The rank of a trail: below its bound, and raised by each step.
use Rattle.std.proofs.Common.{◌≡◌, ◌<◌, ◌*◌, ◌^◌, ◌==◌, ℕ, zero, suc, List, [], ◌∷◌, ◌++◌, take, length, get_or, arith, ◌⊎◌, inl, inr, ⊎_elim, true, false, refl}
use Rattle.std.specs.Prelude.{if◌then◌else◌}
use Rattle.std.proofs.Math.Nat.{pow-zero, pow-suc}
use Rattle.std.proofs.Common.{ne_eqb}
use Rattle.sat_trail.specs.Rank.{digit, rank}

-- a digit is one or two
digit_cases : (r : ℕ) (p : ℕ) → (digit r * p ≡ p) ⊎ (digit r * p ≡ 2 * p)
digit_cases r p = elim (r == 0) as (λ b. ((if b then 1 else 2) * p ≡ p) ⊎ ((if b then 1 else 2) * p ≡ 2 * p)) [ true ↦ inl (omega arith) | false ↦ inr (omega arith) ]

-- a decision counts once
digit_zero : (r : ℕ) (p : ℕ) → r ≡ 0 → digit r * p ≡ p
digit_zero r p e = rw e (omega arith)

-- an implied literal counts twice
digit_pos : (r : ℕ) (p : ℕ) → 0 < r → digit r * p ≡ 2 * p
digit_pos r p h = let e : (r == 0) ≡ false = ne_eqb r 0 (λ z. omega arith) in rw e refl

-- a rank is below the power of its room
pub rank_below : (n : ℕ) (rs : List ℕ) → rank n rs < 3 ^ n
unfolding rank
rank_below zero rs = omega (arith, pow-zero 3)
rank_below (suc n) [] = let h = rank_below n [] in omega (arith, pow-suc 3 n)
rank_below (suc n) (r ∷ rs) =
    let h = rank_below n rs in
    ⊎_elim (λ (d : digit r * 3 ^ n ≡ 3 ^ n). omega (arith, pow-suc 3 n)) (λ (d : digit r * 3 ^ n ≡ 2 * 3 ^ n). omega (arith, pow-suc 3 n)) (digit_cases r (3 ^ n))

-- no power of three is zero
pow_pos : (n : ℕ) → 0 < 3 ^ n
pow_pos n = omega (arith, rank_below n [])

-- one more entry
pub rank_push : (n : ℕ) (rs : List ℕ) (r : ℕ) → length rs < n → rank n rs < rank n (rs ++ r ∷ [])
unfolding rank
rank_push zero rs r h = absurd (omega arith)
rank_push (suc n) [] r h =
    let p = pow_pos n in
    ⊎_elim (λ (d : digit r * 3 ^ n ≡ 3 ^ n). omega arith) (λ (d : digit r * 3 ^ n ≡ 2 * 3 ^ n). omega arith) (digit_cases r (3 ^ n))
rank_push (suc n) (x ∷ rs) r h = let i = rank_push n rs r (omega arith) in omega arith

-- an implied entry in place of a decision and all that follows
pub rank_replace : (n p : ℕ) (rs : List ℕ) (r : ℕ) → p < length rs → p < n → get_or rs p 0 ≡ 0 → 0 < r → rank n rs < rank n (take p rs ++ r ∷ [])
unfolding rank
rank_replace n p [] r h k e pos = absurd (omega arith)
rank_replace zero p (x ∷ rs) r h k e pos = absurd (omega arith)
rank_replace (suc n) zero (x ∷ rs) r h k e pos =
    let b = rank_below n rs in
    let d = digit_zero x (3 ^ n) e in
    let f = digit_pos r (3 ^ n) pos in
    omega arith
rank_replace (suc n) (suc p) (x ∷ rs) r h k e pos = let i = rank_replace n p rs r (omega arith) (omega arith) e pos in omega arith
