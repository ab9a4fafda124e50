use Rattle.std.proofs.Common.{◌≡◌, ◌≢◌, ◌<◌, ◌*◌, ◌/◌, ℕ, arith}
use Rattle.cnf_store.specs.Codes.{neg}

pub neg_neg : (l : ℕ) → neg (neg l) ≡ l
neg_neg l = omega arith

pub neg_var : (l : ℕ) → neg l / 2 ≡ l / 2
neg_var l = omega arith

pub neg_other : (l : ℕ) → neg l ≢ l
neg_other l e = omega arith

pub same_var : (l m : ℕ) → l / 2 ≡ m / 2 → l ≢ m → l ≡ neg m
same_var l m e ne = omega arith

pub neg_injective : (l m : ℕ) → neg l ≡ neg m → l ≡ m
neg_injective l m e = omega arith

pub neg_within : (l v : ℕ) → l < 2 * v → neg l < 2 * v
neg_within l v h = omega arith
