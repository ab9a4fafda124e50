use Rattle.std.proofs.Common.{arith, ◌≡◌, ◌<◌, ◌+◌, ◌-◌, ◌*◌, ◌^◌, ℕ, ◌∙◌, ap, sym, subst}
use Rattle.sat_core.specs.declared.solving.Solver.{Solver}
use Rattle.sat_core.specs.Solving.{HasStepped, Advances}
use Rattle.sat_trail.specs.Rank.{rank}
use Rattle.sat_trail.proofs.Ranks.{rank_below}
use Rattle.sat_core.proofs.solving.search.Goals as goal

falls : (k n a b : ℕ) → a < b → b < n → k * n + (n - b) < k * n + (n - a)
falls k n a b h l = omega arith

over : (r n a b : ℕ) → r < 1000000 → a < n → b < n → (1000000 - (r + 1)) * n + (n - b) < (1000000 - r) * n + (n - a)
over r n a b h k l =
    let e : 1000000 - r ≡ (1000000 - (r + 1)) + 1 = omega arith in
    let f : (1000000 - r) * n ≡ (1000000 - (r + 1)) * n + n = ap (λ (x : ℕ). x * n) e ∙ split (1000000 - (r + 1)) n in
    rw f (omega arith)
  where
    split : (x n : ℕ) → (x + 1) * n ≡ x * n + n
    split x n = omega arith

-- what is left, where the trail ranks higher
left_falls : (k : ℕ) (old new : Solver) → Advances old new → k * 3 ^ new.vars + (3 ^ new.vars - rank new.vars new.trail.reasons.items) < k * 3 ^ old.vars + (3 ^ old.vars - rank old.vars old.trail.reasons.items)
left_falls k old new h =
    let r = rank new.vars new.trail.reasons.items in
    let below = rank_below new.vars new.trail.reasons.items in
    subst (λ (n : ℕ). k * 3 ^ new.vars + (3 ^ new.vars - r) < k * 3 ^ n + (3 ^ n - rank old.vars old.trail.reasons.items)) h.vars
    (falls k (3 ^ new.vars) (rank old.vars old.trail.reasons.items) r h.rank below)

-- where a restart is taken
left_over : (k : ℕ) (old new : Solver) → k < 1000000 → new.vars ≡ old.vars → (1000000 - (k + 1)) * 3 ^ new.vars + (3 ^ new.vars - rank new.vars new.trail.reasons.items) < (1000000 - k) * 3 ^ old.vars + (3 ^ old.vars - rank old.vars old.trail.reasons.items)
left_over k old new lt e =
    subst (λ (n : ℕ). (1000000 - (k + 1)) * 3 ^ n + (3 ^ n - rank new.vars new.trail.reasons.items) < (1000000 - k) * 3 ^ old.vars + (3 ^ old.vars - rank old.vars old.trail.reasons.items)) (sym e)
    (over k (3 ^ old.vars) (rank old.vars old.trail.reasons.items) (rank new.vars new.trail.reasons.items) lt (rank_below old.vars old.trail.reasons.items)
    (subst (λ (n : ℕ). rank new.vars new.trail.reasons.items < 3 ^ n) e (rank_below new.vars new.trail.reasons.items)))

pub steps-smaller : goal.steps-smaller
steps-smaller c =
    let h = subst (HasStepped c.steps.s c.step.new.s) c.in-On.is c.in_ok-step.ensures in
    left_falls (1000000 - c.steps.restarts) c.steps.s c.step.new.s h

pub steps-smaller-then-restarts-lt1000000 : goal.steps-smaller-then-restarts-lt1000000
steps-smaller-then-restarts-lt1000000 c = left_over c.steps.restarts c.steps.s c.restart.new.s c.if-restarts-lt1000000.true c.restart.ensures.vars
