use Rattle.std.proofs.Common.{arith, ◌≡◌, ◌≢◌, ◌<◌, ◌*◌, ◌/◌, ℕ, length, get_or, sym, ◌∙◌, subst, ⊎_elim}
use Rattle.std.proofs.lemmas.Bool.{cases_eq}
use Rattle.sat_trail.proofs.Placing.{stands_placed, place_of}
use Rattle.sat_trail.proofs.trail.Trail.free.Goals as goal
use Rattle.sat_trail.proofs.trail.Trail.free.Goals.{in-True, in-False}

pub loop-v-preserved : goal.loop-v-preserved
loop-v-preserved c =
    let t = c.args.self.now in
    let l : ℕ = 2 * c.loop-v.v in
    let half : l / 2 ≡ c.loop-v.v = omega arith in
    let here : 0 < get_or t.at.items (l / 2) 0 = elim c.match-value.branch [
      | in-True w ↦ (stands_placed (length t.at.items) t.lits.items t.at.items (length t.lits.items) l t.placed (omega arith) w.in-True.ensures).0
      | in-False w ↦ (place_of (length t.at.items) t.lits.items t.at.items (length t.lits.items) l t.placed (omega arith) w.in-False.ensures).0
    ] in
    λ k lt. ⊎_elim
    (λ (e : k ≡ c.loop-v.v). subst (λ (v : ℕ). 0 < get_or t.at.items v 0) (half ∙ sym e) here)
    (λ (ne : k ≢ c.loop-v.v). c.loop-v.invariant k (omega arith))
    (cases_eq k c.loop-v.v)
