use Rattle.std.proofs.Common.{◌≡◌, ◌∙◌, ◌<◌, sym, ap, subst, arith}
use Rattle.work_desk.specs.Seats.{Seated}
use Rattle.pool_tests.proofs.waking.both_go.Goals as goal

pub map_vec-requires-after_bounds : goal.map_vec-requires-after_bounds
map_vec-requires-after_bounds g c βs within = λ i x lt at.
    let few = c.requires.seats in
    let below : i < 2 = omega (arith, lt, few.0) in
    let is : x ≡ record { party = i; ended = 0; answered = 0 } = at ∙ few.1 i x below in (
      subst (λ n. n < g.L.Run.workers) (sym (ap (λ (s : Seated). s.party) is)) (omega (arith, below, c.requires.workers)),
      ap (λ (s : Seated). s.ended) is,
    )
