use Rattle.std.proofs.Common.{◌≡◌, ◌∙◌, ◌<◌, ◌≤◌, ◌+◌, ◌/◌, ◌%◌, ◌==◌, ℕ, Bool, false, List, [], ◌∷◌, ◌++◌, length, get_or, ap, ⊎_elim, arith}
use Rattle.std.proofs.lemmas.Bool.{cases_lt}
use Rattle.std.proofs.lemmas.List.{get_or_append_left, get_or_push, length_push}
use Rattle.sat_core.proofs.solving.row_of.Goals as goal

-- one more variable's bit
one_more : (row after : List Bool) (v k : ℕ) (b : Bool) → length row ≡ v → after ≡ row ++ b ∷ [] → k / 2 < v + 1
    → (k / 2 < v → get_or row (k / 2) false ≡ (k % 2 == 0)) → (k / 2 ≡ v → b ≡ (k % 2 == 0)) → get_or after (k / 2) false ≡ (k % 2 == 0)
one_more row after v k b size e lt before now =
    ap (λ (r : List Bool). get_or r (k / 2) false) e
    ∙ ⊎_elim
    (λ (early : k / 2 < v). get_or_append_left row (b ∷ []) false (k / 2) (omega arith) ∙ before early)
    (λ (late : v ≤ k / 2). get_or_push row b false (k / 2) (omega arith) ∙ now (omega arith))
    (cases_lt (k / 2) v)

pub loop-v-preserved : goal.loop-v-preserved
loop-v-preserved c =
    let v = c.loop-v.v in
    let row = c.loop-v.row.items in
    record {
      size = omega (arith, ap length c.in_ok-push.ensures.items, length_push row c.is_set.result, c.loop-v.invariant.size);
      trues = λ k stands lt. one_more row c.push.new.self.items v k c.is_set.result c.loop-v.invariant.size c.in_ok-push.ensures.items lt (λ early. c.loop-v.invariant.trues k stands early) (λ at. c.is_set.ensures k stands at);
    }
