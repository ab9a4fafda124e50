-- Counting the least places one after another.
use Rattle.std.proofs.Common.{◌≡◌, ◌∙◌, ◌<◌, ◌≤◌, ℕ, suc, ◌+◌, ◌-◌, Bool, true, false, List, [], length, ap, arith}
use Rattle.class_partition.specs.Classes.{class_count, is_least}
use Rattle.class_partition.specs.Steps.{classes_of}
use Rattle.class_partition.proofs.Counting.{counted, one, next}

-- so many are counted below a place, and the rest is to come
pub record Tallied (least : List ℕ) (count p : ℕ) : Type 0 where
  pub some : count ≤ p
  pub rest : class_count (length least) (classes_of least []) ≡ count + counted (is_least (classes_of least [])) p (length least - p)

pub tally : (least : List ℕ) (count p : ℕ) → p < length least → Tallied least count p → Tallied least (count + one (is_least (classes_of least []) p)) (p + 1)
tally least count p lt t =
    let f : ℕ → Bool = is_least (classes_of least []) in
    let e : length least - p ≡ suc (length least - (p + 1)) = omega arith in
    let h = next f p (length least - (p + 1)) in
    let some = t.some in
    let b = small (f p) in
    record { some = omega arith; rest = t.rest ∙ ap (λ (m : ℕ). count + counted f p m) e ∙ omega arith }
  where
    small : (b : Bool) → one b ≤ 1
    small true = omega arith
    small false = omega arith
