use Rattle.std.proofs.Common.{◌≡◌, ℕ, Bool, true, false, List, bytes_eq, refl}
use Rattle.std.proofs.lemmas.Slice.Eq.{bytes_eq-Decides}
use Rattle.command_line.proofs.taken.named.Goals as goal

is_false : (b : Bool) → (b ≡ true → ⊥) → b ≡ false
is_false true h = absurd (h refl)
is_false false h = refl

differ : (xs ys : List ℕ) → (xs ≡ ys → ⊥) → bytes_eq xs ys ≡ false
differ xs ys h = is_false (bytes_eq xs ys) (λ e. h ((bytes_eq-Decides xs ys).0 e))

pub returns-in_default : goal.returns-in_default
returns-in_default c = λ rows.
    let d = c.in_default in
    rw (differ _ _ d.not-check, differ _ _ d.not-replay, differ _ _ d.not-verify, differ _ _ d.not-demo, differ _ _ d.not-climb, differ _ _ d.not-reduce, differ _ _ d.not-batch) refl
