-- Texts written one after another.
use Rattle.std.proofs.Common.{◌≡◌, ℕ, List, ◌++◌, ap, ◌∙◌, append_assoc}

pub two : (front a b first second : List ℕ) → first ≡ front ++ a → second ≡ first ++ b → second ≡ front ++ (a ++ b)
two front a b first second e f = f ∙ ap (λ (x : List ℕ). x ++ b) e ∙ append_assoc front a b

pub three : (front a b c first second third : List ℕ) → first ≡ front ++ a → second ≡ first ++ b → third ≡ second ++ c → third ≡ front ++ (a ++ (b ++ c))
three front a b c first second third e f g = two front a (b ++ c) first third e (two first b c second third f g)
