-- The last word of a line.
use Rattle.std.proofs.Common.{◌≡◌, ◌≢◌, ℕ, List, [], ◌∷◌, length, refl}
use Rattle.std.proofs.lemmas.Bool.{ne_eqb}
use Rattle.plain_text.specs.Pieces.{pieces, last_of}
use Rattle.dimacs_text.specs.Words.{words}

pub last_word : (line : List ℕ) → pieces 32 line ≡ [] → last_of 32 line ≡ line → length line ≢ 0 → words line ≡ line ∷ words []
unfolding words pieces last_of
last_word line p q n = let t = ne_eqb (length line) 0 n in rw (p, q, t) refl
