-- Two lists of clauses, one after the other.
use Rattle.std.specs.Prelude.{◌≡◌, ◌+◌, ℕ, List, length}

-- how many clauses stand before the others, and how many there are
pub record AreCounted (before after : List (List ℕ)) (first count : ℕ) : Type 0 where
  pub first_is : first ≡ length before
  pub count_is : count ≡ length before + length after
