-- What a sink in memory holds: what it has taken, how much it can take, the numbers of the calls that fail, the number
-- of the next call, and how many have failed.
use Rattle.std.specs.Prelude.{ℕ, List}

pub record Held : Type 0 where
  pub bytes : List ℕ
  pub room : ℕ
  pub fails : List ℕ
  pub calls : ℕ
  pub faults : ℕ
