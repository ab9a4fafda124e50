-- What a shelf in memory holds: files by name, the names whose loads failed, the numbers of the calls that fail, the
-- number of the next call, and how many loads and stores have failed.
use Rattle.std.specs.Prelude.{ℕ, List}

pub record Shelved : Type 0 where
  pub files : List (List ℕ × List ℕ)
  pub failed : List (List ℕ)
  pub fails : List ℕ
  pub calls : ℕ
  pub load_faults : ℕ
  pub store_faults : ℕ
