-- Calls that are numbered from 0, some of which are to fail.
use Rattle.std.specs.Prelude.{ℕ, min, ◌+◌, ◌-◌, ◌^◌, Bool, List, ◌==◌}
use Rattle.std.specs.List.{list_any}

-- one more, but for the last value, at which a count stands still
abbrev pub one_more : ℕ → ℕ
one_more n = min (n + 1) (2 ^ 64 - 1)

-- whether the call with this number is listed
abbrev pub is_listed : List ℕ → ℕ → Bool
is_listed fails call = list_any (λ n. n == call) fails
