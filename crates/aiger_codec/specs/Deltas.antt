-- Numbers of a binary body: seven bits a byte, lowest first, and bit 7 set where another byte follows.
use Rattle.std.specs.Prelude.{◌≡◌, ℕ, zero, suc, ◌+◌, ◌-◌, ◌*◌, ◌/◌, ◌%◌, ◌<◌, ◌≤◌, ltb, if◌then◌else◌, List, [], ◌∷◌, length, slice_index}
use Rattle.aiger_codec.specs.declared.delta.Delta.{Delta}
use Rattle.aiger_codec.specs.declared.delta.Delta.TheVariants.{Value, Cut, Wide}

-- a byte before the others
abbrev pub under : ℕ → Delta → Delta
under low (Value high end) = Value (low + 128 * high) end
under low Cut = Cut
under low Wide = Wide

-- within so many bytes
unfoldable pub spelled_at : ℕ → List ℕ → ℕ → Delta
spelled_at zero bytes at = Wide
spelled_at (suc more) bytes at =
    if ltb at (length bytes) then
    if ltb (slice_index bytes at) 128 then Value (slice_index bytes at) (at + 1) else
    under (slice_index bytes at - 128) (spelled_at more bytes (at + 1))
    else Cut

abbrev pub below_limit : Delta → Delta
below_limit (Value n end) = if ltb n 4294967296 then Value n end else Wide
below_limit Cut = Cut
below_limit Wide = Wide

unfoldable pub delta_at : List ℕ → ℕ → Delta
delta_at bytes at = below_limit (spelled_at 5 bytes at)

-- what spells a number, in whatever length
abbrev pub IsSpelled : List ℕ → ℕ → Type 0
IsSpelled [] n = ⊥
IsSpelled (b ∷ []) n = (b < 128) × (n ≡ b)
IsSpelled (b ∷ c ∷ bs) n = (128 ≤ b) × (b < 256) × (high : ℕ) × (n + 128 ≡ b + 128 * high) × IsSpelled (c ∷ bs) high

-- the shortest, in so many bytes and one
unfoldable pub shortest_in : ℕ → ℕ → List ℕ
shortest_in zero n = n ∷ []
shortest_in (suc more) n = if ltb n 128 then n ∷ [] else (n % 128 + 128) ∷ shortest_in more (n / 128)

unfoldable pub shortest : ℕ → List ℕ
shortest n = shortest_in 4 n
