-- The levels of a netlist's variables, and what a netlist in memory keeps.
use Rattle.std.specs.Prelude.{◌≡◌, ◌+◌, ℕ, List, length, slice_index}
use Rattle.circ_model.specs.Netlist.{Netlist, IsSound, IsLevelling}

-- this is the variable's level, however the netlist is levelled
abbrev pub IsLevelOf : Netlist → ℕ → ℕ → Type 0
IsLevelOf net v n = (level : ℕ → ℕ) → IsLevelling net level → n ≡ level v

-- a sound netlist, and an array with the level of each of its variables
pub record IsHeld (net : Netlist) (levels : List ℕ) : Type 0 where
  pub sound : IsSound net
  pub size : length levels ≡ net.max_var + 1
  pub fits : IsLevelling net (slice_index levels)
