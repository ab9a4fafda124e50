-- The needed pairs of classes as a list.
use Rattle.std.specs.Prelude.{ℕ, List, [], ◌∷◌, flat_map, if◌then◌else◌}
use Rattle.std.specs.List.{range_with_len}
use Rattle.class_partition.specs.Classes.{Classes, needed, is_least}

-- a place that isn't the least of its class, with that least place
abbrev pub member_pair : Classes → ℕ → List (ℕ × ℕ)
member_pair classes p = if is_least classes p then [] else needed classes p ∷ []

-- each of them, in the order of the members
abbrev pub member_pairs : ℕ → Classes → List (ℕ × ℕ)
member_pairs places classes = flat_map (member_pair classes) (range_with_len 0 places)
