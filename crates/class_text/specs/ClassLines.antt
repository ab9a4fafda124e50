-- Class lines: the classes of two or more signals, each by the names of its members, with `!` before those that are complements of
-- the first.
use Rattle.std.specs.Prelude.{ℕ, ◌-◌, ◌==◌, ltb, if◌then◌else◌, List, [], ◌++◌, length, filter, codes, decimal}
use Rattle.std.specs.List.{flat_map, range_with_len}
use Rattle.circ_model.specs.Meaning.{Pair, places_of, signed}
use Rattle.circ_model.specs.declared.netlist.Signal.{Signal}
use Rattle.circ_model.specs.declared.netlist.Signal.TheVariants.{Const, Input, Left, Right}
use Rattle.class_partition.specs.Classes.{Classes, least_of, phase_of}
use Rattle.product_machine.specs.Signals.{signal_at}

-- the constant; an input by its position; a latch or gate of either side by its variable
abbrev pub name_of : Signal → List ℕ
name_of Const = codes "c"
name_of (Input i) = codes "i" ++ decimal i
name_of (Left v) = codes "l" ++ decimal v
name_of (Right v) = codes "r" ++ decimal v

abbrev pub member_text : Pair → Classes → ℕ → ℕ → List ℕ
member_text pair classes first p = codes " " ++ ((if signed (phase_of classes first) (phase_of classes p) then codes "!" else []) ++ name_of (signal_at pair p))

-- the places with this least place, from a place on
abbrev pub members_from : ℕ → ℕ → Classes → ℕ → List ℕ
members_from from count classes first = filter (λ p. least_of classes p == first) (range_with_len from count)

-- the members of a class from a place on
abbrev pub members_text : Pair → Classes → ℕ → ℕ → List ℕ
members_text pair classes first p = flat_map (member_text pair classes first) (members_from p (places_of pair - p) classes first)

abbrev pub class_line_of : Pair → Classes → ℕ → List ℕ → List ℕ
class_line_of pair classes first members = if ltb (length members) 2 then [] else codes "class" ++ (flat_map (member_text pair classes first) members ++ codes "\n")

abbrev pub class_line : Pair → Classes → ℕ → List ℕ
class_line pair classes first = class_line_of pair classes first (members_from 0 (places_of pair) classes first)

abbrev pub class_lines : Pair → Classes → List ℕ
class_lines pair classes = flat_map (class_line pair classes) (range_with_len 0 (places_of pair))
