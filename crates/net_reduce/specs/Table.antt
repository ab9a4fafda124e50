-- The literals that stand for variables, in an array by variable.
use Rattle.std.specs.Prelude.{◌≡◌, ℕ, ◌+◌, ◌/◌, ◌==◌, ◌<◌, List, length, slice_index, Bool, if◌then◌else◌}
use Rattle.circ_model.specs.Netlist.{Netlist, variables}
use Rattle.circ_model.specs.Meaning.{literal, negated, is_odd, signed}
use Rattle.class_partition.specs.Classes.{Classes, least_of, phase_of}

-- what stands for the variable at a place: its class's least, with the relative phase
abbrev pub standing : List ℕ → Classes → ℕ → ℕ
standing variables classes p = literal (slice_index variables (least_of classes p)) (signed (phase_of classes (least_of classes p)) (phase_of classes p))

-- the variables at the first n places have what stands for them
pub record IsTable (net : Netlist) (classes : Classes) (n : ℕ) (table : List ℕ) : Type 0 where
  pub size : length table ≡ net.max_var + 1
  pub at : (q : ℕ) → q < n → q < length (variables net) → slice_index table (slice_index (variables net) q) ≡ standing (variables net) classes q

-- a literal by the array, and whether a variable stays
abbrev pub through : List ℕ → ℕ → ℕ
through table lit = if is_odd lit then negated (slice_index table (lit / 2)) else slice_index table (lit / 2)

abbrev pub stays_by : List ℕ → ℕ → Bool
stays_by table v = slice_index table v / 2 == v
