-- A netlist numbered anew, as the binary form asks for: from variable 1 up the inputs, then the latches, then the gates.
use Rattle.std.specs.Prelude.{◌≡◌, ℕ, ◌+◌, ◌*◌, ◌/◌, ◌<◌, max, min, List, length, map, All, slice_index}
use Rattle.std.specs.List.{range_with_len}
use Rattle.circ_model.specs.declared.netlist.Latch.{Latch}
use Rattle.circ_model.specs.declared.netlist.Gate.{Gate}
use Rattle.circ_model.specs.Netlist.{Netlist, variables, place_in}
use Rattle.circ_model.specs.Meaning.{literal_by}

-- a latch with these numbers for its variables
abbrev pub latch_by : (ℕ → ℕ) → Latch → Latch
latch_by number l = record { var = number l.var; next = literal_by number l.next; reset = l.reset }

-- a gate with these numbers for its variables, the greater of its right literals first
abbrev pub gate_by : (ℕ → ℕ) → Gate → Gate
gate_by number q = record { var = number q.var; left = max (literal_by number q.left) (literal_by number q.right); right = min (literal_by number q.left) (literal_by number q.right) }

-- each variable is numbered by its place in the netlist
abbrev pub renumbered : Netlist → Netlist
renumbered net = record {
  max_var = length net.inputs + length net.latches + length net.gates;
  inputs = range_with_len 1 (length net.inputs);
  latches = map (latch_by (place_in net)) net.latches;
  outputs = map (literal_by (place_in net)) net.outputs;
  gates = map (gate_by (place_in net)) net.gates;
}

-- ---- the numbers in a table

abbrev pub says : List ℕ → ℕ → ℕ
says table v = slice_index table v

-- the first n variables have their numbers
pub record IsNumbering (net : Netlist) (n : ℕ) (table : List ℕ) : Type 0 where
  pub size : length table ≡ net.max_var + 1
  pub small : All (λ p. p < 2147483648) table
  pub at : (q : ℕ) → q < n → q < length (variables net) → says table (slice_index (variables net) q) ≡ q

-- a latch whose variables are in the table
pub record IsLatchOf (table : List ℕ) (l : Latch) : Type 0 where
  pub var : l.var < length table
  pub next : l.next / 2 < length table

-- a gate whose variables are in the table, its own with the greatest number
pub record IsGateOf (table : List ℕ) (q : Gate) : Type 0 where
  pub var : q.var < length table
  pub left : q.left / 2 < length table
  pub right : q.right / 2 < length table
  pub below : (gate_by (says table) q).left < 2 * says table q.var
