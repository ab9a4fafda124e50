-- What a builder keeps beside what it was given.
use Rattle.std.specs.Prelude.{◌≡◌, ℕ, ◌+◌, ◌*◌, ◌<◌, ◌≤◌, ◌==◌, not, Bool, true, List, length, slice_index, count_by}
use Rattle.std.specs.List.{HoldsAt, All}
use Rattle.circ_model.specs.declared.netlist.Latch.{Latch}
use Rattle.circ_model.specs.declared.netlist.Gate.{Gate}
use Rattle.aig_graph.specs.Walk.{gate_in, var_in}
use Rattle.circ_model.specs.Netlist.{Netlist}
use Rattle.aig_graph.specs.Given.{is_leaf, is_defined}

abbrev pub is_set : ℕ → Bool
is_set n = not (n == 0)

-- how many times a variable is defined
abbrev pub times_defined : Netlist → ℕ → ℕ
times_defined g v = count_by (λ i. i == v) g.inputs + count_by (λ (l : Latch). l.var == v) g.latches + count_by (λ (q : Gate). q.var == v) g.gates

pub record IsKept (defs : List ℕ) (g : Netlist) : Type 0 where
  pub size : g.max_var ≤ 1000000
  pub len : length defs ≡ g.max_var + 1
  pub mark : (v : ℕ) → is_defined g v ≡ is_set (slice_index defs v)
  pub zero : slice_index defs 0 ≡ 0
  pub leaf : (v : ℕ) → is_leaf g v ≡ true → slice_index defs v ≡ 1
  pub gate : (v : ℕ) (k : ℕ) → slice_index defs v ≡ k + 2 → (k < length g.gates) × HoldsAt (λ (h : Gate). h.var ≡ v) g.gates k
  pub own : (k : ℕ) → k < length g.gates → slice_index defs (var_in g.gates k) ≡ k + 2
  pub within : (k : ℕ) → k < length g.gates → (var_in g.gates k ≤ g.max_var) × ((gate_in g.gates k).left ≤ 2 * g.max_var + 1) × ((gate_in g.gates k).right ≤ 2 * g.max_var + 1)
  pub nexts : All (λ (l : Latch). l.next ≤ 2 * g.max_var + 1) g.latches
  pub few : length g.outputs ≤ 1000000
  pub outs : All (λ lit. lit ≤ 2 * g.max_var + 1) g.outputs
  pub once : (v : ℕ) → times_defined g v ≤ 1
  pub count : length g.inputs + length g.latches + length g.gates ≡ count_by is_set defs
