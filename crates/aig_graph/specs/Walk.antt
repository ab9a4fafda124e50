-- Giving gates their levels by a walk from gate to gate.
use Rattle.std.specs.Prelude.{◌≡◌, ◌≢◌, ℕ, ◌+◌, ◌*◌, ◌/◌, ◌<◌, ◌≤◌, ◌==◌, ◌⊎◌, ltb, max, Bool, true, false, cond, List, [], length, slice_index, slice_index_or, sum_by}
use Rattle.circ_model.specs.declared.netlist.Gate.{Gate}

abbrev pub no_gate : Gate
no_gate = record { var = 0; left = 0; right = 0 }

abbrev pub gate_in : List Gate → ℕ → Gate
gate_in gates k = slice_index_or gates k no_gate

-- a gate's own variable
abbrev pub var_in : List Gate → ℕ → ℕ
var_in gates k = (gate_in gates k).var

-- it is one of the gate's right literals' variables
abbrev pub Uses : Gate → ℕ → Type 0
Uses g v = (v ≡ g.left / 2) ⊎ (v ≡ g.right / 2)

-- a level is above those of what the gate uses
abbrev pub Fits : (ℕ → ℕ) → Gate → Type 0
Fits level g = level g.var ≡ 1 + max (level (g.left / 2)) (level (g.right / 2))

-- no levels fit all gates
abbrev pub IsCyclic : List Gate → Type 0
IsCyclic gates = (level : ℕ → ℕ) → ((k : ℕ) → k < length gates → Fits level (gate_in gates k)) → ⊥

-- what each variable stands for: 0 or 1 for no gate, else 2 plus the gate's number
pub record Indexes (defs : List ℕ) (gates : List Gate) : Type 0 where
  pub few : length defs ≤ 1000001
  pub gate : (v k : ℕ) → slice_index defs v ≡ k + 2 → (k < length gates) × (var_in gates k ≡ v)
  pub own : (k : ℕ) → k < length gates → slice_index defs (var_in gates k) ≡ k + 2
  pub within : (k : ℕ) → k < length gates → ((gate_in gates k).left / 2 < length defs) × ((gate_in gates k).right / 2 < length defs) × (var_in gates k < length defs)

-- 4294967295 for a gate that was not met, 4294967294 for one on the way, else its level
abbrev pub on_way : ℕ
on_way = 4294967294

abbrev pub IsDone : List ℕ → ℕ → Type 0
IsDone level v = slice_index level v < 4294967294

-- how many steps a variable has before it
abbrev pub steps : ℕ → ℕ
steps x = cond (ltb x 4294967294) 0 (cond (x == 4294967294) 1 2)

abbrev pub all_steps : List ℕ → ℕ
all_steps level = sum_by steps level

abbrev pub unsettled : ℕ → ℕ
unsettled x = cond (ltb x 4294967294) 0 1

pub record Levels (defs : List ℕ) (gates : List Gate) (level : List ℕ) (finished : ℕ) : Type 0 where
  pub len : length level ≡ length defs
  pub small : (v : ℕ) → slice_index level v ≤ 4294967295
  pub leaf : (v : ℕ) → slice_index defs v < 2 → slice_index level v ≡ 0
  pub done : (k : ℕ) → k < length gates → IsDone level (var_in gates k)
      → IsDone level ((gate_in gates k).left / 2) × IsDone level ((gate_in gates k).right / 2) × Fits (slice_index level) (gate_in gates k)
  pub bound : (v : ℕ) → IsDone level v → slice_index level v ≤ finished
  pub room : finished + sum_by unsettled level ≤ length level

pub record Way (gates : List Gate) (level stack : List ℕ) : Type 0 where
  pub entry : (i : ℕ) → i < length stack → (slice_index stack i < length gates) × (slice_index level (var_in gates (slice_index stack i)) ≡ 4294967294)
  pub chain : (i : ℕ) → i + 1 < length stack → Uses (gate_in gates (slice_index stack i)) (var_in gates (slice_index stack (i + 1)))
  pub distinct : (i j : ℕ) → i < j → j < length stack → slice_index stack i ≢ slice_index stack j
  pub found : (v : ℕ) → slice_index level v ≡ 4294967294 → (i : ℕ) × (i < length stack) × (var_in gates (slice_index stack i) ≡ v)

-- what is done stays
abbrev pub Keeps : List ℕ → List ℕ → Type 0
Keeps old new = (v : ℕ) → IsDone old v → slice_index new v ≡ slice_index old v

-- no gate goes back to one that was not met
abbrev pub Meets : List ℕ → List ℕ → Type 0
Meets old new = (v : ℕ) → slice_index old v < 4294967295 → slice_index new v < 4294967295

-- the levels so far, and the way from the first gate to the one on top
pub record Walk (defs : List ℕ) (gates : List Gate) (level stack : List ℕ) : Type 0 where
  pub finished : ℕ
  pub levels : Levels defs gates level finished
  pub way : Way gates level stack

-- what a turn leaves
pub record Turned (defs : List ℕ) (gates : List Gate) (old new stack : List ℕ) : Type 0 where
  pub walk : Walk defs gates new stack
  pub fewer : all_steps new < all_steps old
  pub keeps : Keeps old new
  pub meets : Meets old new

abbrev pub Turns : Bool → List ℕ → List Gate → List ℕ → List ℕ → List ℕ → Type 0
Turns true defs gates old new stack = Turned defs gates old new stack
Turns false defs gates old new stack = IsCyclic gates

-- no gate is on the way
pub record Between (defs : List ℕ) (gates : List Gate) (level : List ℕ) : Type 0 where
  pub walk : Walk defs gates level []

-- gates that were settled, the given one among them, or gates that wait for each other
pub record Settles (defs : List ℕ) (gates : List Gate) (old new : List ℕ) (k : ℕ) : Type 0 where
  pub between : Between defs gates new
  pub keeps : Keeps old new
  pub done : IsDone new (var_in gates k)

abbrev pub SettlesOr : Bool → List ℕ → List Gate → List ℕ → List ℕ → ℕ → Type 0
SettlesOr true defs gates old new k = Settles defs gates old new k
SettlesOr false defs gates old new k = IsCyclic gates

-- levels that fit, 0 for what is no gate
pub record IsLevels (defs : List ℕ) (gates : List Gate) (level : List ℕ) : Type 0 where
  pub len : length level ≡ length defs
  pub leaf : (v : ℕ) → slice_index defs v < 2 → slice_index level v ≡ 0
  pub fit : (k : ℕ) → k < length gates → Fits (slice_index level) (gate_in gates k)

abbrev pub first_level : ℕ → ℕ
first_level d = cond (ltb d 2) 0 4294967295

abbrev pub AreLevels : Bool → List ℕ → List Gate → List ℕ → Type 0
AreLevels true defs gates level = IsLevels defs gates level
AreLevels false defs gates level = IsCyclic gates

-- by level, then by variable
abbrev pub key_of : List ℕ → Gate → ℕ
key_of level g = slice_index level g.var * 4294967296 + g.var
