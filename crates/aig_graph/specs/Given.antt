-- What a builder was given, in order, as a netlist that need not be sound, and what each call adds to it.
use Rattle.std.specs.Prelude.{◌≡◌, ℕ, ◌+◌, ◌*◌, ◌==◌, ◌||◌, ◌⊎◌, ltb, Bool, if◌then◌else◌, [], ◌∷◌, ◌++◌, Option, Some, None, Result, Ok, Err, IsOk}
use Rattle.std.specs.List.{list_any}
use Rattle.circ_model.specs.Netlist.{Netlist}
use Rattle.circ_model.specs.declared.netlist.Latch.{Latch}
use Rattle.circ_model.specs.declared.netlist.Gate.{Gate}
use Rattle.circ_model.specs.declared.netlist.Reset.{Reset}
use Rattle.circ_model.specs.declared.netlist.Reset.TheVariants.{Zero, One, Free}
use Rattle.aig_graph.specs.declared.fault.BuildFault.{BuildFault}
use Rattle.aig_graph.specs.declared.fault.BuildFault.TheVariants as faults

-- the variable is an input's or a latch's
abbrev pub is_leaf : Netlist → ℕ → Bool
is_leaf g v = list_any (λ i. i == v) g.inputs || list_any (λ (l : Latch). l.var == v) g.latches

-- the variable has a definition
abbrev pub is_defined : Netlist → ℕ → Bool
is_defined g v = is_leaf g v || list_any (λ (h : Gate). h.var == v) g.gates

-- no variable that may be defined
abbrev pub bad_var : Netlist → ℕ → Bool
bad_var g v = (v == 0) || ltb g.max_var v

-- no literal of the constant or of a variable up to the greatest
abbrev pub bad_literal : Netlist → ℕ → Bool
bad_literal g lit = ltb (2 * g.max_var + 1) lit

-- what a reset literal means for the latch of this variable: 0, 1, or the latch's own literal, which leaves the start free
abbrev pub reset_of : ℕ → ℕ → Option Reset
reset_of v reset = if reset == 0 then Some Zero else if reset == 1 then Some One else if reset == 2 * v then Some Free else None

-- what is given after each call, or the fault that is due: of the literals first, then of the variable, then of the reset
abbrev pub with_input : Netlist → ℕ → Result Netlist BuildFault
with_input g v =
    if bad_var g v then Err faults.Literal else
    if is_defined g v then Err faults.Redefined else
    Ok (record g { inputs = g.inputs ++ v ∷ [] })

abbrev pub latch_added : Netlist → ℕ → ℕ → Option Reset → Result Netlist BuildFault
latch_added g v next None = Err faults.Reset
latch_added g v next (Some reset) = Ok (record g { latches = g.latches ++ record { var = v; next = next; reset = reset } ∷ [] })

abbrev pub with_latch : Netlist → ℕ → ℕ → ℕ → Result Netlist BuildFault
with_latch g v next reset =
    if bad_var g v || bad_literal g next then Err faults.Literal else
    if is_defined g v then Err faults.Redefined else
    latch_added g v next (reset_of v reset)

abbrev pub with_output : Netlist → ℕ → Result Netlist BuildFault
with_output g lit = if bad_literal g lit then Err faults.Literal else Ok (record g { outputs = g.outputs ++ lit ∷ [] })

abbrev pub with_gate : Netlist → ℕ → ℕ → ℕ → Result Netlist BuildFault
with_gate g v left right =
    if bad_var g v || bad_literal g left || bad_literal g right then Err faults.Literal else
    if is_defined g v then Err faults.Redefined else
    Ok (record g { gates = g.gates ++ record { var = v; left = left; right = right } ∷ [] })

-- the fault is the one that is due, or want of memory where none is due
abbrev pub Refuses : BuildFault → Result Netlist BuildFault → Type 0
Refuses e due = (due ≡ Err e) ⊎ ((e ≡ faults.Memory) × IsOk due)

-- an answer adds what is due, or refuses and leaves what was given
abbrev pub Adds : Result (Unit {0}) BuildFault → Result Netlist BuildFault → Netlist → Netlist → Type 0
Adds (Ok x) due old new = due ≡ Ok new
Adds (Err e) due old new = (new ≡ old) × Refuses e due
