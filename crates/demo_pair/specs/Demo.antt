-- The demo circuit of a size: a random netlist, and a copy of it in which some latches are complemented.
use Rattle.std.specs.Prelude.{ℕ, zero, suc, ◌+◌, ◌-◌, ◌*◌, ◌/◌, ◌%◌, ◌==◌, ltb, max, min, Bool, false, if◌then◌else◌, List, [], ◌∷◌, ◌++◌, map, slice_index_or}
use Rattle.rand_core.specs.Pcg32Seed.{pcg32_seed}
use Rattle.rand_pcg.specs.Lcg.{Lcg}
use Rattle.rand_pcg.specs.Pcg.{pcg32, pcg32_of_seed}
use Rattle.circ_model.specs.declared.netlist.Latch.{Latch}
use Rattle.circ_model.specs.declared.netlist.Gate.{Gate}
use Rattle.circ_model.specs.declared.netlist.Reset.{Reset}
use Rattle.circ_model.specs.declared.netlist.Reset.TheVariants.{Zero, One, Free}
use Rattle.circ_model.specs.Meaning.{negated}
use Rattle.circ_model.specs.Netlist.{Netlist}
use Rattle.aig_graph.specs.Finish.{IsFinished}

-- ---- what is drawn

-- the generator's next word modulo m, and the generator after it
unfoldable pub drawn : ℕ → Lcg → ℕ × Lcg
drawn m g = ((pcg32 g).0 % m, (pcg32 g).1)

-- a literal of a variable from 1 to m, and then of its sign
unfoldable pub drawn_literal : ℕ → Lcg → ℕ × Lcg
drawn_literal m g = (2 * (1 + (drawn m g).0) + (drawn 2 (drawn m g).1).0, (drawn 2 (drawn m g).1).1)

-- a choice for each of so many
unfoldable pub choices : ℕ → Lcg → List Bool
choices zero g = []
choices (suc n) g = ((drawn 2 g).0 == 1) ∷ choices n (drawn 2 g).1

-- ---- the left netlist

-- what was made so far, and the generator of what follows
abbrev pub Making : Type 0
Making = Netlist × Lcg

abbrev pub input_made : ℕ → Making → Making
input_made v s = (record s.0 { inputs = s.0.inputs ++ v ∷ [] }, s.1)

abbrev pub made_gate : ℕ → ℕ → ℕ → Gate
made_gate v a b = record { var = v; left = max a b; right = min a b }

-- a gate of two literals of the variables below it, the greater first
unfoldable pub gate_made : ℕ → Making → Making
gate_made v s =
    let a = drawn_literal (v - 1) s.1 in
    let b = drawn_literal (v - 1) a.1 in
    (record s.0 { gates = s.0.gates ++ made_gate v a.0 b.0 ∷ [] }, b.1)

abbrev pub made_reset : ℕ → Reset
made_reset bit = if bit == 0 then Zero else One

-- a latch: its next literal, of any of the m variables, and then its reset
unfoldable pub latch_made : ℕ → ℕ → Making → Making
latch_made m v s =
    let a = drawn_literal m s.1 in
    let r = drawn 2 a.1 in
    (record s.0 { latches = s.0.latches ++ record { var = v; next = a.0; reset = made_reset r.0 } ∷ [] }, r.1)

unfoldable pub output_made : ℕ → ℕ → Making → Making
output_made m j s = let a = drawn_literal m s.1 in (record s.0 { outputs = s.0.outputs ++ a.0 ∷ [] }, a.1)

-- so many items, from a number up
unfoldable pub each : (ℕ → Making → Making) → ℕ → ℕ → Making → Making
each item zero v s = s
each item (suc n) v s = each item n (v + 1) (item v s)

abbrev pub nothing_made : ℕ → Making
nothing_made n = (record { max_var = 8 * n; inputs = []; latches = []; outputs = []; gates = [] }, pcg32_of_seed (pcg32_seed 16 n))

-- inputs 1 to n; then, in the order in which they are drawn, 6 n gates from 2 n + 1 up, n latches from n + 1 up, and n outputs
unfoldable pub circuit : ℕ → Making
circuit n = each (output_made (8 * n)) n 0 (each (latch_made (8 * n)) n (n + 1) (each gate_made (6 * n) (2 * n + 1) (each input_made n 1 (nothing_made n))))

-- and then which latches are complemented in the copy
abbrev pub chosen_of : ℕ → List Bool
chosen_of n = choices n (circuit n).1

-- ---- the copy

-- whether the variable is that of a chosen latch
abbrev pub is_chosen : ℕ → List Bool → ℕ → Bool
is_chosen n chosen v = if ltb n v then slice_index_or chosen (v - (n + 1)) false else false

abbrev pub negated_if : Bool → ℕ → ℕ
negated_if b lit = if b then negated lit else lit

-- a literal of a chosen latch is complemented wherever it is used
abbrev pub turned : ℕ → List Bool → ℕ → ℕ
turned n chosen lit = negated_if (is_chosen n chosen (lit / 2)) lit

abbrev pub other_reset : Reset → Reset
other_reset Zero = One
other_reset One = Zero
other_reset Free = Free

abbrev pub reset_if : Bool → Reset → Reset
reset_if b r = if b then other_reset r else r

-- and what a chosen latch takes is complemented too
abbrev pub copied_latch : ℕ → List Bool → Latch → Latch
copied_latch n chosen l = record { var = l.var; next = negated_if (is_chosen n chosen l.var) (turned n chosen l.next); reset = reset_if (is_chosen n chosen l.var) l.reset }

abbrev pub copied_gate : ℕ → List Bool → Gate → Gate
copied_gate n chosen q = record { var = q.var; left = turned n chosen q.left; right = turned n chosen q.right }

abbrev pub copied : ℕ → List Bool → Netlist → Netlist
copied n chosen net = record { max_var = net.max_var; inputs = net.inputs; latches = map (copied_latch n chosen) net.latches; outputs = map (turned n chosen) net.outputs; gates = map (copied_gate n chosen) net.gates }

-- the pair of this size; finishing puts the gates into their order
pub record IsDemo (n : ℕ) (left right : Netlist) : Type 0 where
  pub is_left : IsFinished (circuit n).0 left
  pub is_right : IsFinished (copied n (chosen_of n) left) right
