-- What reducing a netlist by classes of equal signals gives (van Eijk, IEEE TCAD 19(7), 2000: each signal is replaced by the
-- representative of its class). The classes are those of a pair whose other side has no signals of its own, so that a variable's
-- place in the pair is its place in the netlist.
use Rattle.std.specs.Prelude.{◌≡◌, ℕ, ◌/◌, ◌<◌, map, filter, Bool, true, IsTrue, slice_index, All}
use Rattle.circ_model.specs.declared.netlist.Latch.{Latch}
use Rattle.circ_model.specs.declared.netlist.Gate.{Gate}
use Rattle.circ_model.specs.declared.netlist.Reset.TheVariants.{Free}
use Rattle.circ_model.specs.Netlist.{Netlist, variables, place_in}
use Rattle.circ_model.specs.Meaning.{Pair, literal, is_odd, signed, outputs_of}
use Rattle.circ_model.specs.Laws.{AgreeForEver}
use Rattle.class_partition.specs.Classes.{Classes, least_of, phase_of, is_least}
use Rattle.aig_graph.specs.Finish.{IsFinished}

-- a variable stays where it is the least of its class
abbrev pub stays : Netlist → Classes → ℕ → Bool
stays net classes v = is_least classes (place_in net v)

-- the least variable of a variable's class
abbrev pub least_variable : Netlist → Classes → ℕ → ℕ
least_variable net classes v = slice_index (variables net) (least_of classes (place_in net v))

-- whether the two are complements
abbrev pub is_complement : Netlist → Classes → ℕ → Bool
is_complement net classes v = signed (phase_of classes (least_of classes (place_in net v))) (phase_of classes (place_in net v))

-- what stands for a literal: its class's least, with the relative phase
abbrev pub replaced : Netlist → Classes → ℕ → ℕ
replaced net classes lit = literal (least_variable net classes (lit / 2)) (signed (is_complement net classes (lit / 2)) (is_odd lit))

-- a latch and a gate with other literals
abbrev pub latch_with : (ℕ → ℕ) → Latch → Latch
latch_with literals l = record { var = l.var; next = literals l.next; reset = l.reset }

abbrev pub gate_with : (ℕ → ℕ) → Gate → Gate
gate_with literals g = record { var = g.var; left = literals g.left; right = literals g.right }

-- a netlist with those of its latches and gates that stay, in their order, and with other literals wherever it uses one
abbrev pub netlist_with : (ℕ → Bool) → (ℕ → ℕ) → Netlist → Netlist
netlist_with stay literals net = record {
  max_var = net.max_var;
  inputs = net.inputs;
  latches = map (latch_with literals) (filter (λ (l : Latch). stay l.var) net.latches);
  outputs = map literals net.outputs;
  gates = map (gate_with literals) (filter (λ (g : Gate). stay g.var) net.gates);
}

-- the netlist without its equal signals
abbrev pub reduced : Netlist → Classes → Netlist
reduced net classes = netlist_with (stays net classes) (replaced net classes) net

-- a netlist is that; its gates are in the order of their new levels
abbrev pub IsReduced : Netlist → Classes → Netlist → Type 0
IsReduced net classes r = IsFinished (reduced net classes) r

-- the free latches stay, since no run ties one to an earlier place
abbrev pub FreeLatchesStay : Netlist → Classes → Type 0
FreeLatchesStay net classes = All (λ (l : Latch). l.reset ≡ Free → IsTrue (stays net classes l.var)) net.latches

-- two netlists on shared inputs, the free latches tied
abbrev pub tied_pair : Netlist → Netlist → Pair
tied_pair net r = record { left = net; right = r; tied = true }

-- in every frame of every run of such a pair all outputs agree
abbrev pub OutputsAgree : Netlist → Netlist → Type 0
OutputsAgree net r = (j : ℕ) → j < outputs_of (tied_pair net r) → AgreeForEver (tied_pair net r) j
