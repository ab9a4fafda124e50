-- What is spelled is read: each item may be added where it stands.
use Rattle.std.proofs.Common.{◌≡◌, ◌∙◌, ℕ, ◌+◌, ◌/◌, ◌≤◌, List, [], ◌++◌, length, drop, Ok, sym, ap, subst, arith, append_assoc, length-append}
use Rattle.std.specs.List.{All, range_with_len}
use Rattle.circ_model.specs.declared.netlist.Latch.{Latch}
use Rattle.circ_model.specs.Netlist.{Netlist}
use Rattle.aiger_codec.specs.declared.header.Header.{Header}
use Rattle.aiger_codec.specs.declared.section.Section.TheVariants.{Latches, Outputs, Gates}
use Rattle.aiger_codec.proofs.Items.{latches_given, outputs_given, gates_given}
use Rattle.aiger_codec.proofs.SectionItems.{whole}
use Rattle.aiger_codec.proofs.SectionItems.{section_again}
use Rattle.aiger_binary.specs.Binary.{of_inputs, latch_at, gate_at, each_from, binary_at}
use Rattle.aiger_binary.specs.Grammar.{SpellsLatch, SpellsGate, SpellsBinary}
use Rattle.aiger_binary.proofs.Items.{latch_again, gate_again, after}
use Rattle.aiger_binary.proofs.Takes.{each_again}
use Rattle.aiger_binary.proofs.Fresh.{Below, may_latches, may_outputs, may_gates, below_outputs}
use Rattle.aiger_binary.proofs.Bodies.{inputs_below}

three : (a b c rest : List ℕ) → (a ++ (b ++ c)) ++ rest ≡ a ++ (b ++ (c ++ rest))
three a b c rest = append_assoc a (b ++ c) rest ∙ ap (λ (l : List ℕ). a ++ l) (append_assoc b c rest)

pub binary_again : (h : Header) (bytes text rest : List ℕ) (net : Netlist) → h.m ≤ 1000000 → h.i + h.l + h.a ≤ h.m → SpellsBinary h text net → drop h.end bytes ≡ text ++ rest → binary_at h bytes ≡ Ok (net, h.end + length text)
unfolding binary_at
binary_again h bytes text rest net small sections b stands =
    let is : List ℕ = range_with_len 1 h.i in
    let g0 : Netlist = of_inputs h.m h.i in
    let g1 : Netlist = whole h.m is net.latches [] [] in
    let g2 : Netlist = whole h.m is net.latches net.outputs [] in
    let g3 : Netlist = whole h.m is net.latches net.outputs net.gates in
    let top : net.max_var ≡ h.m = b.max_var in
    let nexts : All (λ (l : Latch). l.next / 2 ≤ h.m) net.latches = subst (λ (m : ℕ). All (λ (l : Latch). l.next / 2 ≤ m) net.latches) top b.next_literals in
    let outs : All (λ lit. lit / 2 ≤ h.m) net.outputs = subst (λ (m : ℕ). All (λ lit. lit / 2 ≤ m) net.outputs) top b.output_literals in
    let ml = may_latches net.latches (h.i + 1) g0 b.latches (inputs_below h.m h.i (omega arith)) (omega arith) (omega (arith, b.latch_count)) b.latch_lines nexts in
    let first : h.i + 1 + length net.latches ≡ h.i + 1 + h.l = omega (arith, b.latch_count) in
    let b1 : Below (h.i + 1 + h.l) g1 = subst (λ (k : ℕ). Below k g1) first (subst (Below (h.i + 1 + length net.latches)) (latches_given net.latches g0) ml.1) in
    let mo = may_outputs net.outputs g1 outs in
    let b2 : Below (h.i + 1 + h.l) g2 = subst (Below (h.i + 1 + h.l)) (outputs_given net.outputs g1) (below_outputs net.outputs (h.i + 1 + h.l) g1 b1) in
    let mq = may_gates net.gates (h.i + 1 + h.l) g2 b.gates b2 (omega arith) (omega (arith, b.gate_count)) b.gate_numbers in
    let e1 : ℕ = h.end + length b.latches in
    let e2 : ℕ = e1 + length b.outputs in
    let s0 : drop h.end bytes ≡ b.latches ++ (b.outputs ++ (b.gates ++ rest)) = stands ∙ ap (λ (l : List ℕ). l ++ rest) b.is ∙ three b.latches b.outputs b.gates rest in
    let s1 : drop e1 bytes ≡ b.outputs ++ (b.gates ++ rest) = after bytes h.end b.latches (b.outputs ++ (b.gates ++ rest)) s0 in
    let s2 : drop e2 bytes ≡ b.gates ++ rest = after bytes e1 b.outputs (b.gates ++ rest) s1 in
    let l0 = each_again Latches bytes (latch_at bytes) SpellsLatch h.m (λ v g at x t u le s is may. latch_again bytes v g at x t u s is may) net.latches (h.i + 1) g0 h.end b.latches (b.outputs ++ (b.gates ++ rest)) (omega (arith, b.latch_count)) b.latch_lines s0 ml.0 in
    let r0 : each_from (latch_at bytes) h.l (h.i + 1) (g0, h.end) ≡ Ok (g1, e1) = ap (λ (n : ℕ). each_from (latch_at bytes) n (h.i + 1) (g0, h.end)) (sym b.latch_count) ∙ l0 ∙ ap (λ (g : Netlist). Ok (g, e1)) (latches_given net.latches g0) in
    let r1 = section_again Outputs bytes e1 h.o b.outputs (b.gates ++ rest) g1 g2 net.outputs b.output_lines mo (outputs_given net.outputs g1) b.output_count s1 in
    let q0 = each_again Gates bytes (gate_at bytes) SpellsGate h.m (λ v g at x t u le s is may. gate_again bytes v g at x t u s (omega arith) is may) net.gates (h.i + 1 + h.l) g2 e2 b.gates rest (omega (arith, b.gate_count)) b.gate_numbers s2 mq in
    let r2 : each_from (gate_at bytes) h.a (h.i + 1 + h.l) (g2, e2) ≡ Ok (g3, e2 + length b.gates) =
    ap (λ (n : ℕ). each_from (gate_at bytes) n (h.i + 1 + h.l) (g2, e2)) (sym b.gate_count) ∙ q0 ∙ ap (λ (g : Netlist). Ok (g, e2 + length b.gates)) (gates_given net.gates g2) in
    let end : e2 + length b.gates ≡ h.end + length text = omega (arith, ap length b.is, length-append b.latches (b.outputs ++ b.gates), length-append b.outputs b.gates) in
    let all : g3 ≡ net = ap (λ (m : ℕ). whole m is net.latches net.outputs net.gates) (sym top) ∙ ap (λ (l : List ℕ). whole net.max_var l net.latches net.outputs net.gates) (sym b.inputs) in
    rw (r0, r1, r2) (ap (λ (g : Netlist). Ok (g, e2 + length b.gates)) all ∙ ap (λ (k : ℕ). Ok (net, k)) end)
