-- What the items leave, and the choices so far.
use Rattle.std.proofs.Common.{◌≡◌, ◌∙◌, ℕ, zero, suc, ◌+◌, ◌-◌, ◌<◌, ◌≤◌, Bool, ◌==◌, List, [], ◌∷◌, ◌++◌, map, length, get_or, refl, sym, ap, arith, length-append, append_assoc}
use Rattle.std.specs.List.{All}
use Rattle.std.proofs.lemmas.List.{get_or_default, get_or-map, get_or-append_right}
use Rattle.circ_model.specs.declared.netlist.Latch.{Latch}
use Rattle.circ_model.specs.declared.netlist.Reset.TheVariants.{Zero}
use Rattle.circ_model.specs.Netlist.{Netlist, IsSound, variables}
use Rattle.circ_model.proofs.Order.{leaf_variable, length_variables}
use Rattle.circ_model.proofs.Rows.{length_leaves}
use Rattle.rand_pcg.specs.Lcg.{Lcg}
use Rattle.demo_pair.specs.Demo.{Making, drawn, choices, gate_made, latch_made, output_made, each}

-- ---- nothing but an output adds to the outputs

pub keeps : (item : ℕ → Making → Making) (n v : ℕ) (s : Making) → ((w : ℕ) (t : Making) → (item w t).0.outputs ≡ t.0.outputs) → (each item n v s).0.outputs ≡ s.0.outputs
unfolding each
keeps item zero v s one = refl
keeps item (suc n) v s one = keeps item n (v + 1) (item v s) one ∙ one v s

pub gate_keeps : (v : ℕ) (s : Making) → (gate_made v s).0.outputs ≡ s.0.outputs
unfolding gate_made
gate_keeps v s = refl

pub latch_keeps : (m v : ℕ) (s : Making) → (latch_made m v s).0.outputs ≡ s.0.outputs
unfolding latch_made
latch_keeps m v s = refl

pub output_adds : (m j : ℕ) (s : Making) → length (output_made m j s).0.outputs ≡ length s.0.outputs + 1
unfolding output_made
output_adds m j s = length-append s.0.outputs _

-- ---- one choice more

pub choices_more : (items total : List Bool) (count i : ℕ) (g h : Lcg) (b : ℕ) → items ++ choices (count - i) g ≡ total → i < count → b ≡ (drawn 2 g).0 → h ≡ (drawn 2 g).1 → (items ++ (b == 1) ∷ []) ++ choices (count - (i + 1)) h ≡ total
unfolding choices
choices_more items total count i g h b so_far lt eb eh =
    let k : count - i ≡ suc (count - (i + 1)) = omega arith in
    let one : choices (count - i) g ≡ (b == 1) ∷ choices (count - (i + 1)) h = rw (k, eb, eh) refl in
    append_assoc items ((b == 1) ∷ []) (choices (count - (i + 1)) h) ∙ ap (λ (l : List Bool). items ++ l) (sym one) ∙ so_far

-- ---- the latches of a sound netlist are within the limit

abbrev no_latch : Latch
no_latch = record { var = 0; next = 0; reset = Zero }

latch_variable : (net : Netlist) (k : ℕ) → k < length net.latches → get_or (variables net) (1 + length net.inputs + k) 0 ≡ (get_or net.latches k no_latch).var
latch_variable net k lt =
    leaf_variable net (1 + length net.inputs + k) (omega (arith, length_leaves net))
    ∙ get_or-append_right (0 ∷ net.inputs) (map (λ (l : Latch). l.var) net.latches) (1 + length net.inputs) (1 + length net.inputs + k) 0 (omega arith) (omega arith)
    ∙ ap (λ (n : ℕ). get_or (map (λ (l : Latch). l.var) net.latches) n 0) (let h : 1 + length net.inputs + k - (1 + length net.inputs) ≡ k = omega arith in h)
    ∙ get_or-map (λ (l : Latch). l.var) net.latches k no_latch 0 lt

pub few_latches : (net : Netlist) → IsSound net → All (λ (l : Latch). l.var ≤ 1000000) net.latches
few_latches net s k d lt =
    let at = ap (λ (l : Latch). l.var) (get_or_default net.latches k d no_latch lt) in
    let in_range = s.in_range (1 + length net.inputs + k) 0 (omega (arith, length_variables net, length_leaves net)) in
    omega (arith, at, in_range, latch_variable net k lt, s.size)
