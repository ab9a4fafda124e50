-- In one frame: where the latches that stay have their values, so have all variables of a reduced netlist.
use Rattle.std.proofs.Common.{◌≡◌, ◌∙◌, ◌<◌, ◌≤◌, ◌+◌, ◌-◌, ⊎_elim, ℕ, List, ◌∷◌, length, map, get_or, ap, ap₂, sym, subst, arith, Bool, false, ◌&&◌, All}
use Rattle.std.specs.Prelude.{filter}
use Rattle.std.proofs.lemmas.Bool.{cases_lt}
use Rattle.std.proofs.lemmas.List.{get_or_append_left, get_or_default}
use Rattle.std.proofs.lemmas.List.Elements.{All-map, All-filter}
use Rattle.std.proofs.lemmas.List.Sorted.{All-permutation}
use Rattle.circ_model.specs.declared.netlist.Latch.{Latch}
use Rattle.circ_model.specs.declared.netlist.Gate.{Gate}
use Rattle.circ_model.specs.Netlist.{Netlist, IsSound, IsDefined, own, leaf_variables, gate_at, no_gate}
use Rattle.circ_model.specs.Meaning.{Leaves, leaf_bits, literal_value, product, value, Obeys, bit}
use Rattle.circ_model.proofs.Order.{ordered}
use Rattle.circ_model.proofs.Values.{value_obeys, only_one, literal_same}
use Rattle.circ_model.proofs.Rows.{length_leaves, variables_split, shared_bit, defined_at}
use Rattle.product_machine.proofs.Sides.{latch_at, latch_leaf, state_bit}
use Rattle.class_partition.specs.Classes.{Classes}
use Rattle.net_reduce.specs.Reduced.{stays, replaced, gate_with, reduced, IsReduced}
use Rattle.net_reduce.proofs.Replacing.{Replaces}

-- a latch has its bit of the state
pub latch_bit : (net : Netlist) (leaves : Leaves) (k : ℕ) → IsSound net → length leaves.inputs ≡ length net.inputs → k < length net.latches → value net leaves (latch_at net k).var ≡ bit leaves.state k
latch_bit net leaves k sound len lt =
    let q : ℕ = 1 + length net.inputs + k in
    ap (value net leaves) (sym (latch_leaf net k lt)) ∙ (value_obeys net leaves (ordered net sound)).at_leaves q (omega (arith, length_leaves net)) ∙ state_bit leaves (length net.inputs) k len

-- a gate of the reduced netlist is one of the netlist's with other literals
abbrev IsGateOf : Netlist → Classes → Gate → Type 0
IsGateOf net classes g = (i : ℕ) × (i < length net.gates) × (g ≡ gate_with (replaced net classes) (gate_at net i))

gates_of : (net r : Netlist) (classes : Classes) → IsReduced net classes r → All (IsGateOf net classes) r.gates
gates_of net r classes is =
    let with : Gate → Gate = gate_with (replaced net classes) in
    let stay : Gate → Bool = λ g. stays net classes g.var in
    All-permutation (IsGateOf net classes) (reduced net classes).gates r.gates is.gates
    (All-map (IsGateOf net classes) with (filter stay net.gates) (All-filter stay (λ (g : Gate). IsGateOf net classes (with g)) net.gates (λ i d lt. (i, lt, ap with (get_or_default net.gates i d no_gate lt)))))

-- the values of a netlist's variables obey what it is reduced to
pub obeys_reduced : (net r : Netlist) (classes : Classes) (left right : Leaves) → IsSound net → IsReduced net classes r → left.inputs ≡ right.inputs → length left.inputs ≡ length net.inputs
    → ((k : ℕ) → k < length r.latches → bit right.state k ≡ value net left (latch_at r k).var) → Replaces net classes (value net left) → Obeys r right (value net left)
obeys_reduced net r classes left right sound is inputs len state replaces = record {
  at_leaves = λ q lt. ⊎_elim (low q) (high q lt) (cases_lt q (1 + length net.inputs));
  at_gates = λ k lt.
      let (i, within, e) = gates_of net r classes is k no_gate lt in
      let g : Gate = gate_at net i in
      let d = sound.all_defined.gates i no_gate within in
      ap (λ (h : Gate). v h.var) e ∙ (value_obeys net left (ordered net sound)).at_gates i within
      ∙ ap₂ (λ (a b : Bool). a && b) (sym (replaces g.left d.0)) (sym (replaces g.right d.1)) ∙ sym (ap (product v) e);
}
  where
    v : ℕ → Bool
    v = value net left

    low : (q : ℕ) → q < 1 + length net.inputs → v (get_or (leaf_variables r) q 0) ≡ bit (leaf_bits right) q
    low q lt =
        let same = ap length is.inputs in
        ap v (
        get_or_append_left (0 ∷ r.inputs) (map (λ (l : Latch). l.var) r.latches) 0 q (omega arith)
        ∙ ap (λ (vs : List ℕ). get_or (0 ∷ vs) q 0) is.inputs ∙ sym (get_or_append_left (0 ∷ net.inputs) (own net) 0 q (omega arith)) ∙ sym (ap (λ (vs : List ℕ). get_or vs q 0) (variables_split net))
        )
        ∙ shared_bit net left q (ordered net sound) len lt ∙ ap (λ (bs : List Bool). bit (false ∷ bs) q) inputs
        ∙ sym (get_or_append_left (false ∷ right.inputs) right.state false q (let e = ap length inputs in omega arith))

    high : (q : ℕ) → q < length (leaf_variables r) → 1 + length net.inputs ≤ q → v (get_or (leaf_variables r) q 0) ≡ bit (leaf_bits right) q
    high q lt le =
        let same = ap length is.inputs in
        let k : ℕ = q - (1 + length r.inputs) in
        let at : q ≡ 1 + length r.inputs + k = omega arith in
        let less : k < length r.latches = omega (arith, length_leaves r) in
        rw at (ap v (latch_leaf r k less) ∙ sym (state k less) ∙ sym (state_bit right (length r.inputs) k (let e = ap length inputs in omega arith)))

-- so they are its values
pub same_values : (net r : Netlist) (left right : Leaves) → IsSound r → Obeys r right (value net left) → (lit : ℕ) → IsDefined r lit → literal_value (value r right) lit ≡ literal_value (value net left) lit
same_values net r left right sound obeys lit defined =
    let o = ordered r sound in
    let (q, within, e) = defined_at r lit defined in
    literal_same (value r right) (value net left) lit
    (subst (λ (w : ℕ). value r right w ≡ value net left w) e (only_one r right (value r right) (value net left) o (value_obeys r right o) obeys (q + 1) q (omega arith) within))
