-- The evaluation of a netlist, gate by gate.
use Rattle.std.proofs.Common.{◌≡◌, ◌≢◌, ◌∙◌, ◌<◌, ◌≤◌, ◌+◌, ◌/◌, ◌⊎◌, inl, inr, ℕ, zero, suc, List, [], ◌∷◌, ◌++◌, length, map, get_or, set, refl, ap, sym, subst, arith, Bool, false}
use Rattle.std.specs.List.{Contains}
use Rattle.std.proofs.lemmas.Bool.{cases_lt, cases_eq}
use Rattle.std.proofs.lemmas.List.{length-map, get_or-map, get_or-set_same, get_or-set_other, length-set, map-append, get_or_default}
use Rattle.circ_model.specs.declared.netlist.Latch.{Latch}
use Rattle.circ_model.specs.declared.netlist.Gate.{Gate}
use Rattle.circ_model.specs.Netlist.{Netlist, IsSound, variables, leaf_variables, gate_variables, gate_at, no_gate}
use Rattle.circ_model.specs.Meaning.{Leaves, leaf_bits, bit, product, value}
use Rattle.circ_model.proofs.Order.{Before, ordered, length_variables, leaf_variable, gate_variable}
use Rattle.circ_model.proofs.Values.{product_same, value_obeys}
use Rattle.aig_graph.specs.Eval.{leaves_in, IsEvaluated}

-- the row has the value of each variable whose place is below n
abbrev pub UpTo : Netlist → Leaves → ℕ → List Bool → Type 0
UpTo net leaves n row = (q : ℕ) → q < n → q < length (variables net) → bit row (get_or (variables net) q 0) ≡ value net leaves (get_or (variables net) q 0)

-- after k gates
pub record IsUnderWay (net : Netlist) (old : List Bool) (k : ℕ) (row : List Bool) : Type 0 where
  pub size : length row ≡ length old
  pub values : UpTo net (leaves_in net old) (length (leaf_variables net) + k) row
  pub others : (v : ℕ) → (Contains (0 ∷ gate_variables net) v → ⊥) → bit row v ≡ bit old v

map_twice : {X Y Z : Type 0} (f : Y → Z) (h : X → Y) (xs : List X) → map f (map h xs) ≡ map (λ x. f (h x)) xs
map_twice f h [] = refl
map_twice f h (x ∷ xs) = ap (λ l. f (h x) ∷ l) (map_twice f h xs)

-- the bit of a leaf past the constant is the bit of its variable
leaf_bit : (net : Netlist) (old : List Bool) (q : ℕ) → 0 < q → q < length (leaf_variables net) → bit (leaf_bits (leaves_in net old)) q ≡ bit old (get_or (leaf_variables net) q 0)
leaf_bit net old zero some lt = absurd (omega arith)
leaf_bit net old (suc q) some lt =
    let vs : List ℕ = map (λ (l : Latch). l.var) net.latches in
    ap (λ (bs : List Bool). bit bs q) (ap (λ (bs : List Bool). map (bit old) net.inputs ++ bs) (sym (map_twice (bit old) (λ (l : Latch). l.var) net.latches)) ∙ sym (map-append (bit old) net.inputs vs))
    ∙ get_or-map (bit old) (net.inputs ++ vs) q 0 false (omega arith)

pub in_row : (net : Netlist) (q n : ℕ) → IsSound net → n ≡ net.max_var + 1 → q < length (variables net) → get_or (variables net) q 0 < n
in_row net q n sound e lt = let h = sound.in_range q 0 lt in omega arith

pub started : (net : Netlist) (old : List Bool) → IsSound net → length old ≡ net.max_var + 1 → IsUnderWay net old 0 (set old 0 false)
started net old sound size =
    let o = ordered net sound in
    record {
      size = length-set old 0 false;
      values = λ q lt within. at q (cases_eq q 0) (omega arith) within;
      others = λ v none. get_or-set_other old 0 v false false (λ e. none (0, omega arith, sym e));
    }
  where
    at : (q : ℕ) → (q ≡ 0) ⊎ (q ≢ 0) → q < length (leaf_variables net) → q < length (variables net) → bit (set old 0 false) (get_or (variables net) q 0) ≡ value net (leaves_in net old) (get_or (variables net) q 0)
    at q (inl e) lt within =
        let l = (value_obeys net (leaves_in net old) (ordered net sound)).at_leaves 0 (omega arith) in
        rw e (get_or-set_same old 0 false false (omega arith) ∙ sym l)
    at q (inr ne) lt within =
        let v = leaf_variable net q lt in
        let apart : get_or (variables net) q 0 ≢ 0 = λ e. sound.once 0 q 0 (omega arith) within (sym e) in
        get_or-set_other old 0 (get_or (variables net) q 0) false false apart ∙ ap (bit old) v ∙ sym (leaf_bit net old q (omega arith) lt)
        ∙ sym ((value_obeys net (leaves_in net old) (ordered net sound)).at_leaves q lt) ∙ ap (value net (leaves_in net old)) (sym v)

-- the operands of gate k have their values
operand : (net : Netlist) (leaves : Leaves) (row : List Bool) (k lit : ℕ) → UpTo net leaves (length (leaf_variables net) + k) row → Before net k lit → k < length net.gates → bit row (lit / 2) ≡ value net leaves (lit / 2)
operand net leaves row k lit done p lt = subst (λ (v : ℕ). bit row v ≡ value net leaves v) p.2 (done p.0 p.1 (omega (arith, p.1, length_variables net)))

pub operand_room : (net : Netlist) (k lit n : ℕ) → IsSound net → n ≡ net.max_var + 1 → Before net k lit → k < length net.gates → lit / 2 < n
operand_room net k lit n sound e p lt = let h = in_row net p.0 n sound e (omega (arith, p.1, length_variables net)) in omega (arith, p.2)

pub left_room : (net : Netlist) (k n : ℕ) → IsSound net → n ≡ net.max_var + 1 → k < length net.gates → (gate_at net k).left / 2 < n
left_room net k n sound e lt = operand_room net k (gate_at net k).left n sound e ((ordered net sound).left k lt) lt

pub right_room : (net : Netlist) (k n : ℕ) → IsSound net → n ≡ net.max_var + 1 → k < length net.gates → (gate_at net k).right / 2 < n
right_room net k n sound e lt = operand_room net k (gate_at net k).right n sound e ((ordered net sound).right k lt) lt

pub var_room : (net : Netlist) (k n : ℕ) → IsSound net → n ≡ net.max_var + 1 → k < length net.gates → (gate_at net k).var < n
var_room net k n sound e lt =
    let h = in_row net (length (leaf_variables net) + k) n sound e (omega (arith, length_variables net)) in
    let v = gate_variable net k (length (leaf_variables net) + k) lt refl in omega arith

pub stepped : (net : Netlist) (old row : List Bool) (k : ℕ) (b : Bool) → IsSound net → length old ≡ net.max_var + 1 → k < length net.gates → b ≡ product (bit row) (gate_at net k) → IsUnderWay net old k row → IsUnderWay net old (k + 1) (set row (gate_at net k).var b)
stepped net old row k b sound size lt is h =
    record {
      size = length-set row (gate_at net k).var b ∙ h.size;
      values = λ q less within. at q (cases_lt q (length (leaf_variables net) + k)) less within;
      others = λ v none. get_or-set_other row (gate_at net k).var v b false (λ e. none (gate_in (sym e))) ∙ h.others v none;
    }
  where
    gate_in : {v : ℕ} → (gate_at net k).var ≡ v → Contains (0 ∷ gate_variables net) v
    gate_in {v} e = (suc k, (let l = length-map net.gates (λ (g : Gate). g.var) in omega arith), get_or-map (λ (g : Gate). g.var) net.gates k no_gate v lt ∙ e)

    at : (q : ℕ) → (q < length (leaf_variables net) + k) ⊎ (length (leaf_variables net) + k ≤ q) → q < length (leaf_variables net) + (k + 1) → q < length (variables net) → bit (set row (gate_at net k).var b) (get_or (variables net) q 0) ≡ value net (leaves_in net old) (get_or (variables net) q 0)
    at q (inl a) less within =
        let v = gate_variable net k (length (leaf_variables net) + k) lt refl in
        let apart : get_or (variables net) q 0 ≢ (gate_at net k).var = λ e. sound.once q (length (leaf_variables net) + k) 0 a (omega (arith, length_variables net)) (e ∙ sym v) in
        get_or-set_other row (gate_at net k).var (get_or (variables net) q 0) b false apart ∙ h.values q a within
    at q (inr a) less within =
        let o = ordered net sound in
        let v = gate_variable net k q lt (omega arith) in
        let room : (gate_at net k).var < length row = var_room net k (length row) sound (h.size ∙ size) lt in
        ap (bit (set row (gate_at net k).var b)) v ∙ get_or-set_same row (gate_at net k).var b false room ∙ is
        ∙ product_same (bit row) (value net (leaves_in net old)) (gate_at net k) (operand net (leaves_in net old) row k (gate_at net k).left h.values (o.left k lt) lt) (operand net (leaves_in net old) row k (gate_at net k).right h.values (o.right k lt) lt)
        ∙ sym ((value_obeys net (leaves_in net old) o).at_gates k lt) ∙ ap (value net (leaves_in net old)) (sym v)

pub ended : (net : Netlist) (old row : List Bool) (k : ℕ) → length net.gates ≤ k → IsUnderWay net old k row → IsEvaluated net old row
ended net old row k le h = record {
  size = h.size;
  values = λ q d lt. let e = get_or_default (variables net) q d 0 lt in subst (λ (v : ℕ). bit row v ≡ value net (leaves_in net old) v) (sym e) (h.values q (omega (arith, length_variables net)) lt);
  others = h.others;
}

-- what a read of the list of gates gives
pub read_gate : (net : Netlist) (items : List Gate) (k : ℕ) (g : Gate) → items ≡ net.gates → k < length items → g ≡ get_or items k g → g ≡ gate_at net k
read_gate net items k g e lt is = is ∙ get_or_default items k g no_gate lt ∙ ap (λ (gs : List Gate). get_or gs k no_gate) e
