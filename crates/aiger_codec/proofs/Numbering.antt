-- The numbers that the table says are the places of the variables.
use Rattle.std.proofs.Common.{◌≡◌, ◌∙◌, ◌<◌, ◌≤◌, ◌+◌, ◌-◌, ◌*◌, ◌/◌, ℕ, zero, suc, Bool, true, false, List, [], ◌∷◌, max, min, map, length, get_or, refl, ap, ap₂, sym, subst, arith}
use Rattle.std.specs.List.{All}
use Rattle.std.proofs.lemmas.List.{get_or_default, get_or-map, get_or-append_right}
use Rattle.std.proofs.Math.Nat.{max-le}
use Rattle.circ_model.specs.declared.netlist.Latch.{Latch}
use Rattle.circ_model.specs.declared.netlist.Gate.{Gate}
use Rattle.circ_model.specs.declared.netlist.Reset.TheVariants.{Zero}
use Rattle.circ_model.specs.Netlist.{Netlist, IsSound, variables, leaf_variables, place_in, IsDefined, gate_at, no_gate}
use Rattle.circ_model.specs.Meaning.{literal, literal_by, is_odd}
use Rattle.circ_model.proofs.Order.{leaf_variable, gate_variable, length_variables, place_of_variable, Before, ordered}
use Rattle.circ_model.proofs.Rows.{length_leaves}
use Rattle.aiger_codec.specs.Renumbering.{IsNumbering, says, latch_by, gate_by, IsLatchOf, IsGateOf}

abbrev pub Numbers : Netlist → List ℕ → Type 0
Numbers net table = IsNumbering net (length (variables net)) table

abbrev pub no_latch : Latch
no_latch = record { var = 0; next = 0; reset = Zero }

pub latch_variable : (net : Netlist) (k : ℕ) → k < length net.latches → get_or (variables net) (1 + length net.inputs + k) 0 ≡ (get_or net.latches k no_latch).var
latch_variable net k lt =
    leaf_variable net (1 + length net.inputs + k) (omega (arith, length_leaves net))
    ∙ get_or-append_right (0 ∷ net.inputs) (map (λ (l : Latch). l.var) net.latches) (1 + length net.inputs) (1 + length net.inputs + k) 0 (omega arith) (omega arith)
    ∙ ap (λ (n : ℕ). get_or (map (λ (l : Latch). l.var) net.latches) n 0) (let h : 1 + length net.inputs + k - (1 + length net.inputs) ≡ k = omega arith in h)
    ∙ get_or-map (λ (l : Latch). l.var) net.latches k no_latch 0 lt

-- ---- the number of a variable that there is

number_is : (net : Netlist) (table : List ℕ) (q v : ℕ) → Numbers net table → q < length (variables net) → get_or (variables net) q 0 ≡ v → says table v ≡ q
number_is net table q v h lt e = subst (λ (w : ℕ). says table w ≡ q) e (h.at q lt lt)

place_is : (net : Netlist) (table : List ℕ) (q v : ℕ) → IsSound net → Numbers net table → q < length (variables net) → get_or (variables net) q 0 ≡ v → says table v ≡ place_in net v
place_is net table q v s h lt e = number_is net table q v h lt e ∙ sym (place_of_variable net q v s.once lt e)

literal_is : (net : Netlist) (table : List ℕ) (lit : ℕ) → IsSound net → Numbers net table → IsDefined net lit → literal_by (says table) lit ≡ literal_by (place_in net) lit
literal_is net table lit s h (q, within, is) = ap (λ (p : ℕ). literal p (is_odd lit)) (place_is net table q (lit / 2) s h within (get_or_default (variables net) q 0 (lit / 2) within ∙ is))

within_table : (net : Netlist) (table : List ℕ) (q v : ℕ) → IsSound net → Numbers net table → q < length (variables net) → get_or (variables net) q 0 ≡ v → v < length table
within_table net table q v s h lt e = let r = s.in_range q 0 lt in omega (arith, r, e, h.size)

defined_within : (net : Netlist) (table : List ℕ) (lit : ℕ) → IsSound net → Numbers net table → IsDefined net lit → lit / 2 < length table
defined_within net table lit s h (q, within, is) = within_table net table q (lit / 2) s h within (get_or_default (variables net) q 0 (lit / 2) within ∙ is)

-- ---- each latch, output and gate

latch_place : (net : Netlist) (k : ℕ) → k < length net.latches → 1 + length net.inputs + k < length (variables net)
latch_place net k lt = omega (arith, length_variables net, length_leaves net)

gate_place : (net : Netlist) (k : ℕ) → k < length net.gates → length (leaf_variables net) + k < length (variables net)
gate_place net k lt = omega (arith, length_variables net)

pub are_latches : (net : Netlist) (table : List ℕ) → IsSound net → Numbers net table → All (IsLatchOf table) net.latches
are_latches net table s h k d lt =
    let at : get_or net.latches k d ≡ get_or net.latches k no_latch = get_or_default net.latches k d no_latch lt in
    subst (IsLatchOf table) (sym at) (record {
      var = within_table net table (1 + length net.inputs + k) _ s h (latch_place net k lt) (latch_variable net k lt);
      next = defined_within net table _ s h (s.all_defined.latches k no_latch lt);
    })

pub are_outputs : (net : Netlist) (table : List ℕ) → IsSound net → Numbers net table → All (λ lit. lit / 2 < length table) net.outputs
are_outputs net table s h k d lt = defined_within net table _ s h (s.all_defined.outputs k d lt)

pub low_literal : (p n lit : ℕ) (b : Bool) → p < n → literal p b < 2 * n
low_literal p n lit true lt = omega arith
low_literal p n lit false lt = omega arith

-- a literal that stands before a gate has a lower number
before_low : (net : Netlist) (table : List ℕ) (k lit : ℕ) → Numbers net table → k < length net.gates → Before net k lit → literal_by (says table) lit < 2 * (length (leaf_variables net) + k)
before_low net table k lit h lt (q, less, e) =
    let n = number_is net table q (lit / 2) h (omega (arith, length_variables net)) e in
    low_literal (says table (lit / 2)) (length (leaf_variables net) + k) lit (is_odd lit) (omega (arith, n))

pub max_less : (a b n : ℕ) → a < n → b < n → max a b < n
max_less a b zero x y = absurd (omega arith)
max_less a b (suc n) x y = let h : max a b ≤ n = max-le (omega arith) (omega arith) in omega arith

gate_is : (net : Netlist) (table : List ℕ) (k : ℕ) → IsSound net → Numbers net table → k < length net.gates → IsGateOf table (gate_at net k)
gate_is net table k s h lt =
    let q : ℕ = length (leaf_variables net) + k in
    let e = gate_variable net k q lt refl in
    let defined = s.all_defined.gates k no_gate lt in
    let n : says table (gate_at net k).var ≡ q = number_is net table q (gate_at net k).var h (gate_place net k lt) e in
    let o = ordered net s in
    record {
      var = within_table net table q _ s h (gate_place net k lt) e;
      left = defined_within net table _ s h defined.0;
      right = defined_within net table _ s h defined.1;
      below = subst (λ (j : ℕ). (gate_by (says table) (gate_at net k)).left < 2 * j) (sym n)
          (max_less (literal_by (says table) (gate_at net k).left) (literal_by (says table) (gate_at net k).right) (2 * q) (before_low net table k _ h lt (o.left k lt)) (before_low net table k _ h lt (o.right k lt)));
    }

pub are_gates : (net : Netlist) (table : List ℕ) → IsSound net → Numbers net table → All (IsGateOf table) net.gates
are_gates net table s h k d lt = subst (IsGateOf table) (sym (get_or_default net.gates k d no_gate lt)) (gate_is net table k s h lt)

-- ---- the same lists by the table and by the places

map_same : {X Y : Type 0} (f h : X → Y) (xs : List X) (d : X) → ((k : ℕ) → k < length xs → f (get_or xs k d) ≡ h (get_or xs k d)) → map f xs ≡ map h xs
map_same f h [] d e = refl
map_same f h (x ∷ xs) d e = ap₂ (λ y ys. y ∷ ys) (e 0 (omega arith)) (map_same f h xs d (λ k lt. e (suc k) (omega arith)))

pub same_latches : (net : Netlist) (table : List ℕ) → IsSound net → Numbers net table → map (latch_by (says table)) net.latches ≡ map (latch_by (place_in net)) net.latches
same_latches net table s h = map_same (latch_by (says table)) (latch_by (place_in net)) net.latches no_latch (λ k lt.
    ap₂ (λ (v n : ℕ). record { var = v; next = n; reset = (get_or net.latches k no_latch).reset })
    (place_is net table (1 + length net.inputs + k) _ s h (latch_place net k lt) (latch_variable net k lt))
    (literal_is net table _ s h (s.all_defined.latches k no_latch lt)))

pub same_outputs : (net : Netlist) (table : List ℕ) → IsSound net → Numbers net table → map (literal_by (says table)) net.outputs ≡ map (literal_by (place_in net)) net.outputs
same_outputs net table s h = map_same (literal_by (says table)) (literal_by (place_in net)) net.outputs 0 (λ k lt. literal_is net table _ s h (s.all_defined.outputs k 0 lt))

abbrev made : ℕ → ℕ → ℕ → Gate
made v a b = record { var = v; left = max a b; right = min a b }

pub same_gates : (net : Netlist) (table : List ℕ) → IsSound net → Numbers net table → map (gate_by (says table)) net.gates ≡ map (gate_by (place_in net)) net.gates
same_gates net table s h = map_same (gate_by (says table)) (gate_by (place_in net)) net.gates no_gate (λ k lt.
    let q : ℕ = length (leaf_variables net) + k in
    let g : Gate = gate_at net k in
    let defined = s.all_defined.gates k no_gate lt in
    ap (λ (v : ℕ). made v (literal_by (says table) g.left) (literal_by (says table) g.right)) (place_is net table q g.var s h (gate_place net k lt) (gate_variable net k q lt refl))
    ∙ ap₂ (λ (a b : ℕ). made (place_in net g.var) a b) (literal_is net table g.left s h defined.0) (literal_is net table g.right s h defined.1))
