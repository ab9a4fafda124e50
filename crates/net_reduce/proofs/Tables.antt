-- The array of what stands for variables, and what it makes of a netlist.
use Rattle.std.proofs.Common.{◌≡◌, ◌≢◌, ◌∙◌, ◌<◌, ◌+◌, ◌/◌, ◌==◌, ⊎_elim, ℕ, suc, List, [], ◌∷◌, length, map, set, get_or, refl, ap, ap₂, sym, subst, arith, Bool, true, false, cond, if◌then◌else◌, eq-eqb}
use Rattle.std.specs.Prelude.{filter, All}
use Rattle.std.proofs.lemmas.Bool.{cases_eq, ne_eqb}
use Rattle.std.proofs.lemmas.List.{get_or_default, get_or-set_same, get_or-set_other, length-set}
use Rattle.circ_model.specs.declared.netlist.Latch.{Latch}
use Rattle.circ_model.specs.declared.netlist.Gate.{Gate}
use Rattle.circ_model.specs.Netlist.{Netlist, IsSound, IsDefined, variables, leaf_variables, place_in, gate_at, no_gate}
use Rattle.circ_model.specs.Meaning.{literal, negated, is_odd, signed}
use Rattle.circ_model.proofs.Literals.{half_literal, negated_literal}
use Rattle.circ_model.proofs.Order.{length_variables, gate_variable, place_of_variable}
use Rattle.circ_model.proofs.Rows.{length_leaves, defined_at}
use Rattle.product_machine.specs.Cells.{no_latch}
use Rattle.product_machine.proofs.Sides.{latch_at, latch_variable}
use Rattle.class_partition.specs.Classes.{Classes, ArePartition, least_of}
use Rattle.net_reduce.specs.Reduced.{stays, least_variable, is_complement, replaced, latch_with, gate_with, netlist_with, reduced}
use Rattle.net_reduce.specs.Table.{standing, IsTable, through, stays_by}

-- one place more
pub table_more : (net : Netlist) (classes : Classes) (table : List ℕ) (q v lit : ℕ) → IsSound net → v ≡ get_or (variables net) q 0 → q < length (variables net) → lit ≡ standing (variables net) classes q
    → IsTable net classes q table → IsTable net classes (q + 1) (set table v lit)
table_more net classes table q v lit sound here lt is h =
    let room = sound.in_range q 0 lt in
    let size = h.size in
    record {
      size = length-set table v lit ∙ h.size;
      at = λ r less within. ⊎_elim
          (λ (e : r ≡ q). rw (e, sym here) (get_or-set_same table v lit 0 (omega arith) ∙ is))
          (λ (other : r ≢ q). get_or-set_other table v (get_or (variables net) r 0) lit 0 (λ e. sound.once r q 0 (omega arith) lt (e ∙ here)) ∙ h.at r (omega arith) within)
          (cases_eq r q);
    }

-- what the array says of a defined literal's variable
table_says : (net : Netlist) (classes : Classes) (table : List ℕ) (lit : ℕ) → IsSound net → IsTable net classes (length (variables net)) table → IsDefined net lit
    → get_or table (lit / 2) 0 ≡ literal (least_variable net classes (lit / 2)) (is_complement net classes (lit / 2))
table_says net classes table lit sound is defined =
    let (q, lt, e) = defined_at net lit defined in
    let at : place_in net (lit / 2) ≡ q = place_of_variable net q (lit / 2) sound.once lt e in
    ap (λ (v : ℕ). get_or table v 0) (sym e) ∙ is.at q lt lt ∙ ap (standing (variables net) classes) (sym at)

-- a literal by the array is what stands for it
pub same_literal : (net : Netlist) (classes : Classes) (table : List ℕ) (lit : ℕ) → IsSound net → IsTable net classes (length (variables net)) table → IsDefined net lit → through table lit ≡ replaced net classes lit
same_literal net classes table lit sound is defined =
    let v : ℕ = least_variable net classes (lit / 2) in
    let s : Bool = is_complement net classes (lit / 2) in
    ap (λ (l : ℕ). if is_odd lit then negated l else l) (table_says net classes table lit sound is defined) ∙ by v s (is_odd lit)
  where
    by : (v : ℕ) (s odd : Bool) → (if odd then negated (literal v s) else literal v s) ≡ literal v (signed s odd)
    by v true true = negated_literal v true
    by v false true = negated_literal v false
    by v true false = refl
    by v false false = refl

-- a variable stays by the array where it is the least of its class
same_stays : (net : Netlist) (classes : Classes) (table : List ℕ) (q : ℕ) → IsSound net → ArePartition (length (variables net)) classes → IsTable net classes (length (variables net)) table → q < length (variables net)
    → stays_by table (get_or (variables net) q 0) ≡ stays net classes (get_or (variables net) q 0)
same_stays net classes table q sound partition is lt =
    let v : ℕ = get_or (variables net) q 0 in
    let r : ℕ = least_of classes q in
    let low = partition.lower q lt in
    let at : place_in net v ≡ q = place_of_variable net q v sound.once lt refl in
    let first : get_or table v 0 / 2 ≡ get_or (variables net) r 0 = ap (λ (l : ℕ). l / 2) (is.at q lt lt) ∙ half_literal (get_or (variables net) r 0) _ in
    let second : stays net classes v ≡ (r == q) = ap (λ (p : ℕ). least_of classes p == p) at in
    ap (λ (w : ℕ). w == v) first
    ∙ ⊎_elim
    (λ (e : r ≡ q). eq-eqb (get_or (variables net) r 0) v (ap (λ (p : ℕ). get_or (variables net) p 0) e) ∙ sym (eq-eqb r q e))
    (λ (n : r ≢ q). ne_eqb (get_or (variables net) r 0) v (sound.once r q 0 (omega arith) lt) ∙ sym (ne_eqb r q n))
    (cases_eq r q)
    ∙ sym second

-- two ways to keep and change what a list has, which agree on it
kept_same : {X Y : Type 0} (p q : X → Bool) (f h : X → Y) (xs : List X) (d : X) → ((k : ℕ) → k < length xs → (p (get_or xs k d) ≡ q (get_or xs k d)) × (f (get_or xs k d) ≡ h (get_or xs k d))) → map f (filter p xs) ≡ map h (filter q xs)
kept_same p q f h [] d e = refl
kept_same {X} {Y} p q f h (x ∷ xs) d e = ap (λ (b : Bool). map f (cond b (x ∷ filter p xs) (filter p xs))) (e 0 (omega arith)).0 ∙ by (q x) (kept_same p q f h xs d (λ k lt. e (suc k) (omega arith))) (e 0 (omega arith)).1
  where
    by : (b : Bool) → map f (filter p xs) ≡ map h (filter q xs) → f x ≡ h x → map f (cond b (x ∷ filter p xs) (filter p xs)) ≡ map h (cond b (x ∷ filter q xs) (filter q xs))
    by true rest one = ap₂ (λ (y : Y) (ys : List Y). y ∷ ys) one rest
    by false rest one = rest

latches_same : (net : Netlist) (classes : Classes) (table : List ℕ) → IsSound net → ArePartition (length (variables net)) classes → IsTable net classes (length (variables net)) table
    → (netlist_with (stays_by table) (through table) net).latches ≡ (reduced net classes).latches
latches_same net classes table sound partition is =
    kept_same (λ (l : Latch). stays_by table l.var) (λ (l : Latch). stays net classes l.var) (latch_with (through table)) (latch_with (replaced net classes)) net.latches no_latch (λ k lt.
    let l : Latch = latch_at net k in
    let q : ℕ = 1 + length net.inputs + k in
    let place = same_stays net classes table q sound partition is (omega (arith, length_variables net, length_leaves net)) in
    (subst (λ (v : ℕ). stays_by table v ≡ stays net classes v) (latch_variable net k lt) place, ap (λ (n : ℕ). with l n) (same_literal net classes table l.next sound is (sound.all_defined.latches k no_latch lt))))
  where
    with : Latch → ℕ → Latch
    with l n = record { var = l.var; next = n; reset = l.reset }

gates_same : (net : Netlist) (classes : Classes) (table : List ℕ) → IsSound net → ArePartition (length (variables net)) classes → IsTable net classes (length (variables net)) table
    → (netlist_with (stays_by table) (through table) net).gates ≡ (reduced net classes).gates
gates_same net classes table sound partition is =
    kept_same (λ (g : Gate). stays_by table g.var) (λ (g : Gate). stays net classes g.var) (gate_with (through table)) (gate_with (replaced net classes)) net.gates no_gate (λ k lt.
    let g : Gate = gate_at net k in
    let q : ℕ = length (leaf_variables net) + k in
    let place = same_stays net classes table q sound partition is (omega (arith, length_variables net)) in
    let d = sound.all_defined.gates k no_gate lt in (
      subst (λ (v : ℕ). stays_by table v ≡ stays net classes v) (gate_variable net k q lt refl) place,
      ap₂ (with g) (same_literal net classes table g.left sound is d.0) (same_literal net classes table g.right sound is d.1),
    ))
  where
    with : Gate → ℕ → ℕ → Gate
    with g a b = record { var = g.var; left = a; right = b }

map_same : (f h : ℕ → ℕ) (xs : List ℕ) → ((k : ℕ) → k < length xs → f (get_or xs k 0) ≡ h (get_or xs k 0)) → map f xs ≡ map h xs
map_same f h [] e = refl
map_same f h (x ∷ xs) e = ap₂ (λ (y : ℕ) (ys : List ℕ). y ∷ ys) (e 0 (omega arith)) (map_same f h xs (λ k lt. e (suc k) (omega arith)))

-- the netlist by the array is the reduced one
pub same_netlist : (net : Netlist) (classes : Classes) (table : List ℕ) → IsSound net → ArePartition (length (variables net)) classes → IsTable net classes (length (variables net)) table
    → netlist_with (stays_by table) (through table) net ≡ reduced net classes
same_netlist net classes table sound partition is =
    ap₂ (λ (ls : List Latch) (gs : List Gate). with ls (map (through table) net.outputs) gs) (latches_same net classes table sound partition is) (gates_same net classes table sound partition is)
    ∙ ap (λ (os : List ℕ). with (reduced net classes).latches os (reduced net classes).gates)
    (map_same (through table) (replaced net classes) net.outputs (λ k lt. same_literal net classes table (get_or net.outputs k 0) sound is (sound.all_defined.outputs k 0 lt)))
  where
    with : List Latch → List ℕ → List Gate → Netlist
    with ls os gs = record { max_var = net.max_var; inputs = net.inputs; latches = ls; outputs = os; gates = gs }

-- each variable is within its array
pub latch_within : (net : Netlist) (n : ℕ) → IsSound net → n ≡ net.max_var + 1 → All (λ (l : Latch). l.var < n) net.latches
latch_within net n sound e k d lt =
    let at = ap (λ (l : Latch). l.var) (get_or_default net.latches k d no_latch lt) in
    omega (arith, latch_variable net k lt, sound.in_range (1 + length net.inputs + k) 0 (omega (arith, length_variables net, length_leaves net)))

pub gate_within : (net : Netlist) (n : ℕ) → IsSound net → n ≡ net.max_var + 1 → All (λ (g : Gate). g.var < n) net.gates
gate_within net n sound e k d lt =
    let at = ap (λ (g : Gate). g.var) (get_or_default net.gates k d no_gate lt) in
    omega (arith, gate_variable net k (length (leaf_variables net) + k) lt refl, sound.in_range (length (leaf_variables net) + k) 0 (omega (arith, length_variables net)))
