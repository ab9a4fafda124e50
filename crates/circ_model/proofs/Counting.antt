-- How many variables a sound netlist has, and which is the last of a place's.
use Rattle.std.proofs.Common.{◌≡◌, ◌∙◌, ◌<◌, ◌≤◌, ◌+◌, ◌==◌, ⊎_elim, ℕ, suc, true, List, [], ◌∷◌, length, get_or, ap, sym, arith}
use Rattle.std.specs.List.{list_any}
use Rattle.std.proofs.lemmas.Bool.{or_cases, eqb-true}
use Rattle.std.proofs.lemmas.Bool.Decides.{Decides-eqb}
use Rattle.std.proofs.lemmas.List.{get_or_default}
use Rattle.std.proofs.lemmas.Map.Made.{IsDistinct-from_AllPairs}
use Rattle.std.proofs.lemmas.Map.Steps.{length-le_from_distinct_below}
use Rattle.circ_model.specs.declared.netlist.Gate.{Gate}
use Rattle.circ_model.specs.Netlist.{Netlist, IsSound, variables, no_gate}
use Rattle.circ_model.proofs.Order.{gate_variable, length_variables}
use Rattle.circ_model.proofs.Rows.{length_leaves}

below : (q n : ℕ) (xs : List ℕ) → ((i : ℕ) → i < length xs → get_or xs i 0 < n) → list_any (λ x. q == x) xs ≡ true → q < n
below q n [] each h = absurd (let f : ⊥ = cc in f)
below q n (x ∷ xs) each h =
    ⊎_elim (λ (e : (q == x) ≡ true). let s = eqb-true q x e in let l = each 0 (omega arith) in let r : q < n = omega arith in r)
    (λ (e : list_any (λ y. q == y) xs ≡ true). below q n xs (λ i lt. each (suc i) (omega arith)) e)
    (or_cases (q == x) (list_any (λ y. q == y) xs) h)

pub few_variables : (net : Netlist) → IsSound net → length (variables net) ≤ net.max_var + 1
few_variables net sound =
    length-le_from_distinct_below (variables net) (net.max_var + 1) (IsDistinct-from_AllPairs Decides-eqb (variables net) sound.once)
    (λ q h. below q (net.max_var + 1) (variables net) (λ i lt. let a = sound.in_range i 0 lt in omega arith) h)

pub count_variables : (net : Netlist) → length (variables net) ≡ 1 + length net.inputs + length net.latches + length net.gates
count_variables net = omega (arith, length_variables net, length_leaves net)

pub last_variable : (net : Netlist) (gates : List Gate) (g : Gate) (q k : ℕ) → gates ≡ net.gates → q ≡ 1 + length net.inputs + length net.latches + k → k < length gates → (get_or gates k g).var ≡ get_or (variables net) q 0
last_variable net gates g q k e at lt =
    ap (λ (h : Gate). h.var) (get_or_default gates k g no_gate lt ∙ ap (λ (gs : List Gate). get_or gs k no_gate) e)
    ∙ sym (gate_variable net k q (let s = ap length e in omega arith) (omega (arith, length_leaves net)))
