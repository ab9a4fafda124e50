-- What finishing gives is sound, and has exactly what was given.
use Rattle.std.proofs.Common.{◌≡◌, ◌∙◌, ℕ, ◌/◌, inl, inr, List, map, get_or, subst, arith}
use Rattle.std.specs.List.{Contains}
use Rattle.std.specs.List.Sorted.{IsPermutation, IsNonDecreasingBy}
use Rattle.std.proofs.lemmas.List.{get_or_default}
use Rattle.std.proofs.lemmas.List.Elements.{All-contains_itself, Contains-append_cases, Contains-append_left, Contains-append_right}
use Rattle.std.proofs.lemmas.List.Sums.{sum_by-append}
use Rattle.std.proofs.lemmas.List.Sorted.{All-permutation, Contains-permutation, IsPermutation-map, IsPermutation-sym, sum_by-IsPermutation}
use Rattle.circ_model.specs.declared.netlist.Gate.{Gate}
use Rattle.circ_model.specs.Netlist.{Netlist, AllDefined, IsDefined, IsLevelling, variables, leaf_variables, gate_variables, no_gate}
use Rattle.aig_graph.specs.Levels.{IsHeld}
use Rattle.aig_graph.specs.Kept.{IsKept}
use Rattle.aig_graph.specs.Walk.{Fits, IsCyclic, IsLevels, key_of}
use Rattle.aig_graph.specs.Finish.{IsCircular}
use Rattle.aig_graph.proofs.Definitions.{leaf_cells, within, hit, times, variable_once, distinct}
use Rattle.aig_graph.proofs.Sorting.{sorted_gates}

-- ---- levels

levelling : (defs : List ℕ) (g : Netlist) (level : List ℕ) → IsKept defs g → IsLevels defs g.gates level → IsLevelling g (λ v. get_or level v 0)
levelling defs g level kept lv = record {
  leaves = λ k d lt. lv.leaf (get_or (leaf_variables g) k d) (leaf_cells defs g kept k d lt);
  gates = λ k d lt. subst (λ (q : Gate). Fits (λ v. get_or level v 0) q) (get_or_default g.gates k no_gate d lt) (lv.fit k lt);
}

pub circular : (g s : Netlist) → g ≡ s → IsCyclic g.gates → IsCircular s
circular g s e cyclic = subst IsCircular e (λ level lv. cyclic level (λ k lt. lv.gates k no_gate lt))

-- ---- the same variables, whatever the order of the gates

moved : (g : Netlist) (a b : List Gate) (v : ℕ) → IsPermutation a b → Contains (variables (record g { gates = a })) v → Contains (variables (record g { gates = b })) v
moved g a b v same c =
    let xs : List ℕ = map (λ (q : Gate). q.var) a in
    let ys : List ℕ = map (λ (q : Gate). q.var) b in
    elim (Contains-append_cases (leaf_variables g) xs v c) [
      | inl leaf ↦ Contains-append_left (leaf_variables g) ys v leaf
      | inr gate ↦ Contains-append_right (leaf_variables g) ys v (Contains-permutation xs ys v (IsPermutation-map (λ (q : Gate). q.var) a b same) gate)
    ]

as_often : (g : Netlist) (gs : List Gate) (v : ℕ) → IsPermutation g.gates gs → times v (variables (record g { gates = gs })) ≡ times v (variables g)
as_often g gs v same =
    let hs : List ℕ = map (λ (q : Gate). q.var) gs in
    let a = sum_by-append (hit v) (leaf_variables g) (gate_variables g) in
    let b = sum_by-append (hit v) (leaf_variables g) hs in
    let c = sum_by-IsPermutation (hit v) (gate_variables g) hs (IsPermutation-map (λ (q : Gate). q.var) g.gates gs same) in
    omega arith

pub held : (defs : List ℕ) (g : Netlist) (level : List ℕ) (gs : List Gate) → IsKept defs g → AllDefined g → IsLevels defs g.gates level → IsPermutation g.gates gs → IsNonDecreasingBy (key_of level) gs → IsHeld (record g { gates = gs }) level
held defs g level gs kept all lv same sorted =
    let n : Netlist = record g { gates = gs } in
    let fits = levelling defs g level kept lv in
    let fits_n : IsLevelling n (λ v. get_or level v 0) = record { leaves = fits.leaves; gates = All-permutation (λ (q : Gate). Fits (λ v. get_or level v 0) q) g.gates gs same fits.gates } in
    let forth : (lit : ℕ) → IsDefined g lit → IsDefined n lit = λ lit. moved g g.gates gs (lit / 2) same in
    record {
      sound = record {
        size = kept.size;
        output_count = kept.few;
        in_range = λ k d lt. within defs g (get_or (variables n) k d) kept (moved g gs g.gates (get_or (variables n) k d) (IsPermutation-sym g.gates gs same) (All-contains_itself (variables n) k d lt));
        once = distinct (variables n) (λ v. let a = as_often g gs v same in let b = variable_once defs g v kept in omega arith);
        all_defined = record {
          latches = λ k d lt. forth (get_or g.latches k d).next (all.latches k d lt);
          outputs = λ k d lt. forth (get_or g.outputs k d) (all.outputs k d lt);
          gates = All-permutation (λ (q : Gate). IsDefined n q.left × IsDefined n q.right) g.gates gs same (λ k d lt. let p = all.gates k d lt in (forth (get_or g.gates k d).left p.0, forth (get_or g.gates k d).right p.1));
        };
        ordered = ((λ v. get_or level v 0), fits_n, sorted_gates defs g level gs kept same sorted);
      };
      size = lv.len ∙ kept.len;
      fits = fits_n;
    }
