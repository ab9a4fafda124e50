-- A variable has one level, however a netlist is levelled.
use Rattle.std.proofs.Common.{◌≡◌, ◌∙◌, ◌<◌, ◌≤◌, ◌-◌, ◌/◌, inl, inr, ℕ, zero, suc, List, length, get_or, sym, subst, arith}
use Rattle.std.specs.List.{Contains}
use Rattle.std.proofs.lemmas.Bool.{cases_lt}
use Rattle.std.proofs.lemmas.List.{get_or_default}
use Rattle.circ_model.specs.Netlist.{Netlist, IsSound, AllDefined, IsLevelling, variables, leaf_variables, gate_at, no_gate}
use Rattle.circ_model.proofs.Order.{length_variables, leaf_variable, gate_variable}
use Rattle.aig_graph.specs.Levels.{IsLevelOf, IsHeld}

-- two levellings agree on gates up to this level
abbrev AgreeTo : Netlist → (ℕ → ℕ) → (ℕ → ℕ) → ℕ → Type 0
AgreeTo net f h n = (k : ℕ) → k < length net.gates → f (gate_at net k).var ≤ n → f (gate_at net k).var ≡ h (gate_at net k).var

at_place : (net : Netlist) (f h : ℕ → ℕ) (n q : ℕ) → IsLevelling net f → IsLevelling net h → AgreeTo net f h n → q < length (variables net) → f (get_or (variables net) q 0) ≤ n → f (get_or (variables net) q 0) ≡ h (get_or (variables net) q 0)
at_place net f h n q a b gates lt le =
    elim (cases_lt q (length (leaf_variables net))) [
      | inl leaf ↦ let e = leaf_variable net q leaf in rw e (a.leaves q 0 leaf ∙ sym (b.leaves q 0 leaf))
      | inr past ↦
          let k : ℕ = q - length (leaf_variables net) in
          let kl : k < length net.gates = omega (arith, length_variables net) in
          let e = gate_variable net k q kl (omega arith) in
          let low : f (gate_at net k).var ≤ n = subst (λ (v : ℕ). f v ≤ n) e le in
          rw e (gates k kl low)
    ]

at_variable : (net : Netlist) (f h : ℕ → ℕ) (n v : ℕ) → IsLevelling net f → IsLevelling net h → AgreeTo net f h n → Contains (variables net) v → f v ≤ n → f v ≡ h v
at_variable net f h n v a b gates c le =
    let is : get_or (variables net) c.0 0 ≡ v = get_or_default (variables net) c.0 0 v c.1 ∙ c.2 in
    subst (λ (w : ℕ). f w ≤ n → f w ≡ h w) is (at_place net f h n c.0 a b gates c.1) le

at_gate : (net : Netlist) (f h : ℕ → ℕ) (n : ℕ) → AllDefined net → IsLevelling net f → IsLevelling net h → AgreeTo net f h n
at_gate net f h zero all a b k lt le = let p = a.gates k no_gate lt in absurd (omega arith)
at_gate net f h (suc n) all a b k lt le =
    let p = a.gates k no_gate lt in
    let q = b.gates k no_gate lt in
    let d = all.gates k no_gate lt in
    let l = at_variable net f h n ((gate_at net k).left / 2) a b (at_gate net f h n all a b) d.0 (omega arith) in
    let r = at_variable net f h n ((gate_at net k).right / 2) a b (at_gate net f h n all a b) d.1 (omega arith) in
    omega arith

pub one_level : (net : Netlist) (f h : ℕ → ℕ) (v : ℕ) → AllDefined net → IsLevelling net f → IsLevelling net h → Contains (variables net) v → f v ≡ h v
one_level net f h v all a b c = at_variable net f h (f v) v a b (at_gate net f h (f v) all a b) c (omega arith)

pub level_read : (net seen : Netlist) (levels : List ℕ) (v x : ℕ) → net ≡ seen → IsHeld net levels → Contains (variables seen) v → x ≡ get_or levels v x → IsLevelOf seen v x
level_read net seen levels v x e held c is =
    subst (λ (n : Netlist). Contains (variables n) v → IsLevelOf n v x) e (λ within level fits.
    let range = in_range net v held.sound within in
    is ∙ get_or_default levels v x 0 (omega (arith, held.size)) ∙ one_level net (λ w. get_or levels w 0) level v held.sound.all_defined held.fits fits within) c
  where
    in_range : (n : Netlist) (w : ℕ) → IsSound n → Contains (variables n) w → w ≤ n.max_var
    in_range n w sound d = subst (λ (u : ℕ). u ≤ n.max_var) d.2 (sound.in_range d.0 w d.1)
