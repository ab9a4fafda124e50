-- One item after another, and what an input adds.
use Rattle.std.proofs.Common.{◌≡◌, ◌∙◌, ℕ, suc, ◌+◌, ◌-◌, ◌<◌, ◌≤◌, Bool, true, false, cond, [], ◌∷◌, ◌++◌, Result, Ok, Err, refl, sym, ap, arith}
use Rattle.circ_model.specs.Netlist.{Netlist}
use Rattle.aig_graph.specs.declared.fault.BuildFault.{BuildFault}
use Rattle.aig_graph.specs.declared.fault.BuildFault.TheVariants as faults
use Rattle.aig_graph.specs.Given.{is_defined, bad_var, with_input}
use Rattle.demo_pair.specs.Demo.{Making, each}

-- ---- what is still to be made gives the whole

pub record Rest (item : ℕ → Making → Making) (count first i : ℕ) (s total : Making) : Type 0 where
  pub is : each item (count - i) (first + i) s ≡ total

pub rest_first : (item : ℕ → Making → Making) (count first : ℕ) (s : Making) → Rest item count first 0 s (each item count first s)
rest_first item count first s = record { is = let k : count - 0 ≡ count = omega arith in let v : first + 0 ≡ first = omega arith in rw (k, v) refl }

pub rest_more : (item : ℕ → Making → Making) (count first i : ℕ) (s t total : Making) → Rest item count first i s total → i < count → t ≡ item (first + i) s → Rest item count first (i + 1) t total
unfolding each
rest_more item count first i s t total r lt e =
    let k : count - i ≡ suc (count - (i + 1)) = omega arith in
    let v : first + i + 1 ≡ first + (i + 1) = omega arith in
    let one : each item (count - i) (first + i) s ≡ each item (count - (i + 1)) (first + (i + 1)) t = rw (k, e) (ap (λ (w : ℕ). each item (count - (i + 1)) w (item (first + i) s)) v) in
    record { is = sym one ∙ r.is }

pub rest_done : (item : ℕ → Making → Making) (count first i : ℕ) (s total : Making) → Rest item count first i s total → count ≤ i → s ≡ total
unfolding each
rest_done item count first i s total r le = let k : count - i ≡ 0 = omega arith in sym (rw k refl) ∙ r.is

-- ---- a builder that takes an input has it

abbrev adds : Netlist → Result Netlist BuildFault
adds g = Ok g

refused : (b : Bool) (e : BuildFault) (r : Result Netlist BuildFault) (h : Netlist) → cond b (Err e) r ≡ Ok h → (b ≡ false) × (r ≡ Ok h)
refused true e r h is = absurd cc
refused false e r h is = (refl, is)

given_is : (g h : Netlist) → adds g ≡ adds h → h ≡ g
given_is g h e = sym cc

pub input_is : (g h : Netlist) (v : ℕ) → with_input g v ≡ Ok h → h ≡ record g { inputs = g.inputs ++ v ∷ [] }
input_is g h v e =
    let a = refused (bad_var g v) faults.Literal _ h e in
    let b = refused (is_defined g v) faults.Redefined _ h a.1 in
    given_is _ h b.1
