-- One item after another.
use Rattle.std.proofs.Common.{◌≡◌, ℕ, suc, ◌+◌, ◌-◌, ◌<◌, ◌≤◌, inl, inr, Result, Ok, Err, refl, sym, ◌∙◌, arith}
use Rattle.circ_model.specs.Netlist.{Netlist}
use Rattle.aig_graph.specs.Given.{Refuses}
use Rattle.aig_graph.specs.declared.fault.BuildFault.{BuildFault}
use Rattle.aiger_codec.specs.declared.fault.NetFault.{NetFault}
use Rattle.aiger_codec.specs.declared.fault.NetError.{NetError}
use Rattle.aiger_codec.specs.declared.fault.NetError.TheVariants as errors
use Rattle.aiger_codec.specs.Sections.{placed, Fails, IsErrorOf}
use Rattle.aiger_binary.specs.Binary.{each_from}

-- what the builder refuses is what placing it refuses
pub placed_fails : (at end : ℕ) (due : Result Netlist BuildFault) (e : BuildFault) (n : NetError) → Refuses e due → IsErrorOf n e at → Fails n (placed at end due)
placed_fails at end due e errors.Memory refuses is = tt
placed_fails at end due e (errors.Refused f) (inr m) is = absurd (is.1 m.0)
placed_fails at end due e (errors.Refused f) (inl h) is = rw (h, is.0) refl

-- what is still read gives the whole
pub record Rest (item : ℕ → Netlist × ℕ → Result (Netlist × ℕ) NetFault) (count first i : ℕ) (s : Netlist × ℕ) (total : Result (Netlist × ℕ) NetFault) : Type 0 where
  pub is : each_from item (count - i) (first + i) s ≡ total

pub rest_first : (item : ℕ → Netlist × ℕ → Result (Netlist × ℕ) NetFault) (count first : ℕ) (s : Netlist × ℕ) → Rest item count first 0 s (each_from item count first s)
rest_first item count first s = record { is = let k : count - 0 ≡ count = omega arith in let v : first + 0 ≡ first = omega arith in rw (k, v) refl }

pub rest_more : (item : ℕ → Netlist × ℕ → Result (Netlist × ℕ) NetFault) (count first i : ℕ) (s t : Netlist × ℕ) (total : Result (Netlist × ℕ) NetFault) → Rest item count first i s total → i < count → item (first + i) s ≡ Ok t → Rest item count first (i + 1) t total
unfolding each_from
rest_more item count first i s t total r lt e =
    let k : count - i ≡ suc (count - (i + 1)) = omega arith in
    let v : first + i + 1 ≡ first + (i + 1) = omega arith in
    let one : each_from item (count - i) (first + i) s ≡ each_from item (count - (i + 1)) (first + (i + 1)) t = rw (k, e, v) refl in
    record { is = sym one ∙ r.is }

pub rest_fails : (item : ℕ → Netlist × ℕ → Result (Netlist × ℕ) NetFault) (count first i : ℕ) (s : Netlist × ℕ) (total : Result (Netlist × ℕ) NetFault) (n : NetError) → Rest item count first i s total → i < count → Fails n (item (first + i) s) → Fails n total
unfolding each_from
rest_fails item count first i s total errors.Memory r lt e = tt
rest_fails item count first i s total (errors.Refused f) r lt e =
    let k : count - i ≡ suc (count - (i + 1)) = omega arith in
    let one : each_from item (count - i) (first + i) s ≡ Err f = rw (k, e) refl in
    sym r.is ∙ one

pub rest_done : (item : ℕ → Netlist × ℕ → Result (Netlist × ℕ) NetFault) (count first i : ℕ) (s : Netlist × ℕ) (total : Result (Netlist × ℕ) NetFault) → Rest item count first i s total → count ≤ i → total ≡ Ok s
unfolding each_from
rest_done item count first i s total r le = let k : count - i ≡ 0 = omega arith in sym r.is ∙ rw k refl
