-- One item after another.
use Rattle.std.proofs.Common.{◌≡◌, ℕ, suc, ◌+◌, ◌-◌, ◌<◌, ◌≤◌, inl, inr, List, Result, Ok, Err, refl, sym, ◌∙◌, arith}
use Rattle.aiger_codec.specs.Lines.{line_at}
use Rattle.aiger_codec.specs.declared.fault.NetFault.{NetFault}
use Rattle.aig_graph.specs.declared.fault.BuildFault.{BuildFault}
use Rattle.circ_model.specs.Netlist.{Netlist}
use Rattle.aig_graph.specs.Given.{Refuses}
use Rattle.aiger_codec.specs.declared.section.Section.{Section}
use Rattle.aiger_codec.specs.declared.fault.NetError.{NetError}
use Rattle.aiger_codec.specs.declared.fault.NetError.TheVariants as errors
use Rattle.aiger_codec.specs.Sections.{least, most, added, item_at, items_at, Fails, IsErrorOf}

pub item_fails : (section : Section) (bytes : List ℕ) (s : Netlist × ℕ) (x : List ℕ × ℕ) (e : BuildFault) (n : NetError) → line_at (least section) (most section) bytes s.1 ≡ Ok x
    → Refuses e (added section s.0 x.0) → IsErrorOf n e s.1 → Fails n (item_at section bytes s)
unfolding item_at
item_fails section bytes s x e errors.Memory line due is = tt
item_fails section bytes s x e (errors.Refused f) line (inr m) is = absurd (is.1 m.0)
item_fails section bytes s x e (errors.Refused f) line (inl due) is = rw (line, due, is.0) refl

-- what is still read gives the whole
pub record Rest (section : Section) (bytes : List ℕ) (count i : ℕ) (s : Netlist × ℕ) (total : Result (Netlist × ℕ) NetFault) : Type 0 where
  pub is : items_at section (count - i) bytes s ≡ total

pub rest_first : (section : Section) (bytes : List ℕ) (count : ℕ) (s : Netlist × ℕ) → Rest section bytes count 0 s (items_at section count bytes s)
rest_first section bytes count s = record { is = let k : count - 0 ≡ count = omega arith in rw k refl }

pub rest_more : (section : Section) (bytes : List ℕ) (count i : ℕ) (s t : Netlist × ℕ) (total : Result (Netlist × ℕ) NetFault) → Rest section bytes count i s total → i < count → item_at section bytes s ≡ Ok t → Rest section bytes count (i + 1) t total
unfolding items_at
rest_more section bytes count i s t total r lt e =
    let k : count - i ≡ suc (count - (i + 1)) = omega arith in
    let one : items_at section (count - i) bytes s ≡ items_at section (count - (i + 1)) bytes t = rw (k, e) refl in
    record { is = sym one ∙ r.is }

pub rest_fails : (section : Section) (bytes : List ℕ) (count i : ℕ) (s : Netlist × ℕ) (total : Result (Netlist × ℕ) NetFault) (n : NetError) → Rest section bytes count i s total → i < count → Fails n (item_at section bytes s) → Fails n total
unfolding items_at
rest_fails section bytes count i s total errors.Memory r lt e = tt
rest_fails section bytes count i s total (errors.Refused f) r lt e =
    let k : count - i ≡ suc (count - (i + 1)) = omega arith in
    let one : items_at section (count - i) bytes s ≡ Err f = rw (k, e) refl in
    sym r.is ∙ one

pub rest_done : (section : Section) (bytes : List ℕ) (count i : ℕ) (s : Netlist × ℕ) (total : Result (Netlist × ℕ) NetFault) → Rest section bytes count i s total → count ≤ i → total ≡ Ok s
unfolding items_at
rest_done section bytes count i s total r le = let k : count - i ≡ 0 = omega arith in sym r.is ∙ rw k refl
