-- The outputs that a section's lines add, one a line.
use Rattle.std.proofs.Common.{◌≡◌, ℕ, zero, suc, ◌+◌, ◌-◌, ◌/◌, ◌%◌, ◌<◌, Bool, true, false, cond, ◌||◌, eqb, List, [], ◌∷◌, length, get_or, Option, Some, None, Result, Ok, Err, refl, sym, ap, subst, ◌∙◌, arith, length-append}
use Rattle.circ_model.specs.declared.netlist.Reset.{Reset}
use Rattle.circ_model.specs.Netlist.{Netlist}
use Rattle.aig_graph.specs.declared.fault.BuildFault.{BuildFault}
use Rattle.aig_graph.specs.declared.fault.BuildFault.TheVariants as faults
use Rattle.aig_graph.specs.Given.{is_defined, bad_var, bad_literal, reset_of, with_input, with_latch, with_gate, latch_added}
use Rattle.aiger_codec.specs.Lines.{line_at}
use Rattle.aiger_codec.specs.declared.fault.NetFault.{NetFault}
use Rattle.aiger_codec.specs.declared.section.Section.{Section}
use Rattle.aiger_codec.specs.declared.section.Section.TheVariants.{Inputs, Latches, Outputs, Gates}
use Rattle.aiger_codec.specs.Sections.{◌>>=◌, least, most, added, placed, item_at, items_at}
use Rattle.aiger_codec.specs.Room.{HasRoom}

-- ---- what an answer that is no refusal says

pub bind_is : {A B : Type 0} (r : Result A NetFault) (f : A → Result B NetFault) (y : B) → (r >>= f) ≡ Ok y → (x : A) × (r ≡ Ok x) × (f x ≡ Ok y)
bind_is (Ok x) f y e = (x, refl, e)
bind_is (Err n) f y e = absurd cc

pub placed_is : (at end : ℕ) (r : Result Netlist BuildFault) (t : Netlist × ℕ) → placed at end r ≡ Ok t → (g : Netlist) × (r ≡ Ok g) × (t ≡ (g, end))
placed_is at end (Ok g) t e = (g, refl, sym cc)
placed_is at end (Err n) t e = absurd cc

pub refused : (b : Bool) (e : BuildFault) (r : Result Netlist BuildFault) (h : Netlist) → cond b (Err e) r ≡ Ok h → (b ≡ false) × (r ≡ Ok h)
refused true e r h is = absurd cc
refused false e r h is = (refl, is)

abbrev adds : Netlist → Result Netlist BuildFault
adds g = Ok g

pub given_is : (g h : Netlist) → adds g ≡ adds h → g ≡ h
given_is g h e = cc

-- ---- one line

-- the outputs that a line of the section adds
abbrev pub outputs_of_line : Section → ℕ
outputs_of_line Inputs = 0
outputs_of_line Latches = 0
outputs_of_line Outputs = 1
outputs_of_line Gates = 0

same_outputs : (g h : Netlist) (k : Netlist) → adds k ≡ Ok h → k.outputs ≡ g.outputs → length h.outputs ≡ length g.outputs + 0
same_outputs g h k e is = let a = ap (λ (x : Netlist). length x.outputs) (given_is k h e) in let b = ap length is in omega arith

pub latch_is : (g h : Netlist) (v next : ℕ) (r : Option Reset) → latch_added g v next r ≡ Ok h → (reset : Reset) × (r ≡ Some reset) × (latch_added g v next (Some reset) ≡ Ok h)
latch_is g h v next None e = absurd cc
latch_is g h v next (Some reset) e = (reset, refl, e)

line_outputs : (section : Section) (g h : Netlist) (ns : List ℕ) → added section g ns ≡ Ok h → length h.outputs ≡ length g.outputs + outputs_of_line section
line_outputs Inputs g h ns e =
    let a = refused (eqb (get_or ns 0 0 % 2) 1) faults.Literal (with_input g (get_or ns 0 0 / 2)) h e in
    let b = refused (bad_var g (get_or ns 0 0 / 2)) faults.Literal _ h a.1 in
    let c = refused (is_defined g (get_or ns 0 0 / 2)) faults.Redefined _ h b.1 in
    same_outputs g h _ c.1 refl
line_outputs Latches g h ns e =
    let v : ℕ = get_or ns 0 0 / 2 in
    let a = refused (eqb (get_or ns 0 0 % 2) 1) faults.Literal (with_latch g v (get_or ns 1 0) (get_or ns 2 0)) h e in
    let b = refused (bad_var g v || bad_literal g (get_or ns 1 0)) faults.Literal _ h a.1 in
    let c = refused (is_defined g v) faults.Redefined _ h b.1 in
    let d = latch_is g h v (get_or ns 1 0) (reset_of v (get_or ns 2 0)) c.1 in
    same_outputs g h _ d.2 refl
line_outputs Outputs g h ns e =
    let a = refused (bad_literal g (get_or ns 0 0)) faults.Literal _ h e in
    sym (ap (λ (x : Netlist). length x.outputs) (given_is _ h a.1)) ∙ length-append g.outputs (get_or ns 0 0 ∷ [])
line_outputs Gates g h ns e =
    let v : ℕ = get_or ns 0 0 / 2 in
    let a = refused (eqb (get_or ns 0 0 % 2) 1) faults.Literal (with_gate g v (get_or ns 1 0) (get_or ns 2 0)) h e in
    let b = refused (bad_var g v || bad_literal g (get_or ns 1 0) || bad_literal g (get_or ns 2 0)) faults.Literal _ h a.1 in
    let c = refused (is_defined g v) faults.Redefined _ h b.1 in
    same_outputs g h _ c.1 refl

item_outputs : (section : Section) (bytes : List ℕ) (s t : Netlist × ℕ) → item_at section bytes s ≡ Ok t → length t.0.outputs ≡ length s.0.outputs + outputs_of_line section
unfolding item_at
item_outputs section bytes s t e =
    let a = bind_is (line_at (least section) (most section) bytes s.1) _ t e in
    let b = placed_is s.1 a.0.1 (added section s.0 a.0.0) t a.2 in
    let c = ap (λ (x : Netlist × ℕ). length x.0.outputs) b.2 in
    c ∙ line_outputs section s.0 b.0 a.0.0 b.1

-- ---- a section

pub items_keep : (section : Section) (n : ℕ) (bytes : List ℕ) (s t : Netlist × ℕ) → outputs_of_line section ≡ 0 → items_at section n bytes s ≡ Ok t → length t.0.outputs ≡ length s.0.outputs
unfolding items_at
items_keep section zero bytes s t none e = ap (λ (x : Netlist × ℕ). length x.0.outputs) (sym (state_is s t e))
  where
    state_is : (a b : Netlist × ℕ) → items_at section zero bytes a ≡ Ok b → a ≡ b
    state_is a b h = cc
items_keep section (suc n) bytes s t none e =
    let a = bind_is (item_at section bytes s) (items_at section n bytes) t e in
    let b = item_outputs section bytes s a.0 a.1 in
    let c = items_keep section n bytes a.0 t none a.2 in
    omega arith

pub room_here : (section : Section) (count i : ℕ) (g : Netlist) → HasRoom section (count - i) g → i < count → HasRoom section 1 g
room_here Inputs count i g room lt = tt
room_here Latches count i g room lt = tt
room_here Outputs count i g room lt = omega arith
room_here Gates count i g room lt = tt

pub room_next : (section : Section) (bytes : List ℕ) (count i : ℕ) (s t : Netlist × ℕ) → HasRoom section (count - i) s.0 → i < count → item_at section bytes s ≡ Ok t → HasRoom section (count - (i + 1)) t.0
room_next Inputs bytes count i s t room lt e = tt
room_next Latches bytes count i s t room lt e = tt
room_next Outputs bytes count i s t room lt e = let h = item_outputs Outputs bytes s t e in omega arith
room_next Gates bytes count i s t room lt e = tt

pub room_first : (section : Section) (count : ℕ) (g : Netlist) → HasRoom section count g → HasRoom section (count - 0) g
room_first section count g room = let e : count ≡ count - 0 = omega arith in subst (λ (n : ℕ). HasRoom section n g) e room
