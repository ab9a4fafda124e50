-- Each list of bytes has one netlist or one first fault, and never both.
use Rattle.std.proofs.Common.{◌≡◌, ◌∙◌, ℕ, ◌+◌, ◌≤◌, ◌⊎◌, inl, inr, Bool, true, false, List, length, Result, Ok, Err, refl, sym, subst, arith}
use Rattle.circ_model.specs.Netlist.{Netlist}
use Rattle.aig_graph.specs.Finish.{IsFinished}
use Rattle.aiger_codec.specs.declared.fault.NetFault.{NetFault}
use Rattle.aiger_codec.specs.declared.fault.NetKind.TheVariants as kinds
use Rattle.aiger_codec.specs.declared.header.Header.{Header}
use Rattle.aiger_codec.specs.declared.section.Section.{Section}
use Rattle.aiger_codec.specs.declared.section.Section.TheVariants.{Inputs, Latches, Outputs, Gates}
use Rattle.aiger_codec.specs.Lines.{fault}
use Rattle.aiger_codec.specs.Header.{header_at, IsWithinLimits}
use Rattle.aiger_codec.specs.Sections.{items_at, body_at, nothing_given}
use Rattle.aiger_codec.proofs.HeaderLaws.{header_spelled}
use Rattle.aiger_codec.specs.Room.{HasRoom}
use Rattle.aiger_codec.specs.SectionGrammar.{IsLine}
use Rattle.aiger_codec.proofs.Room.{bind_is, items_keep}
use Rattle.aiger_codec.proofs.Lines.{items_take}
use Rattle.aiger_codec.proofs.Items.{all_add}
use Rattle.aiger_codec.proofs.Cells.{HasCells, cells_items, no_cells}
use Rattle.aiger_codec.proofs.SectionItems.{same_length}
use Rattle.aiger_file.specs.Files.{in_form, after_symbols, given_at, IsWrong, IsNetlistFile, IsFirstFault}
use Rattle.aiger_binary.proofs.Bodies.{binary_cells}
use Rattle.aiger_file.proofs.OneNetlist.{one_netlist, none_undefined, finished_defined, finished_levelled}
use Rattle.aiger_file.proofs.OneComes.{one_comes}

-- ---- what a body gives is what a builder can hold

section_cells : (s : Section) (n : ℕ) (bytes : List ℕ) (u t : Netlist × ℕ) → items_at s n bytes u ≡ Ok t → HasRoom s n u.0 → HasCells u.0 → HasCells t.0
section_cells s n bytes u t e room cells =
    let r = items_take s n bytes u t e in
    let a = all_add s r.lines u.0 t.0 r.adds in
    let k : n ≡ length a.0 = sym (same_length (IsLine s) r.lines a.0 a.1 ∙ r.count) in
    subst HasCells a.3 (cells_items s a.0 u.0 a.2 (subst (λ (j : ℕ). HasRoom s j u.0) k room) cells)

pub body_cells : (h : Header) (bytes : List ℕ) (t : Netlist × ℕ) → h.m ≤ 1000000 → h.o ≤ 1000000 → body_at h bytes ≡ Ok t → HasCells t.0
unfolding body_at
body_cells h bytes t small few e =
    let a = bind_is (items_at Inputs h.i bytes (nothing_given h.m, h.end)) _ t e in
    let b = bind_is (items_at Latches h.l bytes a.0) _ t a.2 in
    let c = bind_is (items_at Outputs h.o bytes b.0) _ t b.2 in
    let p = items_keep Inputs h.i bytes (nothing_given h.m, h.end) a.0 refl a.1 in
    let q = items_keep Latches h.l bytes a.0 b.0 refl b.1 in
    let room : length b.0.0.outputs + h.o ≤ 1000000 = omega arith in
    let ca = section_cells Inputs h.i bytes (nothing_given h.m, h.end) a.0 a.1 tt (no_cells h.m small) in
    let cb = section_cells Latches h.l bytes a.0 b.0 b.1 tt ca in
    let cc' = section_cells Outputs h.o bytes b.0 c.0 c.1 room cb in
    section_cells Gates h.a bytes c.0 t c.2 tt cc'

form_cells : (b : Bool) (h : Header) (bytes : List ℕ) (t : Netlist × ℕ) → IsWithinLimits h → in_form b h bytes ≡ Ok t → HasCells t.0
form_cells true h bytes t limits e = binary_cells h bytes t limits.variables limits.outputs limits.sections e
form_cells false h bytes t limits e = body_cells h bytes t limits.variables limits.outputs e

after_is : (g n : Netlist) (r : Result ℕ NetFault) → after_symbols g r ≡ Ok n → g ≡ n
after_is g n (Ok end) e = cc
after_is g n (Err f) e = absurd cc

given_cells : (bytes : List ℕ) (given : Netlist) → given_at bytes ≡ Ok given → HasCells given
given_cells bytes given e =
    let h = bind_is (header_at bytes) _ given e in
    let s = bind_is (in_form h.0.binary h.0 bytes) _ given h.2 in
    subst HasCells (after_is s.0.0 given _ s.2) (form_cells h.0.binary h.0 bytes s.0 (header_spelled bytes h.0 h.1).1.limits s.1)

-- ---- one reading

whole : (bytes : List ℕ) (r : Result Netlist NetFault) → given_at bytes ≡ r → ((net : Netlist) × IsNetlistFile bytes net) ⊎ ((f : NetFault) × IsFirstFault bytes f)
whole bytes (Err f) e = inr (f, inl e)
whole bytes (Ok given) e =
    let c = given_cells bytes given e in
    elim (one_comes c.cells given c.kept) [
      | inl n ↦ inl (n.0, (given, e, n.1))
      | inr (inl u) ↦ inr (fault kinds.Undefined 0, inr (given, e, inl (refl, u)))
      | inr (inr w) ↦ inr (fault kinds.Cyclic 0, inr (given, e, inr (refl, w.0, w.1)))
    ]

pub has_one_reading : (bytes : List ℕ) → ((net : Netlist) × IsNetlistFile bytes net) ⊎ ((f : NetFault) × IsFirstFault bytes f)
has_one_reading bytes = whole bytes (given_at bytes) refl

abbrev gives : Netlist → Result Netlist NetFault
gives g = Ok g

one_given : (bytes : List ℕ) (g h : Netlist) → given_at bytes ≡ Ok g → given_at bytes ≡ Ok h → g ≡ h
one_given bytes g h a b = same g h (sym a ∙ b)
  where
    same : (x y : Netlist) → gives x ≡ gives y → x ≡ y
    same x y e = cc

not_given : (bytes : List ℕ) (g : Netlist) (f : NetFault) → given_at bytes ≡ Ok g → given_at bytes ≡ Err f → ⊥
not_given bytes g f a b = apart (sym a ∙ b)
  where
    apart : gives g ≡ Err f → ⊥
    apart e = cc

pub one_file : (bytes : List ℕ) (m n : Netlist) → IsNetlistFile bytes m → IsNetlistFile bytes n → m ≡ n
one_file bytes m n a b = one_netlist a.0 m n a.2 (subst (λ (g : Netlist). IsFinished g n) (one_given bytes b.0 a.0 b.1 a.1) b.2)

wrong_one : (g : Netlist) (e f : NetFault) → IsWrong g e → IsWrong g f → e ≡ f
wrong_one g e f (inl a) (inl b) = a.0 ∙ sym b.0
wrong_one g e f (inr a) (inr b) = a.0 ∙ sym b.0
wrong_one g e f (inl a) (inr b) = absurd (none_undefined g a.1.0 b.1 a.1.1)
wrong_one g e f (inr a) (inl b) = absurd (none_undefined g b.1.0 a.1 b.1.1)

abbrev fails : NetFault → Result Netlist NetFault
fails f = Err f

pub one_fault : (bytes : List ℕ) (e f : NetFault) → IsFirstFault bytes e → IsFirstFault bytes f → e ≡ f
one_fault bytes e f (inl a) (inl b) = same e f (sym a ∙ b)
  where
    same : (x y : NetFault) → fails x ≡ fails y → x ≡ y
    same x y h = cc
one_fault bytes e f (inl a) (inr b) = absurd (not_given bytes b.0 e b.1 a)
one_fault bytes e f (inr a) (inl b) = absurd (not_given bytes a.0 f a.1 b)
one_fault bytes e f (inr a) (inr b) = wrong_one a.0 e f a.2 (subst (λ (g : Netlist). IsWrong g f) (one_given bytes b.0 a.0 b.1 a.1) b.2)

not_wrong : (g n : Netlist) (f : NetFault) → IsFinished g n → IsWrong g f → ⊥
not_wrong g n f a (inl u) = none_undefined g u.1.0 (finished_defined g n a) u.1.1
not_wrong g n f a (inr c) = finished_levelled g n a c.2

pub never_both : (bytes : List ℕ) (net : Netlist) (f : NetFault) → IsNetlistFile bytes net → IsFirstFault bytes f → ⊥
never_both bytes net f a (inl b) = not_given bytes a.0 f a.1 b
never_both bytes net f a (inr b) = not_wrong a.0 net f a.2 (subst (λ (g : Netlist). IsWrong g f) (one_given bytes b.0 a.0 b.1 a.1) b.2)
