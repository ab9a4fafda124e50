-- The whole body: what was read is spelled so, and a builder can hold it.
use Rattle.std.proofs.Common.{◌≡◌, ◌∙◌, ℕ, zero, suc, ◌+◌, ◌<◌, ◌≤◌, List, [], ◌∷◌, ◌++◌, length, drop, get_or, Ok, refl, sym, ap, subst, arith, append_assoc, length-append}
use Rattle.std.specs.List.{range_with_len}
use Rattle.circ_model.specs.Netlist.{Netlist}
use Rattle.aig_graph.specs.declared.fault.BuildFault.TheVariants as faults
use Rattle.aig_graph.specs.Given.{is_defined, bad_var, with_input}
use Rattle.aiger_codec.specs.declared.header.Header.{Header}
use Rattle.aiger_codec.specs.declared.section.Section.TheVariants.{Inputs, Latches, Outputs, Gates}
use Rattle.aiger_codec.specs.Sections.{items_at, nothing_given}
use Rattle.aiger_codec.proofs.Room.{bind_is, refused, given_is}
use Rattle.aiger_codec.proofs.Items.{latches_given, outputs_given, gates_given, inputs_given}
use Rattle.aiger_codec.proofs.Cells.{HasCells, cells_items, no_cells, may_be_given}
use Rattle.aiger_codec.proofs.SectionItems.{taken, whole}
use Rattle.aiger_binary.specs.Binary.{of_inputs, latch_at, gate_at, each_from, binary_at}
use Rattle.aiger_binary.specs.Grammar.{SpellsLatch, SpellsGate, SpellsBinary, IsBinary}
use Rattle.aiger_binary.proofs.Items.{latch_take, gate_take, gate_adds}
use Rattle.aiger_binary.proofs.Takes.{each_take, each_adds}
use Rattle.aiger_binary.proofs.Fresh.{Below, may_inputs}

-- ---- the inputs

range_suc : (a n : ℕ) → range_with_len a (suc n) ≡ range_with_len a n ++ (a + n) ∷ []
range_suc a zero = let e : a ≡ a + 0 = omega arith in ap (λ (k : ℕ). k ∷ []) e
range_suc a (suc n) = let e : a + 1 + n ≡ a + suc n = omega arith in ap (λ (l : List ℕ). a ∷ l) (range_suc (a + 1) n) ∙ ap (λ (k : ℕ). a ∷ (range_with_len (a + 1) n ++ k ∷ [])) e

pub input_next : (m n : ℕ) (g h : Netlist) → g ≡ of_inputs m n → with_input g (n + 1) ≡ Ok h → h ≡ of_inputs m (n + 1)
input_next m n g h start e =
    let a = refused (bad_var g (n + 1)) faults.Literal _ h e in
    let b = refused (is_defined g (n + 1)) faults.Redefined _ h a.1 in
    let more : n + 1 ≡ suc n = omega arith in
    let at : 1 + n ≡ n + 1 = omega arith in
    let grown : range_with_len 1 (n + 1) ≡ range_with_len 1 n ++ (n + 1) ∷ [] = ap (range_with_len 1) more ∙ range_suc 1 n ∙ ap (λ (k : ℕ). range_with_len 1 n ++ k ∷ []) at in
    sym (given_is _ h b.1) ∙ ap (λ (x : Netlist). record x { inputs = x.inputs ++ (n + 1) ∷ [] }) start ∙ ap (λ (l : List ℕ). whole m l [] [] []) (sym grown)

nothing_below : (m : ℕ) → Below 1 (nothing_given m)
nothing_below m = record { inputs = λ k d lt. absurd (omega arith); latches = λ k d lt. absurd (omega arith); gates = λ k d lt. absurd (omega arith) }

pub inputs_below : (m n : ℕ) → n ≤ m → Below (n + 1) (of_inputs m n)
inputs_below m n le =
    let b = (may_inputs n 1 (nothing_given m) (nothing_below m) (omega arith) (omega arith)).1 in
    let at : 1 + n ≡ n + 1 = omega arith in
    subst (λ (k : ℕ). Below k (of_inputs m n)) at (subst (λ (g : Netlist). Below (1 + n) g) (inputs_given (range_with_len 1 n) (nothing_given m)) b)

pub inputs_cells : (m n : ℕ) → m ≤ 1000000 → n ≤ m → HasCells (of_inputs m n)
inputs_cells m n small le =
    let may = (may_inputs n 1 (nothing_given m) (nothing_below m) (omega arith) (omega arith)).0 in
    subst HasCells (inputs_given (range_with_len 1 n) (nothing_given m)) (cells_items Inputs (range_with_len 1 n) (nothing_given m) may tt (no_cells m small))

-- ---- latches add no outputs

pub keep_outputs : (bytes : List ℕ) (n v : ℕ) (u t : Netlist × ℕ) → each_from (latch_at bytes) n v u ≡ Ok t → t.0.outputs ≡ u.0.outputs
keep_outputs bytes n v u t e =
    let l = each_take Latches bytes (latch_at bytes) SpellsLatch (latch_take bytes) n v u t e in
    ap (λ (g : Netlist). g.outputs) (sym l.is ∙ latches_given l.items u.0)

-- ---- the whole

pub binary_cells : (h : Header) (bytes : List ℕ) (t : Netlist × ℕ) → h.m ≤ 1000000 → h.o ≤ 1000000 → h.i + h.l + h.a ≤ h.m → binary_at h bytes ≡ Ok t → HasCells t.0
unfolding binary_at
binary_cells h bytes t small few sections e =
    let start : Netlist = of_inputs h.m h.i in
    let a = bind_is (each_from (latch_at bytes) h.l (h.i + 1) (start, h.end)) _ t e in
    let b = bind_is (items_at Outputs h.o bytes a.0) _ t a.2 in
    let l = each_take Latches bytes (latch_at bytes) SpellsLatch (latch_take bytes) h.l (h.i + 1) (start, h.end) a.0 a.1 in
    let o = taken Outputs bytes a.0.0 a.0.1 h.o b.0 b.1 in
    let q = each_adds Gates (gate_at bytes) (gate_adds bytes) h.a (h.i + 1 + h.l) b.0 t b.2 in
    let room : length a.0.0.outputs + length o.items ≤ 1000000 = let z = ap length (keep_outputs bytes h.l (h.i + 1) (start, h.end) a.0 a.1) in omega (arith, o.count) in
    let ca : HasCells a.0.0 = subst HasCells l.is (cells_items Latches l.items start l.may tt (inputs_cells h.m h.i small (omega arith))) in
    let cb : HasCells b.0.0 = subst HasCells o.is (cells_items Outputs o.items a.0.0 o.may room ca) in
    subst HasCells q.2 (cells_items Gates q.0 b.0.0 q.1 tt cb)

pub binary_take : (h : Header) (bytes : List ℕ) (t : Netlist × ℕ) → h.m ≤ 1000000 → h.o ≤ 1000000 → h.i + h.l + h.a ≤ h.m → ((i : ℕ) → get_or bytes i 0 < 256) → binary_at h bytes ≡ Ok t → IsBinary h bytes t.0 t.1
unfolding binary_at
binary_take h bytes t small few sections byte e =
    let start : Netlist = of_inputs h.m h.i in
    let a = bind_is (each_from (latch_at bytes) h.l (h.i + 1) (start, h.end)) _ t e in
    let b = bind_is (items_at Outputs h.o bytes a.0) _ t a.2 in
    let l = each_take Latches bytes (latch_at bytes) SpellsLatch (latch_take bytes) h.l (h.i + 1) (start, h.end) a.0 a.1 in
    let o = taken Outputs bytes a.0.0 a.0.1 h.o b.0 b.1 in
    let q = each_take Gates bytes (gate_at bytes) SpellsGate (λ v u w is. gate_take bytes v u w byte is) h.a (h.i + 1 + h.l) b.0 t b.2 in
    let is : List ℕ = range_with_len 1 h.i in
    let lb : whole h.m is l.items [] [] ≡ a.0.0 = sym (latches_given l.items start) ∙ l.is in
    let oc : whole h.m is l.items o.items [] ≡ b.0.0 = ap (λ (x : Netlist). record x { outputs = x.outputs ++ o.items }) lb ∙ sym (outputs_given o.items a.0.0) ∙ o.is in
    let qt : whole h.m is l.items o.items q.items ≡ t.0 = ap (λ (x : Netlist). record x { gates = x.gates ++ q.items }) oc ∙ sym (gates_given q.items b.0.0) ∙ q.is in
    let may = may_be_given (whole h.m is l.items o.items q.items) (subst HasCells (sym qt) (binary_cells h bytes t small few sections e)) in
    let parts : SpellsBinary h (l.text ++ (o.text ++ q.text)) (whole h.m is l.items o.items q.items) = record {
      latches = l.text;
      outputs = o.text;
      gates = q.text;
      is = refl;
      inputs = refl;
      latch_lines = l.spelled;
      output_lines = o.spelled;
      gate_numbers = q.spelled;
      latch_count = l.count;
      output_count = o.count;
      gate_count = q.count;
      max_var = refl;
      next_literals = may.next_literals;
      output_literals = may.output_literals;
    } in
    let rest : List ℕ = drop t.1 bytes in
    let s2 : drop b.0.1 bytes ≡ q.text ++ rest = q.stands in
    let s1 : drop a.0.1 bytes ≡ (o.text ++ q.text) ++ rest = o.stands ∙ ap (λ (x : List ℕ). o.text ++ x) s2 ∙ sym (append_assoc o.text q.text rest) in
    let s0 : drop h.end bytes ≡ (l.text ++ (o.text ++ q.text)) ++ rest = l.stands ∙ ap (λ (x : List ℕ). l.text ++ x) s1 ∙ sym (append_assoc l.text (o.text ++ q.text) rest) in
    let len : t.1 ≡ h.end + length (l.text ++ (o.text ++ q.text)) = omega (arith, l.end, o.end, q.end, length-append l.text (o.text ++ q.text), length-append o.text q.text) in
    (l.text ++ (o.text ++ q.text), subst (SpellsBinary h (l.text ++ (o.text ++ q.text))) qt parts, s0, len)

-- section after section
pub sections_read : (h : Header) (bytes : List ℕ) (g : Netlist) (a b t : Netlist × ℕ) → h.m ≤ 1000000 → h.o ≤ 1000000 → h.i + h.l + h.a ≤ h.m → ((i : ℕ) → get_or bytes i 0 < 256) → g ≡ of_inputs h.m h.i
    → each_from (latch_at bytes) h.l (h.i + 1) (g, h.end) ≡ Ok a → items_at Outputs h.o bytes a ≡ Ok b → each_from (gate_at bytes) h.a (h.i + 1 + h.l) b ≡ Ok t → IsBinary h bytes t.0 t.1
unfolding binary_at
sections_read h bytes g a b t small few sections byte start p q r =
    let first : each_from (latch_at bytes) h.l (h.i + 1) (of_inputs h.m h.i, h.end) ≡ Ok a = subst (λ (x : Netlist). each_from (latch_at bytes) h.l (h.i + 1) (x, h.end) ≡ Ok a) start p in
    binary_take h bytes t small few sections byte (rw (first, q) r)
