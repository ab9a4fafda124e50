-- The whole body: what was read is spelled so, and what is spelled so is read.
use Rattle.std.proofs.Common.{◌≡◌, ◌∙◌, ℕ, ◌+◌, ◌≤◌, List, [], ◌++◌, length, drop, Ok, refl, sym, ap, subst, arith, append_assoc, length-append}
use Rattle.circ_model.specs.Netlist.{Netlist}
use Rattle.aiger_codec.specs.declared.header.Header.{Header}
use Rattle.aiger_codec.specs.declared.section.Section.TheVariants.{Inputs, Latches, Outputs, Gates}
use Rattle.aiger_codec.specs.Sections.{items_at, body_at, nothing_given}
use Rattle.aiger_codec.specs.SectionGrammar.{MayBeGiven}
use Rattle.aiger_text.specs.Grammar.{SpellsBody, IsSpelled}
use Rattle.aiger_codec.proofs.Room.{bind_is}
use Rattle.aiger_codec.proofs.SectionItems.{taken, whole}
use Rattle.aiger_codec.proofs.Items.{inputs_given, latches_given, outputs_given, gates_given}
use Rattle.aiger_codec.proofs.Cells.{HasCells, cells_items, no_cells, may_be_given}

pub body_take : (h : Header) (bytes : List ℕ) (t : Netlist × ℕ) → h.m ≤ 1000000 → h.o ≤ 1000000 → body_at h bytes ≡ Ok t → IsSpelled h bytes t.0 t.1
unfolding body_at
body_take h bytes t small few e =
    let a = bind_is (items_at Inputs h.i bytes (nothing_given h.m, h.end)) _ t e in
    let b = bind_is (items_at Latches h.l bytes a.0) _ t a.2 in
    let c = bind_is (items_at Outputs h.o bytes b.0) _ t b.2 in
    let i = taken Inputs bytes (nothing_given h.m) h.end h.i a.0 a.1 in
    let l = taken Latches bytes a.0.0 a.0.1 h.l b.0 b.1 in
    let o = taken Outputs bytes b.0.0 b.0.1 h.o c.0 c.1 in
    let q = taken Gates bytes c.0.0 c.0.1 h.a t c.2 in
    let ia : whole h.m i.items [] [] [] ≡ a.0.0 = sym (inputs_given i.items (nothing_given h.m)) ∙ i.is in
    let lb : whole h.m i.items l.items [] [] ≡ b.0.0 = ap (λ (x : Netlist). record x { latches = x.latches ++ l.items }) ia ∙ sym (latches_given l.items a.0.0) ∙ l.is in
    let oc : whole h.m i.items l.items o.items [] ≡ c.0.0 = ap (λ (x : Netlist). record x { outputs = x.outputs ++ o.items }) lb ∙ sym (outputs_given o.items b.0.0) ∙ o.is in
    let qt : whole h.m i.items l.items o.items q.items ≡ t.0 = ap (λ (x : Netlist). record x { gates = x.gates ++ q.items }) oc ∙ sym (gates_given q.items c.0.0) ∙ q.is in
    let room : length b.0.0.outputs + length o.items ≤ 1000000 = let z = ap (λ (x : Netlist). length x.outputs) lb in omega (arith, o.count) in
    let ca : HasCells a.0.0 = subst HasCells i.is (cells_items Inputs i.items (nothing_given h.m) i.may tt (no_cells h.m small)) in
    let cb : HasCells b.0.0 = subst HasCells l.is (cells_items Latches l.items a.0.0 l.may tt ca) in
    let cd : HasCells c.0.0 = subst HasCells o.is (cells_items Outputs o.items b.0.0 o.may room cb) in
    let ct : HasCells t.0 = subst HasCells q.is (cells_items Gates q.items c.0.0 q.may tt cd) in
    let parts : SpellsBody h (i.text ++ (l.text ++ (o.text ++ q.text))) (whole h.m i.items l.items o.items q.items) = record {
      inputs = i.text;
      latches = l.text;
      outputs = o.text;
      gates = q.text;
      is = refl;
      input_lines = i.spelled;
      latch_lines = l.spelled;
      output_lines = o.spelled;
      gate_lines = q.spelled;
      input_count = i.count;
      latch_count = l.count;
      output_count = o.count;
      gate_count = q.count;
      max_var = refl;
      may = subst MayBeGiven (sym qt) (may_be_given t.0 ct);
    } in
    let rest : List ℕ = drop t.1 bytes in
    let s3 : drop c.0.1 bytes ≡ q.text ++ rest = q.stands in
    let s2 : drop b.0.1 bytes ≡ (o.text ++ q.text) ++ rest = o.stands ∙ ap (λ (x : List ℕ). o.text ++ x) s3 ∙ sym (append_assoc o.text q.text rest) in
    let s1 : drop a.0.1 bytes ≡ (l.text ++ (o.text ++ q.text)) ++ rest = l.stands ∙ ap (λ (x : List ℕ). l.text ++ x) s2 ∙ sym (append_assoc l.text (o.text ++ q.text) rest) in
    let s0 : drop h.end bytes ≡ (i.text ++ (l.text ++ (o.text ++ q.text))) ++ rest = i.stands ∙ ap (λ (x : List ℕ). i.text ++ x) s1 ∙ sym (append_assoc i.text (l.text ++ (o.text ++ q.text)) rest) in
    let len : t.1 ≡ h.end + length (i.text ++ (l.text ++ (o.text ++ q.text))) =
    omega (arith, i.end, l.end, o.end, q.end, length-append i.text (l.text ++ (o.text ++ q.text)), length-append l.text (o.text ++ q.text), length-append o.text q.text) in
    (i.text ++ (l.text ++ (o.text ++ q.text)), subst (SpellsBody h (i.text ++ (l.text ++ (o.text ++ q.text)))) qt parts, s0, len)

-- section after section
pub sections_read : (h : Header) (bytes : List ℕ) (g : Netlist) (a b c t : Netlist × ℕ) → h.m ≤ 1000000 → h.o ≤ 1000000 → g ≡ nothing_given h.m → items_at Inputs h.i bytes (g, h.end) ≡ Ok a → items_at Latches h.l bytes a ≡ Ok b
    → items_at Outputs h.o bytes b ≡ Ok c → items_at Gates h.a bytes c ≡ Ok t → IsSpelled h bytes t.0 t.1
unfolding body_at
sections_read h bytes g a b c t small few start p q r s =
    let first : items_at Inputs h.i bytes (nothing_given h.m, h.end) ≡ Ok a = subst (λ (x : Netlist). items_at Inputs h.i bytes (x, h.end) ≡ Ok a) start p in
    body_take h bytes t small few (rw (first, q, r) s)
