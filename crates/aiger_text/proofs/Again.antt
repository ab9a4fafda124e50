-- What is spelled is read: each item may be added where its line stands.
use Rattle.std.proofs.Common.{◌≡◌, ◌≢◌, ◌∙◌, ℕ, suc, ◌+◌, ◌/◌, ◌<◌, ◌≤◌, Bool, true, false, List, [], ◌∷◌, ◌++◌, map, length, drop, get_or, Ok, refl, sym, ap, arith, append_assoc, length-append}
use Rattle.std.specs.List.{All}
use Rattle.std.proofs.lemmas.List.{append-nil, map-append, get_or_default, drop-drop}
use Rattle.std.proofs.Math.ListN.{get_or-append}
use Rattle.std.proofs.Math.Seq.{get_or-append_seam, drop-append_seam}
use Rattle.circ_model.specs.declared.netlist.Latch.{Latch}
use Rattle.circ_model.specs.declared.netlist.Gate.{Gate}
use Rattle.circ_model.specs.Netlist.{Netlist, variables, leaf_variables}
use Rattle.aig_graph.specs.Given.{is_defined}
use Rattle.aig_graph.proofs.Definitions.{defined_here}
use Rattle.aiger_codec.specs.declared.header.Header.{Header}
use Rattle.aiger_codec.specs.declared.section.Section.{Section}
use Rattle.aiger_codec.specs.declared.section.Section.TheVariants.{Inputs, Latches, Outputs, Gates}
use Rattle.aiger_codec.specs.Sections.{body_at, nothing_given}
use Rattle.aiger_codec.specs.SectionGrammar.{Item, MayBeGiven}
use Rattle.aiger_text.specs.Grammar.{SpellsBody}
use Rattle.aiger_codec.proofs.Items.{with_item, IsFree, MayAdd, MayAll, inputs_given, latches_given, outputs_given, gates_given}
use Rattle.aiger_codec.proofs.SectionItems.{section_again, whole}

-- ---- the variables grow at their end

abbrev names : (s : Section) → Item s → List ℕ
names Inputs v = v ∷ []
names Latches l = l.var ∷ []
names Outputs lit = []
names Gates q = q.var ∷ []

abbrev all_names : (s : Section) → List (Item s) → List ℕ
all_names s [] = []
all_names s (x ∷ xs) = names s x ++ all_names s xs

-- nothing is given yet that stands after the section's variables
abbrev IsLast : Section → Netlist → Type 0
IsLast Inputs g = (g.latches ≡ []) × (g.gates ≡ [])
IsLast Latches g = g.gates ≡ []
IsLast Outputs g = Unit {0}
IsLast Gates g = Unit {0}

still_last : (s : Section) (g : Netlist) (x : Item s) → IsLast s g → IsLast s (with_item s g x)
still_last Inputs g x last = last
still_last Latches g x last = last
still_last Outputs g x last = tt
still_last Gates g x last = tt

abbrev vars_of : List ℕ → List Latch → List Gate → List ℕ
vars_of is ls qs = (0 ∷ is ++ map (λ (l : Latch). l.var) ls) ++ map (λ (q : Gate). q.var) qs

grows : (s : Section) (g : Netlist) (x : Item s) → IsLast s g → variables (with_item s g x) ≡ variables g ++ names s x
grows Inputs g x last =
    let a : vars_of (g.inputs ++ x ∷ []) [] [] ≡ vars_of g.inputs [] [] ++ x ∷ [] =
    append-nil (0 ∷ (g.inputs ++ x ∷ []) ++ []) ∙ append-nil (0 ∷ (g.inputs ++ x ∷ [])) ∙ sym (ap (λ (l : List ℕ). l ++ x ∷ []) (append-nil (0 ∷ g.inputs ++ []) ∙ append-nil (0 ∷ g.inputs))) in
    ap (λ (ls : List Latch). vars_of (g.inputs ++ x ∷ []) ls g.gates) last.0 ∙ ap (λ (qs : List Gate). vars_of (g.inputs ++ x ∷ []) [] qs) last.1
    ∙ a ∙ sym (ap (λ (ls : List Latch). vars_of g.inputs ls g.gates ++ x ∷ []) last.0 ∙ ap (λ (qs : List Gate). vars_of g.inputs [] qs ++ x ∷ []) last.1)
grows Latches g x last =
    let vs : List ℕ = map (λ (l : Latch). l.var) g.latches in
    let a : vars_of g.inputs (g.latches ++ x ∷ []) [] ≡ vars_of g.inputs g.latches [] ++ x.var ∷ [] =
    append-nil (0 ∷ g.inputs ++ map (λ (l : Latch). l.var) (g.latches ++ x ∷ []))
    ∙ ap (λ (l : List ℕ). 0 ∷ g.inputs ++ l) (map-append (λ (l : Latch). l.var) g.latches (x ∷ []))
    ∙ sym (append_assoc (0 ∷ g.inputs) vs (x.var ∷ []))
    ∙ sym (ap (λ (l : List ℕ). l ++ x.var ∷ []) (append-nil (0 ∷ g.inputs ++ vs))) in
    ap (λ (qs : List Gate). vars_of g.inputs (g.latches ++ x ∷ []) qs) last ∙ a ∙ sym (ap (λ (qs : List Gate). vars_of g.inputs g.latches qs ++ x.var ∷ []) last)
grows Outputs g x last = sym (append-nil (variables g))
grows Gates g x last =
    let vs : List ℕ = map (λ (q : Gate). q.var) g.gates in
    ap (λ (l : List ℕ). leaf_variables g ++ l) (map-append (λ (q : Gate). q.var) g.gates (x ∷ [])) ∙ sym (append_assoc (leaf_variables g) vs (x.var ∷ []))

-- ---- an item may be added where its variable comes next

next_free : (net g : Netlist) (v : ℕ) (rest : List ℕ) → MayBeGiven net → g.max_var ≡ net.max_var → variables net ≡ variables g ++ v ∷ rest → IsFree g v
next_free net g v rest may top is =
    let n : ℕ = length (variables g) in
    let len : length (variables net) ≡ n + length (v ∷ rest) = ap length is ∙ length-append (variables g) (v ∷ rest) in
    let lt : n < length (variables net) = omega arith in
    let at : get_or (variables net) n 0 ≡ v = ap (λ (l : List ℕ). get_or l n 0) is ∙ get_or-append_seam (variables g) v rest 0 in
    let pos : v ≢ 0 = λ z. may.once 0 n 0 (omega arith) lt (sym z ∙ sym at) in
    record { some = omega arith; within = let r = may.in_range n 0 lt in omega arith; fresh = by_test (is_defined g v) refl }
  where
    taken : is_defined g v ≡ true → ⊥
    taken d =
        let c = defined_here g v d in
        let n : ℕ = length (variables g) in
        let len : length (variables net) ≡ n + length (v ∷ rest) = ap length is ∙ length-append (variables g) (v ∷ rest) in
        let at : get_or (variables net) n 0 ≡ v = ap (λ (l : List ℕ). get_or l n 0) is ∙ get_or-append_seam (variables g) v rest 0 in
        let there : get_or (variables net) c.0 0 ≡ v = ap (λ (l : List ℕ). get_or l c.0 0) is ∙ get_or-append (variables g) (v ∷ rest) 0 c.0 c.1 ∙ get_or_default (variables g) c.0 0 v c.1 ∙ c.2 in
        may.once c.0 n 0 c.1 (omega arith) (there ∙ sym at)

    by_test : (b : Bool) → is_defined g v ≡ b → is_defined g v ≡ false
    by_test true d = absurd (taken d)
    by_test false d = d

-- the literals of an item are within range
abbrev Fits : (s : Section) → ℕ → Item s → Type 0
Fits Inputs m v = Unit {0}
Fits Latches m l = l.next / 2 ≤ m
Fits Outputs m lit = lit / 2 ≤ m
Fits Gates m q = (q.left / 2 ≤ m) × (q.right / 2 ≤ m)

may_add : (s : Section) (net g : Netlist) (x : Item s) (rest : List ℕ) → MayBeGiven net → g.max_var ≡ net.max_var → Fits s net.max_var x → variables net ≡ variables g ++ (names s x ++ rest) → MayAdd s g x
may_add Inputs net g x rest may top fits is = next_free net g x rest may top is
may_add Latches net g x rest may top fits is = (next_free net g x.var rest may top is, omega (arith, fits))
may_add Outputs net g x rest may top fits is = omega (arith, fits)
may_add Gates net g x rest may top fits is = (next_free net g x.var rest may top is, omega (arith, fits.0), omega (arith, fits.1))

same_top : (s : Section) (g : Netlist) (x : Item s) → (with_item s g x).max_var ≡ g.max_var
same_top Inputs g x = refl
same_top Latches g x = refl
same_top Outputs g x = refl
same_top Gates g x = refl

may_all : (s : Section) (net g : Netlist) (xs : List (Item s)) (rest : List ℕ) → MayBeGiven net → IsLast s g → g.max_var ≡ net.max_var → All (Fits s net.max_var) xs → variables net ≡ variables g ++ (all_names s xs ++ rest) → MayAll s g xs
may_all s net g [] rest may last top fits is = tt
may_all s net g (x ∷ xs) rest may last top fits is =
    let first : variables net ≡ variables g ++ (names s x ++ (all_names s xs ++ rest)) = is ∙ ap (λ (l : List ℕ). variables g ++ l) (append_assoc (names s x) (all_names s xs) rest) in
    let more : variables net ≡ variables (with_item s g x) ++ (all_names s xs ++ rest) =
    first ∙ sym (append_assoc (variables g) (names s x) (all_names s xs ++ rest)) ∙ ap (λ (l : List ℕ). l ++ (all_names s xs ++ rest)) (sym (grows s g x last)) in (
      may_add s net g x (all_names s xs ++ rest) may top (fits 0 x (omega arith)) first,
      may_all s net (with_item s g x) xs rest may (still_last s g x last) (same_top s g x ∙ top) (λ k d lt. fits (suc k) d (omega arith)) more,
    )

-- ---- the names of each section

input_names : (xs : List ℕ) → all_names Inputs xs ≡ xs
input_names [] = refl
input_names (x ∷ xs) = ap (λ (l : List ℕ). x ∷ l) (input_names xs)

latch_names : (xs : List Latch) → all_names Latches xs ≡ map (λ (l : Latch). l.var) xs
latch_names [] = refl
latch_names (x ∷ xs) = ap (λ (l : List ℕ). x.var ∷ l) (latch_names xs)

output_names : (xs : List ℕ) → all_names Outputs xs ≡ []
output_names [] = refl
output_names (x ∷ xs) = output_names xs

gate_names : (xs : List Gate) → all_names Gates xs ≡ map (λ (q : Gate). q.var) xs
gate_names [] = refl
gate_names (x ∷ xs) = ap (λ (l : List ℕ). x.var ∷ l) (gate_names xs)

-- ---- sections, and the whole

after : (bytes : List ℕ) (at : ℕ) (text rest : List ℕ) → drop at bytes ≡ text ++ rest → drop (at + length text) bytes ≡ rest
after bytes at text rest is = sym (drop-drop (length text) at bytes) ∙ ap (λ (l : List ℕ). drop (length text) l) is ∙ drop-append_seam text rest

four : (a b c d rest : List ℕ) → (a ++ (b ++ (c ++ d))) ++ rest ≡ a ++ (b ++ (c ++ (d ++ rest)))
four a b c d rest = append_assoc a (b ++ (c ++ d)) rest ∙ ap (λ (l : List ℕ). a ++ l) (append_assoc b (c ++ d) rest ∙ ap (λ (l : List ℕ). b ++ l) (append_assoc c d rest))

pub body_again : (h : Header) (bytes text rest : List ℕ) (net : Netlist) → SpellsBody h text net → drop h.end bytes ≡ text ++ rest → body_at h bytes ≡ Ok (net, h.end + length text)
unfolding body_at
body_again h bytes text rest net b stands =
    let vs : List ℕ = map (λ (l : Latch). l.var) net.latches in
    let ws : List ℕ = map (λ (q : Gate). q.var) net.gates in
    let top : h.m ≡ net.max_var = sym b.max_var in
    let g1 : Netlist = whole h.m net.inputs [] [] [] in
    let g2 : Netlist = whole h.m net.inputs net.latches [] [] in
    let g3 : Netlist = whole h.m net.inputs net.latches net.outputs [] in
    let v0 : variables net ≡ (0 ∷ []) ++ (all_names Inputs net.inputs ++ (vs ++ ws)) =
    append_assoc (0 ∷ net.inputs) vs ws ∙ ap (λ (l : List ℕ). (0 ∷ []) ++ (l ++ (vs ++ ws))) (sym (input_names net.inputs)) in
    let v1 : variables net ≡ variables g1 ++ (all_names Latches net.latches ++ ws) =
    append_assoc (0 ∷ net.inputs) vs ws ∙ ap (λ (l : List ℕ). (0 ∷ net.inputs) ++ (l ++ ws)) (sym (latch_names net.latches))
    ∙ ap (λ (l : List ℕ). l ++ (all_names Latches net.latches ++ ws)) (sym (append-nil (0 ∷ net.inputs ++ []) ∙ append-nil (0 ∷ net.inputs))) in
    let v2 : variables net ≡ variables g2 ++ (all_names Outputs net.outputs ++ ws) =
    ap (λ (l : List ℕ). l ++ ws) (sym (append-nil (0 ∷ net.inputs ++ vs))) ∙ ap (λ (l : List ℕ). variables g2 ++ (l ++ ws)) (sym (output_names net.outputs)) in
    let v3 : variables net ≡ variables g3 ++ (all_names Gates net.gates ++ []) =
    ap (λ (l : List ℕ). l ++ ws) (sym (append-nil (0 ∷ net.inputs ++ vs))) ∙ ap (λ (l : List ℕ). variables g3 ++ l) (sym (append-nil (all_names Gates net.gates) ∙ gate_names net.gates)) in
    let m0 = may_all Inputs net (nothing_given h.m) net.inputs (vs ++ ws) b.may (refl, refl) top (λ k d lt. tt) v0 in
    let m1 = may_all Latches net g1 net.latches ws b.may refl top b.may.next_literals v1 in
    let m2 = may_all Outputs net g2 net.outputs ws b.may tt top b.may.output_literals v2 in
    let m3 = may_all Gates net g3 net.gates [] b.may tt top b.may.right_literals v3 in
    let s0 : drop h.end bytes ≡ b.inputs ++ (b.latches ++ (b.outputs ++ (b.gates ++ rest))) = stands ∙ ap (λ (l : List ℕ). l ++ rest) b.is ∙ four b.inputs b.latches b.outputs b.gates rest in
    let e1 : ℕ = h.end + length b.inputs in
    let e2 : ℕ = e1 + length b.latches in
    let e3 : ℕ = e2 + length b.outputs in
    let s1 : drop e1 bytes ≡ b.latches ++ (b.outputs ++ (b.gates ++ rest)) = after bytes h.end b.inputs (b.latches ++ (b.outputs ++ (b.gates ++ rest))) s0 in
    let s2 : drop e2 bytes ≡ b.outputs ++ (b.gates ++ rest) = after bytes e1 b.latches (b.outputs ++ (b.gates ++ rest)) s1 in
    let s3 : drop e3 bytes ≡ b.gates ++ rest = after bytes e2 b.outputs (b.gates ++ rest) s2 in
    let r0 = section_again Inputs bytes h.end h.i b.inputs (b.latches ++ (b.outputs ++ (b.gates ++ rest))) (nothing_given h.m) g1 net.inputs b.input_lines m0 (inputs_given net.inputs (nothing_given h.m)) b.input_count s0 in
    let r1 = section_again Latches bytes e1 h.l b.latches (b.outputs ++ (b.gates ++ rest)) g1 g2 net.latches b.latch_lines m1 (latches_given net.latches g1) b.latch_count s1 in
    let r2 = section_again Outputs bytes e2 h.o b.outputs (b.gates ++ rest) g2 g3 net.outputs b.output_lines m2 (outputs_given net.outputs g2) b.output_count s2 in
    let r3 = section_again Gates bytes e3 h.a b.gates rest g3 (whole h.m net.inputs net.latches net.outputs net.gates) net.gates b.gate_lines m3 (gates_given net.gates g3) b.gate_count s3 in
    let end : e3 + length b.gates ≡ h.end + length text = omega (arith, ap length b.is, length-append b.inputs (b.latches ++ (b.outputs ++ b.gates)), length-append b.latches (b.outputs ++ b.gates), length-append b.outputs b.gates) in
    let all : whole h.m net.inputs net.latches net.outputs net.gates ≡ net = ap (λ (m : ℕ). whole m net.inputs net.latches net.outputs net.gates) top in
    rw (r0, r1, r2, r3) (ap (λ (x : Netlist). Ok (x, e3 + length b.gates)) all ∙ ap (λ (k : ℕ). Ok (net, k)) end)
