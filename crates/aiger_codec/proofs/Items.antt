-- What a line adds, as an item.
use Rattle.std.proofs.Common.{◌≡◌, ◌≢◌, ℕ, ◌+◌, ◌*◌, ◌/◌, ◌%◌, ◌<◌, ◌≤◌, Bool, true, false, ◌||◌, eqb, ltb, List, [], ◌∷◌, ◌++◌, get_or, Ok, refl, sym, ap, subst, ◌∙◌, arith, append_assoc}
use Rattle.std.specs.List.{AllZip}
use Rattle.std.proofs.lemmas.Bool.{eq-eqb, ne_eqb, ltb-false, le-ltb}
use Rattle.std.proofs.lemmas.List.{append-nil}
use Rattle.circ_model.specs.declared.netlist.Latch.{Latch}
use Rattle.circ_model.specs.declared.netlist.Gate.{Gate}
use Rattle.circ_model.specs.Netlist.{Netlist}
use Rattle.aig_graph.specs.declared.fault.BuildFault.TheVariants as faults
use Rattle.aig_graph.specs.Given.{is_defined, bad_var, bad_literal, reset_of, with_input, with_latch, with_gate}
use Rattle.aiger_codec.specs.declared.section.Section.{Section}
use Rattle.aiger_codec.specs.declared.section.Section.TheVariants.{Inputs, Latches, Outputs, Gates}
use Rattle.aiger_codec.specs.Sections.{added}
use Rattle.aiger_codec.specs.SectionGrammar.{Item, IsLine}
use Rattle.aiger_codec.proofs.Room.{refused, given_is, latch_is}
use Rattle.aiger_codec.proofs.Lines.{added_all, added_first}

abbrev pub with_item : (s : Section) → Netlist → Item s → Netlist
with_item Inputs g v = record g { inputs = g.inputs ++ v ∷ [] }
with_item Latches g l = record g { latches = g.latches ++ l ∷ [] }
with_item Outputs g lit = record g { outputs = g.outputs ++ lit ∷ [] }
with_item Gates g q = record g { gates = g.gates ++ q ∷ [] }

abbrev pub with_items : (s : Section) → Netlist → List (Item s) → Netlist
with_items s g [] = g
with_items s g (x ∷ xs) = with_items s (with_item s g x) xs

-- a variable that may be defined
pub record IsFree (g : Netlist) (v : ℕ) : Type 0 where
  pub some : 0 < v
  pub within : v ≤ g.max_var
  pub fresh : is_defined g v ≡ false

-- an item that may be added
abbrev pub MayAdd : (s : Section) → Netlist → Item s → Type 0
MayAdd Inputs g v = IsFree g v
MayAdd Latches g l = IsFree g l.var × (l.next ≤ 2 * g.max_var + 1)
MayAdd Outputs g lit = lit ≤ 2 * g.max_var + 1
MayAdd Gates g q = IsFree g q.var × (q.left ≤ 2 * g.max_var + 1) × (q.right ≤ 2 * g.max_var + 1)

abbrev pub MayAll : (s : Section) → Netlist → List (Item s) → Type 0
MayAll s g [] = Unit {0}
MayAll s g (x ∷ xs) = MayAdd s g x × MayAll s (with_item s g x) xs

neither : (a b : Bool) → (a || b) ≡ false → (a ≡ false) × (b ≡ false)
neither true b e = absurd cc
neither false b e = (refl, e)

not_eq : (a b : ℕ) → eqb a b ≡ false → a ≢ b
not_eq a b e is = let h = eq-eqb a b is in absurd (both (eqb a b) h e)
  where
    both : (c : Bool) → c ≡ true → c ≡ false → ⊥
    both c x y = absurd cc

free : (g : Netlist) (v : ℕ) → bad_var g v ≡ false → is_defined g v ≡ false → IsFree g v
free g v bad fresh =
    let h = neither (eqb v 0) (ltb g.max_var v) bad in
    let some = not_eq _ _ h.0 in
    record { some = omega arith; within = ltb-false _ _ h.1; fresh = fresh }

-- ---- what was added is an item

pub item_adds : (s : Section) (g h : Netlist) (ns : List ℕ) → added s g ns ≡ Ok h → (x : Item s) × IsLine s ns x × MayAdd s g x × (with_item s g x ≡ h)
item_adds Inputs g h ns e =
    let v : ℕ = get_or ns 0 0 / 2 in
    let a = refused (eqb (get_or ns 0 0 % 2) 1) faults.Literal (with_input g v) h e in
    let b = refused (bad_var g v) faults.Literal _ h a.1 in
    let c = refused (is_defined g v) faults.Redefined _ h b.1 in
    let odd = not_eq _ _ a.0 in
    (v, omega arith, free g v b.0 c.0, given_is _ h c.1)
item_adds Latches g h ns e =
    let v : ℕ = get_or ns 0 0 / 2 in
    let a = refused (eqb (get_or ns 0 0 % 2) 1) faults.Literal (with_latch g v (get_or ns 1 0) (get_or ns 2 0)) h e in
    let b = refused (bad_var g v || bad_literal g (get_or ns 1 0)) faults.Literal _ h a.1 in
    let c = refused (is_defined g v) faults.Redefined _ h b.1 in
    let d = latch_is g h v (get_or ns 1 0) (reset_of v (get_or ns 2 0)) c.1 in
    let n = neither (bad_var g v) (bad_literal g (get_or ns 1 0)) b.0 in
    let odd = not_eq _ _ a.0 in
    (record { var = v; next = get_or ns 1 0; reset = d.0 }, (omega arith, refl, d.1), (free g v n.0 c.0, ltb-false _ _ n.1), given_is _ h d.2)
item_adds Outputs g h ns e =
    let a = refused (bad_literal g (get_or ns 0 0)) faults.Literal _ h e in
    (get_or ns 0 0, refl, ltb-false _ _ a.0, given_is _ h a.1)
item_adds Gates g h ns e =
    let v : ℕ = get_or ns 0 0 / 2 in
    let a = refused (eqb (get_or ns 0 0 % 2) 1) faults.Literal (with_gate g v (get_or ns 1 0) (get_or ns 2 0)) h e in
    let b = refused (bad_var g v || bad_literal g (get_or ns 1 0) || bad_literal g (get_or ns 2 0)) faults.Literal _ h a.1 in
    let c = refused (is_defined g v) faults.Redefined _ h b.1 in
    let r = neither (bad_var g v || bad_literal g (get_or ns 1 0)) (bad_literal g (get_or ns 2 0)) b.0 in
    let l = neither (bad_var g v) (bad_literal g (get_or ns 1 0)) r.0 in
    let odd = not_eq _ _ a.0 in
    (record { var = v; left = get_or ns 1 0; right = get_or ns 2 0 }, (omega arith, refl, refl), (free g v l.0 c.0, ltb-false _ _ l.1, ltb-false _ _ r.1), given_is _ h c.1)

pub all_add : (s : Section) (lines : List (List ℕ)) (g h : Netlist) → added_all s lines g ≡ Ok h → (xs : List (Item s)) × AllZip (IsLine s) lines xs × MayAll s g xs × (with_items s g xs ≡ h)
all_add s [] g h e = ([], tt, tt, given_is g h e)
all_add s (ns ∷ lines) g h e =
    let m = added_first s ns lines g h (added s g ns) refl e in
    let a = item_adds s g m.0 ns m.1 in
    let b = all_add s lines m.0 h m.2 in
    let may : MayAll s (with_item s g a.0) b.0 = subst (λ (x : Netlist). MayAll s x b.0) (sym a.3) b.2 in
    (a.0 ∷ b.0, (a.1, b.1), (a.2, may), ap (λ (x : Netlist). with_items s x b.0) a.3 ∙ b.3)

-- ---- an item that may be added is

pub item_added : (s : Section) (g : Netlist) (ns : List ℕ) (x : Item s) → IsLine s ns x → MayAdd s g x → added s g ns ≡ Ok (with_item s g x)
item_added Inputs g ns x line may =
    let v : get_or ns 0 0 / 2 ≡ x = omega (arith, line) in
    let a = ne_eqb (get_or ns 0 0 % 2) 1 (λ e. omega (arith, line)) in
    let b = ne_eqb x 0 (λ e. omega (arith, may.some)) in
    let c = le-ltb g.max_var x may.within in
    let f = may.fresh in
    rw (a, v, b, c, f) refl
item_added Latches g ns x line may =
    let v : get_or ns 0 0 / 2 ≡ x.var = omega (arith, line.0) in
    let a = ne_eqb (get_or ns 0 0 % 2) 1 (λ e. omega (arith, line.0)) in
    let b = ne_eqb x.var 0 (λ e. omega (arith, may.0.some)) in
    let c = le-ltb g.max_var x.var may.0.within in
    let n = le-ltb (2 * g.max_var + 1) x.next may.1 in
    let f = may.0.fresh in
    rw (a, v, line.1, b, c, n, f, line.2) refl
item_added Outputs g ns x line may =
    let l = le-ltb (2 * g.max_var + 1) x may in
    rw (line, l) refl
item_added Gates g ns x line may =
    let v : get_or ns 0 0 / 2 ≡ x.var = omega (arith, line.0) in
    let a = ne_eqb (get_or ns 0 0 % 2) 1 (λ e. omega (arith, line.0)) in
    let b = ne_eqb x.var 0 (λ e. omega (arith, may.0.some)) in
    let c = le-ltb g.max_var x.var may.0.within in
    let l = le-ltb (2 * g.max_var + 1) x.left may.1 in
    let r = le-ltb (2 * g.max_var + 1) x.right may.2 in
    let f = may.0.fresh in
    rw (a, v, line.1, line.2, b, c, l, r, f) refl

pub all_added : (s : Section) (lines : List (List ℕ)) (xs : List (Item s)) (g : Netlist) → AllZip (IsLine s) lines xs → MayAll s g xs → added_all s lines g ≡ Ok (with_items s g xs)
all_added s [] [] g zip may = refl
all_added s [] (x ∷ xs) g zip may = absurd zip
all_added s (ns ∷ lines) [] g zip may = absurd zip
all_added s (ns ∷ lines) (x ∷ xs) g zip may =
    let one = item_added s g ns x zip.0 may.0 in
    rw one (all_added s lines xs (with_item s g x) zip.1 may.1)

-- ---- the lists of all items

pub inputs_given : (xs : List ℕ) (g : Netlist) → with_items Inputs g xs ≡ record g { inputs = g.inputs ++ xs }
inputs_given [] g = ap (λ (l : List ℕ). record g { inputs = l }) (sym (append-nil g.inputs))
inputs_given (x ∷ xs) g = inputs_given xs (with_item Inputs g x) ∙ ap (λ (l : List ℕ). record g { inputs = l }) (append_assoc g.inputs (x ∷ []) xs)

pub latches_given : (xs : List Latch) (g : Netlist) → with_items Latches g xs ≡ record g { latches = g.latches ++ xs }
latches_given [] g = ap (λ (l : List Latch). record g { latches = l }) (sym (append-nil g.latches))
latches_given (x ∷ xs) g = latches_given xs (with_item Latches g x) ∙ ap (λ (l : List Latch). record g { latches = l }) (append_assoc g.latches (x ∷ []) xs)

pub outputs_given : (xs : List ℕ) (g : Netlist) → with_items Outputs g xs ≡ record g { outputs = g.outputs ++ xs }
outputs_given [] g = ap (λ (l : List ℕ). record g { outputs = l }) (sym (append-nil g.outputs))
outputs_given (x ∷ xs) g = outputs_given xs (with_item Outputs g x) ∙ ap (λ (l : List ℕ). record g { outputs = l }) (append_assoc g.outputs (x ∷ []) xs)

pub gates_given : (xs : List Gate) (g : Netlist) → with_items Gates g xs ≡ record g { gates = g.gates ++ xs }
gates_given [] g = ap (λ (l : List Gate). record g { gates = l }) (sym (append-nil g.gates))
gates_given (x ∷ xs) g = gates_given xs (with_item Gates g x) ∙ ap (λ (l : List Gate). record g { gates = l }) (append_assoc g.gates (x ∷ []) xs)
