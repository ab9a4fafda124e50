-- Variables that rise from item to item are never defined before.
use Rattle.std.proofs.Common.{◌≡◌, ℕ, zero, suc, ◌+◌, ◌/◌, ◌<◌, ◌≤◌, false, eqb, List, [], ◌∷◌, ◌++◌, length, refl, sym, subst, arith}
use Rattle.std.specs.List.{All, range_with_len}
use Rattle.std.proofs.lemmas.Bool.{ne_eqb}
use Rattle.std.proofs.lemmas.List.Elements.{All-push}
use Rattle.std.proofs.lemmas.List.Folds.{list_any_none}
use Rattle.circ_model.specs.declared.netlist.Latch.{Latch}
use Rattle.circ_model.specs.declared.netlist.Gate.{Gate}
use Rattle.circ_model.specs.Netlist.{Netlist}
use Rattle.aig_graph.specs.Given.{is_defined}
use Rattle.aiger_codec.specs.declared.section.Section.TheVariants.{Inputs, Latches, Outputs, Gates}
use Rattle.aiger_codec.proofs.Items.{with_item, with_items, IsFree, MayAll}
use Rattle.aiger_binary.specs.Grammar.{SpellsEach, SpellsLatch, SpellsGate}

-- each variable that is defined stands below this one
pub record Below (v : ℕ) (g : Netlist) : Type 0 where
  pub inputs : All (λ i. i < v) g.inputs
  pub latches : All (λ (l : Latch). l.var < v) g.latches
  pub gates : All (λ (q : Gate). q.var < v) g.gates

fresh : (v : ℕ) (g : Netlist) → Below v g → is_defined g v ≡ false
fresh v g b =
    let i = list_any_none (λ i. eqb i v) g.inputs (λ k d lt. ne_eqb _ _ (λ e. omega (arith, b.inputs k d lt))) in
    let l = list_any_none (λ (l : Latch). eqb l.var v) g.latches (λ k d lt. ne_eqb _ _ (λ e. omega (arith, b.latches k d lt))) in
    let q = list_any_none (λ (q : Gate). eqb q.var v) g.gates (λ k d lt. ne_eqb _ _ (λ e. omega (arith, b.gates k d lt))) in
    rw (i, l, q) refl

pub is_free : (v : ℕ) (g : Netlist) → Below v g → 0 < v → v ≤ g.max_var → IsFree g v
is_free v g b some within = record { some = some; within = within; fresh = fresh v g b }

raised : {X : Type 0} (f : X → ℕ) (v : ℕ) (xs : List X) → All (λ x. f x < v) xs → All (λ x. f x < v + 1) xs
raised f v xs all = λ k d lt. let h = all k d lt in omega arith

raised_more : {X : Type 0} (f : X → ℕ) (v : ℕ) (xs : List X) (x : X) → f x ≡ v → All (λ x. f x < v) xs → All (λ x. f x < v + 1) (xs ++ x ∷ [])
raised_more f v xs x e all = All-push (λ x. f x < v + 1) xs x (raised f v xs all) (omega arith)

below_input : (v : ℕ) (g : Netlist) → Below v g → Below (v + 1) (with_item Inputs g v)
below_input v g b = record { inputs = raised_more (λ i. i) v g.inputs v refl b.inputs; latches = raised (λ (l : Latch). l.var) v g.latches b.latches; gates = raised (λ (q : Gate). q.var) v g.gates b.gates }

below_latch : (v : ℕ) (g : Netlist) (x : Latch) → x.var ≡ v → Below v g → Below (v + 1) (with_item Latches g x)
below_latch v g x e b = record { inputs = raised (λ i. i) v g.inputs b.inputs; latches = raised_more (λ (l : Latch). l.var) v g.latches x e b.latches; gates = raised (λ (q : Gate). q.var) v g.gates b.gates }

below_gate : (v : ℕ) (g : Netlist) (x : Gate) → x.var ≡ v → Below v g → Below (v + 1) (with_item Gates g x)
below_gate v g x e b = record { inputs = raised (λ i. i) v g.inputs b.inputs; latches = raised (λ (l : Latch). l.var) v g.latches b.latches; gates = raised_more (λ (q : Gate). q.var) v g.gates x e b.gates }

-- ---- each item of a section may be added

pub may_inputs : (n v : ℕ) (g : Netlist) → Below v g → 0 < v → v + n ≤ g.max_var + 1 → MayAll Inputs g (range_with_len v n) × Below (v + n) (with_items Inputs g (range_with_len v n))
may_inputs zero v g b some le = (tt, let e : v ≡ v + 0 = omega arith in subst (λ (k : ℕ). Below k g) e b)
may_inputs (suc n) v g b some le =
    let free = is_free v g b some (omega arith) in
    let others = may_inputs n (v + 1) (with_item Inputs g v) (below_input v g b) (omega arith) (omega arith) in
    let e : v + 1 + n ≡ v + suc n = omega arith in
    ((free, others.0), subst (λ (k : ℕ). Below k (with_items Inputs (with_item Inputs g v) (range_with_len (v + 1) n))) e others.1)

pub may_latches : (xs : List Latch) (v : ℕ) (g : Netlist) (text : List ℕ) → Below v g → 0 < v → v + length xs ≤ g.max_var + 1 → SpellsEach SpellsLatch v text xs → All (λ (l : Latch). l.next / 2 ≤ g.max_var) xs
    → MayAll Latches g xs × Below (v + length xs) (with_items Latches g xs)
may_latches [] v g text b some le spelled nexts = (tt, let e : v ≡ v + 0 = omega arith in subst (λ (k : ℕ). Below k g) e b)
may_latches (x ∷ xs) v g text b some le spelled nexts =
    let var : x.var ≡ v = spelled.2.var in
    let free : IsFree g x.var = subst (λ (k : ℕ). IsFree g k) (sym var) (is_free v g b some (omega arith)) in
    let next = nexts 0 x (omega arith) in
    let others = may_latches xs (v + 1) (with_item Latches g x) spelled.1 (below_latch v g x var b) (omega arith) (omega arith) spelled.3 (λ k d lt. nexts (suc k) d (omega arith)) in
    let e : v + 1 + length xs ≡ v + length (x ∷ xs) = omega arith in
    (((free, omega arith), others.0), subst (λ (k : ℕ). Below k (with_items Latches (with_item Latches g x) xs)) e others.1)

pub may_gates : (xs : List Gate) (v : ℕ) (g : Netlist) (text : List ℕ) → Below v g → 0 < v → v + length xs ≤ g.max_var + 1 → SpellsEach SpellsGate v text xs → MayAll Gates g xs
may_gates [] v g text b some le spelled = tt
may_gates (x ∷ xs) v g text b some le spelled =
    let one : SpellsGate v spelled.0 x = spelled.2 in
    let var : x.var ≡ v = one.var in
    let free : IsFree g x.var = subst (λ (k : ℕ). IsFree g k) (sym var) (is_free v g b some (omega arith)) in
    let others = may_gates xs (v + 1) (with_item Gates g x) spelled.1 (below_gate v g x var b) (omega arith) (omega arith) spelled.3 in
    ((free, omega (arith, one.left), omega (arith, one.left, one.right)), others)

pub may_outputs : (xs : List ℕ) (g : Netlist) → All (λ lit. lit / 2 ≤ g.max_var) xs → MayAll Outputs g xs
may_outputs [] g all = tt
may_outputs (x ∷ xs) g all = (let h = all 0 x (omega arith) in omega arith, may_outputs xs (with_item Outputs g x) (λ k d lt. all (suc k) d (omega arith)))

pub below_outputs : (xs : List ℕ) (v : ℕ) (g : Netlist) → Below v g → Below v (with_items Outputs g xs)
below_outputs [] v g b = b
below_outputs (x ∷ xs) v g b = below_outputs xs v (with_item Outputs g x) (record { inputs = b.inputs; latches = b.latches; gates = b.gates })
