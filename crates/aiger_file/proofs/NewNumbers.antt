-- A sound netlist that is numbered anew is sound.
use Rattle.std.proofs.Common.{◌≡◌, ◌≢◌, ◌∙◌, ◌<◌, ◌≤◌, inl, inr, ◌+◌, ◌/◌, ⊎_elim, ℕ, suc, List, ◌∷◌, ◌++◌, max, map, length, get_or, refl, ap, ap₂, sym, subst, arith}
use Rattle.std.specs.List.{All, AllPairs, Contains, range_with_len}
use Rattle.std.proofs.lemmas.List.{get_or_default, length-map, get_or-map}
use Rattle.std.proofs.lemmas.List.FromFn.{length-range_with_len, get_or-range_with_len}
use Rattle.std.proofs.lemmas.Simd.{map-map}
use Rattle.std.proofs.Math.Nat.{max_comm}
use Rattle.circ_model.specs.declared.netlist.Latch.{Latch}
use Rattle.circ_model.specs.declared.netlist.Gate.{Gate}
use Rattle.circ_model.specs.Netlist.{Netlist, IsSound, IsLevelling, StandsBefore, variables, leaf_variables, gate_variables, place_in, IsDefined, gate_at, no_gate}
use Rattle.circ_model.specs.Meaning.{literal_by, is_odd}
use Rattle.circ_model.proofs.Literals.{half_literal}
use Rattle.circ_model.proofs.Order.{leaf_variable, gate_variable, length_variables, place_of_variable}
use Rattle.circ_model.proofs.Rows.{length_leaves}
use Rattle.aiger_codec.specs.Renumbering.{latch_by, gate_by, renumbered}
use Rattle.circ_model.proofs.Counting.{few_variables, count_variables}
use Rattle.aiger_codec.proofs.Numbering.{no_latch, latch_variable}
use Rattle.aiger_file.proofs.InTurn.{in_turn, range_append, all_mapped, both, swapped}

-- ---- the new numbers

pub latch_number : (net : Netlist) (k : ℕ) → IsSound net → k < length net.latches → place_in net (get_or net.latches k no_latch).var ≡ 1 + length net.inputs + k
latch_number net k s lt = place_of_variable net (1 + length net.inputs + k) _ s.once (omega (arith, length_variables net, length_leaves net)) (latch_variable net k lt)

pub gate_number : (net : Netlist) (k : ℕ) → IsSound net → k < length net.gates → place_in net (gate_at net k).var ≡ length (leaf_variables net) + k
gate_number net k s lt = place_of_variable net (length (leaf_variables net) + k) _ s.once (omega (arith, length_variables net)) (gate_variable net k (length (leaf_variables net) + k) lt refl)

new_latches : (net : Netlist) → IsSound net → map (λ (l : Latch). l.var) (renumbered net).latches ≡ range_with_len (1 + length net.inputs) (length net.latches)
new_latches net s =
    map-map (λ (l : Latch). l.var) (latch_by (place_in net)) net.latches
    ∙ in_turn (λ (l : Latch). place_in net l.var) net.latches (1 + length net.inputs) no_latch (λ k lt. latch_number net k s lt)

new_gates : (net : Netlist) → IsSound net → gate_variables (renumbered net) ≡ range_with_len (length (leaf_variables net)) (length net.gates)
new_gates net s =
    map-map (λ (q : Gate). q.var) (gate_by (place_in net)) net.gates
    ∙ in_turn (λ (q : Gate). place_in net q.var) net.gates (length (leaf_variables net)) no_gate (λ k lt. gate_number net k s lt)

pub new_leaves : (net : Netlist) → IsSound net → leaf_variables (renumbered net) ≡ range_with_len 0 (length (leaf_variables net))
new_leaves net s =
    let i : ℕ = length net.inputs in
    let at : 1 + i ≡ 0 + (1 + i) = omega arith in
    let count : suc i + length net.latches ≡ length (leaf_variables net) = omega (arith, length_leaves net) in
    let grown : suc i ≡ 1 + i = omega arith in
    ap (λ (l : List ℕ). 0 ∷ (range_with_len 1 i ++ l)) (new_latches net s)
    ∙ ap (λ (k : ℕ). range_with_len 0 (suc i) ++ range_with_len k (length net.latches)) (let e : 1 + i ≡ 0 + suc i = omega arith in e)
    ∙ range_append 0 (suc i) (length net.latches) ∙ ap (range_with_len 0) count

pub new_variables : (net : Netlist) → IsSound net → variables (renumbered net) ≡ range_with_len 0 (length (variables net))
new_variables net s =
    let n : ℕ = length (leaf_variables net) in
    let at : n ≡ 0 + n = omega arith in
    let count : n + length net.gates ≡ length (variables net) = omega (arith, length_variables net) in
    ap₂ (λ (a b : List ℕ). a ++ b) (new_leaves net s) (new_gates net s ∙ ap (λ (k : ℕ). range_with_len k (length net.gates)) at)
    ∙ range_append 0 n (length net.gates) ∙ ap (range_with_len 0) count

-- ---- literals

-- where the variable of a literal stands
abbrev Stands : Netlist → ℕ → Type 0
Stands net lit = (q : ℕ) × (q < length (variables net)) × (get_or (variables net) q 0 ≡ lit / 2) × (place_in net (lit / 2) ≡ q)

stands : (net : Netlist) (lit : ℕ) → IsSound net → IsDefined net lit → Stands net lit
stands net lit s (q, within, is) =
    let e = get_or_default (variables net) q 0 (lit / 2) within ∙ is in
    (q, within, e, place_of_variable net q (lit / 2) s.once within e)

pub half : (net : Netlist) (lit : ℕ) → literal_by (place_in net) lit / 2 ≡ place_in net (lit / 2)
half net lit = half_literal (place_in net (lit / 2)) (is_odd lit)

pub low_half : (net : Netlist) (lit : ℕ) → IsSound net → IsDefined net lit → literal_by (place_in net) lit / 2 < length (variables net)
low_half net lit s d = let w = stands net lit s d in omega (arith, half net lit, w.1, w.3)

is_new : (net : Netlist) (lit : ℕ) → IsSound net → lit / 2 < length (variables net) → IsDefined (renumbered net) lit
is_new net lit s lt =
    let n : ℕ = length (variables net) in
    let at : get_or (range_with_len 0 n) (lit / 2) (lit / 2) ≡ lit / 2 = let e = get_or-range_with_len 0 n (lit / 2) (lit / 2) lt in omega arith in
    subst (λ (l : List ℕ). Contains l (lit / 2)) (sym (new_variables net s)) (lit / 2, omega (arith, length-range_with_len 0 n, lt), at)

new_defined : (net : Netlist) (lit : ℕ) → IsSound net → IsDefined net lit → IsDefined (renumbered net) (literal_by (place_in net) lit)
new_defined net lit s d = is_new net (literal_by (place_in net) lit) s (low_half net lit s d)

-- ---- levels

abbrev level_of : Netlist → (ℕ → ℕ) → ℕ → ℕ
level_of net level p = level (get_or (variables net) p 0)

level_literal : (net : Netlist) (level : ℕ → ℕ) (lit : ℕ) → IsSound net → IsDefined net lit → level_of net level (literal_by (place_in net) lit / 2) ≡ level (lit / 2)
level_literal net level lit s d = let w = stands net lit s d in ap (level_of net level) (half net lit ∙ w.3) ∙ ap level w.2

level_gate : (net : Netlist) (level : ℕ → ℕ) (k : ℕ) → IsSound net → k < length net.gates → level_of net level (place_in net (gate_at net k).var) ≡ level (gate_at net k).var
level_gate net level k s lt = ap (level_of net level) (gate_number net k s lt) ∙ ap level (gate_variable net k (length (leaf_variables net) + k) lt refl)

new_levels : (net : Netlist) (level : ℕ → ℕ) → IsSound net → IsLevelling net level → IsLevelling (renumbered net) (level_of net level)
new_levels net level s l = record {
  leaves = subst (All (λ (v : ℕ). level_of net level v ≡ 0)) (sym (new_leaves net s)) (λ k d lt.
      let n : ℕ = length (leaf_variables net) in
      let less : k < n = omega (arith, lt, length-range_with_len 0 n) in
      let at : get_or (range_with_len 0 n) k d ≡ k = let e = get_or-range_with_len 0 n k d less in omega arith in
      ap (level_of net level) at ∙ ap level (leaf_variable net k less) ∙ l.leaves k 0 less);
  gates = all_mapped (λ (g : Gate). level_of net level g.var ≡ 1 + max (level_of net level (g.left / 2)) (level_of net level (g.right / 2))) (gate_by (place_in net)) net.gates no_gate (λ k lt.
      let g : Gate = gate_at net k in
      let d = s.all_defined.gates k no_gate lt in
      let a : ℕ = literal_by (place_in net) g.left in
      let b : ℕ = literal_by (place_in net) g.right in
      let f : ℕ → ℕ → ℕ = λ x y. 1 + max (level_of net level (x / 2)) (level_of net level (y / 2)) in
      level_gate net level k s lt ∙ l.gates k no_gate lt
      ∙ ap₂ (λ (x y : ℕ). 1 + max x y) (sym (level_literal net level g.left s d.0)) (sym (level_literal net level g.right s d.1))
      ∙ sym (swapped f a b (ap (λ (x : ℕ). 1 + x) (max_comm (level_of net level (a / 2)) (level_of net level (b / 2))))));
}

new_order : (net : Netlist) (level : ℕ → ℕ) → IsSound net → AllPairs (StandsBefore level) net.gates → AllPairs (StandsBefore (level_of net level)) (renumbered net).gates
new_order net level s order = λ i j d less lt.
    let f : Gate → Gate = gate_by (place_in net) in
    let second : j < length net.gates = omega (arith, lt, length-map net.gates f) in
    let first : i < length net.gates = omega arith in
    let a = level_gate net level i s first in
    let b = level_gate net level j s second in
    let x = gate_number net i s first in
    let y = gate_number net j s second in
    let before : StandsBefore (level_of net level) (f (gate_at net i)) (f (gate_at net j)) =
    ⊎_elim (λ (h : level (gate_at net i).var < level (gate_at net j).var). inl (omega (arith, a, b, h)))
    (λ (h : (level (gate_at net i).var ≡ level (gate_at net j).var) × ((gate_at net i).var < (gate_at net j).var)). inr (omega (arith, a, b, h.0), omega (arith, x, y)))
    (order i j no_gate less second) in
    rw (get_or-map f net.gates i no_gate d first, get_or-map f net.gates j no_gate d second) before

-- ---- the whole

pub new_sound : (net : Netlist) → IsSound net → IsSound (renumbered net)
new_sound net s =
    let n : ℕ = length (variables net) in
    let m : ℕ = length net.inputs + length net.latches + length net.gates in
    let total = count_variables net in
    let few = few_variables net s in
    record {
      size = omega (arith, total, few, s.size);
      output_count = omega (arith, s.output_count, length-map net.outputs (literal_by (place_in net)));
      in_range = subst (All (λ (v : ℕ). v ≤ m)) (sym (new_variables net s)) (λ k d lt.
          let less : k < n = omega (arith, lt, length-range_with_len 0 n) in
          omega (arith, get_or-range_with_len 0 n k d less, less, total));
      once = subst (AllPairs (λ (v w : ℕ). v ≢ w)) (sym (new_variables net s)) (λ i j d less lt.
          let second : j < n = omega (arith, lt, length-range_with_len 0 n) in
          let a = get_or-range_with_len 0 n i d (omega arith) in
          let b = get_or-range_with_len 0 n j d second in
          λ e. let r : ⊥ = omega (arith, a, b, e, less) in r);
      all_defined = record {
        latches = all_mapped (λ (l : Latch). IsDefined (renumbered net) l.next) (latch_by (place_in net)) net.latches no_latch (λ k lt. new_defined net _ s (s.all_defined.latches k no_latch lt));
        outputs = all_mapped (IsDefined (renumbered net)) (literal_by (place_in net)) net.outputs 0 (λ k lt. new_defined net _ s (s.all_defined.outputs k 0 lt));
        gates = all_mapped (λ (g : Gate). IsDefined (renumbered net) g.left × IsDefined (renumbered net) g.right) (gate_by (place_in net)) net.gates no_gate (λ k lt.
            let d = s.all_defined.gates k no_gate lt in
            both (IsDefined (renumbered net)) (literal_by (place_in net) (gate_at net k).left) (literal_by (place_in net) (gate_at net k).right) (new_defined net _ s d.0) (new_defined net _ s d.1));
      };
      ordered = (level_of net s.ordered.0, new_levels net s.ordered.0 s s.ordered.1, new_order net s.ordered.0 s s.ordered.2);
    }
