-- Levels of a sound netlist's variables, place by place.
use Rattle.std.proofs.Common.{◌≡◌, ◌∙◌, ◌<◌, ◌≤◌, ◌+◌, ◌-◌, ◌/◌, ⊎_elim, ℕ, zero, suc, max, length, get_or, ap, ap₂, sym, subst, arith}
use Rattle.std.proofs.lemmas.Bool.{cases_lt}
use Rattle.circ_model.specs.declared.netlist.Gate.{Gate}
use Rattle.circ_model.specs.Netlist.{Netlist, IsLevelling, variables, leaf_variables, gate_at, no_gate}
use Rattle.circ_model.proofs.Order.{Before, IsOrdered, length_variables, leaf_variable, gate_variable}

-- two levellings agree at every place
pub one_level : (net : Netlist) (a b : ℕ → ℕ) → IsOrdered net → IsLevelling net a → IsLevelling net b → (n q : ℕ) → q < n → q < length (variables net) → a (get_or (variables net) q 0) ≡ b (get_or (variables net) q 0)
one_level net a b o x y zero q lt within = absurd (omega arith)
one_level net a b o x y (suc n) q lt within =
    ⊎_elim
    (λ (l : q < length (leaf_variables net)). let e = leaf_variable net q l in rw e (x.leaves q 0 l ∙ sym (y.leaves q 0 l)))
    (λ (l : length (leaf_variables net) ≤ q).
    let k : ℕ = q - length (leaf_variables net) in
    let e : q ≡ length (leaf_variables net) + k = omega arith in
    let kl : k < length net.gates = omega (arith, length_variables net) in
    let g : Gate = gate_at net k in
    let v = gate_variable net k q kl e in
    let earlier : (lit : ℕ) → Before net k lit → a (lit / 2) ≡ b (lit / 2) = λ lit p.
    subst (λ (w : ℕ). a w ≡ b w) p.2 (one_level net a b o x y n p.0 (omega (arith, p.1)) (omega (arith, p.1, length_variables net))) in
    rw v (x.gates k no_gate kl ∙ ap₂ (λ (i j : ℕ). 1 + max i j) (earlier g.left (o.left k kl)) (earlier g.right (o.right k kl)) ∙ sym (y.gates k no_gate kl)))
    (cases_lt q (length (leaf_variables net)))

-- the level at a place is at most the number of gates that stand up to it
pub level_below : (net : Netlist) (level : ℕ → ℕ) → IsOrdered net → IsLevelling net level → (n q k : ℕ) → q < n → q < length (variables net) → q < length (leaf_variables net) + k → level (get_or (variables net) q 0) ≤ k
level_below net level o x zero q k lt within below = absurd (omega arith)
level_below net level o x (suc n) q k lt within below =
    ⊎_elim
    (λ (l : q < length (leaf_variables net)). let e = ap level (leaf_variable net q l) ∙ x.leaves q 0 l in omega arith)
    (λ (l : length (leaf_variables net) ≤ q).
    let j : ℕ = q - length (leaf_variables net) in
    let kl : j < length net.gates = omega (arith, length_variables net) in
    let g : Gate = gate_at net j in
    let v : level (get_or (variables net) q 0) ≡ 1 + max (level (g.left / 2)) (level (g.right / 2)) = ap level (gate_variable net j q kl (omega arith)) ∙ x.gates j no_gate kl in
    let earlier : (lit : ℕ) → Before net j lit → level (lit / 2) ≤ j = λ lit p.
    subst (λ (w : ℕ). level w ≤ j) p.2 (level_below net level o x n p.0 j (omega (arith, p.1)) (omega (arith, p.1, length_variables net)) p.1) in
    let a = earlier g.left (o.left j kl) in
    let b = earlier g.right (o.right j kl) in
    omega arith)
    (cases_lt q (length (leaf_variables net)))
