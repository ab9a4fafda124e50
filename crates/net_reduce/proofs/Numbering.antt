-- The inputs of a stub, and that finishing leaves it as it was given.
use Rattle.std.proofs.Common.{◌≡◌, ◌∙◌, ◌≤◌, ◌+◌, ℕ, zero, suc, List, [], ◌∷◌, ◌++◌, length, refl, ap, sym, arith}
use Rattle.std.specs.List.{range_with_len}
use Rattle.std.proofs.lemmas.List.Sorted.{length_permutation}
use Rattle.circ_model.specs.declared.netlist.Latch.{Latch}
use Rattle.circ_model.specs.declared.netlist.Gate.{Gate}
use Rattle.circ_model.specs.Netlist.{Netlist, IsSound}
use Rattle.circ_model.proofs.Order.{length_variables}
use Rattle.circ_model.proofs.Rows.{length_leaves}
use Rattle.circ_model.proofs.Counting.{few_variables}
use Rattle.aig_graph.specs.Finish.{IsFinished}

-- one number more
one_more : (a n : ℕ) → range_with_len a (suc n) ≡ range_with_len a n ++ (a + n) ∷ []
one_more a zero = ap (λ (m : ℕ). m ∷ []) (omega arith)
one_more a (suc n) = ap (λ (ms : List ℕ). a ∷ ms) (one_more (a + 1) n ∙ ap (λ (m : ℕ). range_with_len (a + 1) n ++ m ∷ []) (omega arith))

pub numbers_more : (a n : ℕ) → range_with_len a (n + 1) ≡ range_with_len a n ++ (a + n) ∷ []
numbers_more a n = ap (range_with_len a) (let e : n + 1 ≡ suc n = omega arith in e) ∙ one_more a n

pub few_inputs : (net : Netlist) → IsSound net → length net.inputs ≤ 1000000
few_inputs net sound = omega (arith, few_variables net sound, length_variables net, length_leaves net, sound.size)

none : (gs : List Gate) → length gs ≡ 0 → gs ≡ []
none [] e = refl
none (g ∷ gs) e = absurd (omega arith)

-- without gates there is nothing to put into order
pub finished_as_given : (given net : Netlist) → given.gates ≡ [] → IsFinished given net → net ≡ given
finished_as_given given net empty is =
    let gates : net.gates ≡ given.gates = none net.gates (length_permutation given.gates net.gates is.gates ∙ ap length empty) ∙ sym empty in
    ap (λ (m : ℕ). with m net.inputs net.latches net.outputs net.gates) is.max_var
    ∙ ap (λ (is : List ℕ). with given.max_var is net.latches net.outputs net.gates) is.inputs
    ∙ ap (λ (ls : List Latch). with given.max_var given.inputs ls net.outputs net.gates) is.latches
    ∙ ap (λ (os : List ℕ). with given.max_var given.inputs given.latches os net.gates) is.outputs
    ∙ ap (λ (gs : List Gate). with given.max_var given.inputs given.latches given.outputs gs) gates
  where
    with : ℕ → List ℕ → List Latch → List ℕ → List Gate → Netlist
    with m is ls os gs = record { max_var = m; inputs = is; latches = ls; outputs = os; gates = gs }
