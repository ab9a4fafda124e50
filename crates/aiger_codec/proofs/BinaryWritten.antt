-- The parts that are written, one after the other, are the binary text of the netlist numbered anew.
use Rattle.std.proofs.Common.{◌≡◌, ◌∙◌, ◌+◌, ℕ, true, List, [], ◌∷◌, ◌++◌, map, length, refl, ap, ap₂, sym, append_assoc}
use Rattle.std.proofs.lemmas.List.{length-map}
use Rattle.std.proofs.lemmas.List.FromFn.{length-range_with_len}
use Rattle.circ_model.specs.declared.netlist.Latch.{Latch}
use Rattle.circ_model.specs.declared.netlist.Gate.{Gate}
use Rattle.circ_model.specs.Netlist.{Netlist, IsSound, place_in}
use Rattle.circ_model.specs.Meaning.{literal_by}
use Rattle.aiger_codec.specs.Grammar.{magic}
use Rattle.aiger_codec.specs.Writing.{line_text, lines_text, output_text}
use Rattle.aiger_codec.specs.Renumbering.{says, latch_by, gate_by, renumbered}
use Rattle.aiger_codec.specs.BinaryWriting.{next_text, deltas_text, binary_text}
use Rattle.aiger_codec.proofs.Numbering.{Numbers, same_latches, same_outputs, same_gates}

abbrev pub counts_of : Netlist → List ℕ
counts_of net = length net.inputs ∷ length net.latches ∷ length net.outputs ∷ length net.gates ∷ []

pub same_counts : (net : Netlist) → counts_of (renumbered net) ≡ counts_of net
same_counts net =
    rw (length-range_with_len 1 (length net.inputs), length-map net.latches (latch_by (place_in net)), length-map net.outputs (literal_by (place_in net)), length-map net.gates (gate_by (place_in net))) refl

joined : (a b c d e : List ℕ) → (((a ++ b) ++ c) ++ d) ++ e ≡ a ++ (b ++ (c ++ (d ++ e)))
joined a b c d e = append_assoc ((a ++ b) ++ c) d e ∙ append_assoc (a ++ b) c (d ++ e) ∙ append_assoc a b (c ++ (d ++ e))

pub parts_are : (net : Netlist) (table : List ℕ) → IsSound net → Numbers net table
    → (((magic true ++ line_text (length net.inputs + length net.latches + length net.gates) (counts_of net))
    ++ lines_text next_text (map (latch_by (says table)) net.latches)) ++ lines_text output_text (map (literal_by (says table)) net.outputs))
    ++ lines_text deltas_text (map (gate_by (says table)) net.gates) ≡ binary_text (renumbered net)
parts_are net table s h =
    let m : ℕ = length net.inputs + length net.latches + length net.gates in
    joined (magic true) (line_text m (counts_of net)) _ _ _
    ∙ ap₂ (λ (a b : List ℕ). magic true ++ (a ++ b)) (ap (line_text m) (sym (same_counts net)))
    (ap₂ (λ (a b : List ℕ). a ++ b) (ap (lines_text next_text) (same_latches net table s h))
    (ap₂ (λ (a b : List ℕ). a ++ b) (ap (lines_text output_text) (same_outputs net table s h)) (ap (lines_text deltas_text) (same_gates net table s h))))

-- the same, of lists that are the netlist's and tables that are the numbering
pub record AreParts (net : Netlist) (table inputs : List ℕ) (latches lines : List Latch) (outputs literals : List ℕ) (gates pairs : List Gate) (first second third : List ℕ) : Type 0 where
  pub is_inputs : inputs ≡ net.inputs
  pub is_latches : latches ≡ net.latches
  pub is_lines : lines ≡ net.latches
  pub is_outputs : outputs ≡ net.outputs
  pub is_literals : literals ≡ net.outputs
  pub is_gates : gates ≡ net.gates
  pub is_pairs : pairs ≡ net.gates
  pub is_first : first ≡ table
  pub is_second : second ≡ table
  pub is_third : third ≡ table

pub whole : (net : Netlist) (table inputs : List ℕ) (latches lines : List Latch) (outputs literals : List ℕ) (gates pairs : List Gate) (first second third : List ℕ) → IsSound net → Numbers net table
    → AreParts net table inputs latches lines outputs literals gates pairs first second third → (a b c d e : List ℕ) → a ≡ magic true
    → b ≡ a ++ line_text (length inputs + length latches + length gates) (length inputs ∷ length latches ∷ length outputs ∷ length gates ∷ [])
    → c ≡ b ++ lines_text next_text (map (latch_by (says first)) lines) → d ≡ c ++ lines_text output_text (map (literal_by (says second)) literals)
    → e ≡ d ++ lines_text deltas_text (map (gate_by (says third)) pairs) → e ≡ binary_text (renumbered net)
whole net table inputs latches lines outputs literals gates pairs first second third s h p a b c d e i j k l m =
    m ∙ rw (l, k, j, i, p.is_first, p.is_second, p.is_third, p.is_pairs, p.is_literals, p.is_lines, p.is_gates, p.is_outputs, p.is_latches, p.is_inputs) (parts_are net table s h)
