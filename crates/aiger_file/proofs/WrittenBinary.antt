-- The bytes of a sound netlist that is numbered anew are a binary file of the format.
use Rattle.std.proofs.Common.{◌≡◌, ◌∙◌, ◌<◌, ◌≤◌, ◌+◌, ◌-◌, ◌*◌, ◌/◌, ℕ, suc, true, List, [], ◌∷◌, ◌++◌, map, length, get_or, refl, ap, sym, subst, arith, append-nil, append_assoc}
use Rattle.std.proofs.lemmas.List.{length-map, get_or-map}
use Rattle.std.proofs.lemmas.List.Sorted.{IsPermutation-refl}
use Rattle.std.proofs.Math.Nat.{min-le_left, le-max_left}
use Rattle.circ_model.specs.declared.netlist.Latch.{Latch}
use Rattle.circ_model.specs.declared.netlist.Gate.{Gate}
use Rattle.circ_model.specs.declared.netlist.Reset.{Reset}
use Rattle.circ_model.specs.declared.netlist.Reset.TheVariants.{Zero, One, Free}
use Rattle.circ_model.specs.Netlist.{Netlist, IsSound, leaf_variables, place_in, IsDefined, gate_at, no_gate}
use Rattle.circ_model.specs.Meaning.{literal_by, is_odd}
use Rattle.circ_model.proofs.Order.{Before, ordered, length_variables, place_of_variable}
use Rattle.circ_model.proofs.Rows.{length_leaves}
use Rattle.aiger_codec.specs.declared.header.Header.{Header}
use Rattle.aiger_codec.specs.declared.section.Section.TheVariants.{Outputs}
use Rattle.aiger_codec.specs.Deltas.{shortest}
use Rattle.aiger_codec.specs.Grammar.{SpellsLine, magic}
use Rattle.aiger_codec.specs.Writing.{line_text, lines_text, reset_numbers, output_text}
use Rattle.aiger_codec.specs.Renumbering.{latch_by, gate_by, renumbered}
use Rattle.aiger_codec.specs.BinaryWriting.{next_text, deltas_text, binary_text}
use Rattle.aiger_codec.proofs.DeltaLaws.{shortest_spelled}
use Rattle.aiger_codec.proofs.WrittenLines.{line_spelled}
use Rattle.circ_model.proofs.Counting.{few_variables, count_variables}
use Rattle.aiger_codec.proofs.Numbering.{no_latch, low_literal, max_less}
use Rattle.aiger_codec.proofs.BinaryWritten.{counts_of, same_counts}
use Rattle.aiger_binary.specs.Grammar.{SpellsEach, SpellsLatch, SpellsGate, SpellsBinary}
use Rattle.aiger_file.specs.Files.{IsNetlistFile}
use Rattle.aiger_file.specs.Grammar.{SpellsFile}
use Rattle.aiger_file.proofs.InTurn.{all_mapped}
use Rattle.aiger_file.proofs.NewNumbers.{latch_number, gate_number, low_half, new_sound}
use Rattle.aiger_file.proofs.Written.{Written, reset_again, section_written, output_written}
use Rattle.aiger_file.proofs.SpelledFile.{file_read}

-- ---- items

each_written : {X : Type 0} (P : ℕ → List ℕ → X → Type 0) (text : X → List ℕ) (v : ℕ) (xs : List X) (d : X) → ((k : ℕ) → k < length xs → P (v + k) (text (get_or xs k d)) (get_or xs k d)) → SpellsEach P v (lines_text text xs) xs
unfolding lines_text
each_written P text v [] d each = refl
each_written P text v (x ∷ xs) d each =
    let here : v + 0 ≡ v = omega arith in
    let next : (k : ℕ) → v + suc k ≡ v + 1 + k = λ k. omega arith in
    (text x, lines_text text xs, subst (λ (w : ℕ). P w (text x) x) here (each 0 (omega arith)), each_written P text (v + 1) xs d (λ k lt. subst (λ (w : ℕ). P w (text (get_or xs k d)) (get_or xs k d)) (next k) (each (suc k) (omega arith))), refl)

next_line : (v next : ℕ) (r : Reset) → v ≤ 1000000 → next ≤ 2000001 → SpellsLine (line_text next (reset_numbers v r)) (next ∷ reset_numbers v r) × (length (next ∷ reset_numbers v r) ≤ 2)
next_line v next Zero small low = (line_spelled next [] (omega arith) tt, omega arith)
next_line v next One small low = (line_spelled next (1 ∷ []) (omega arith) (omega arith, tt), omega arith)
next_line v next Free small low = (line_spelled next (2 * v ∷ []) (omega arith) (omega arith, tt), omega arith)

latch_written : (v : ℕ) (l : Latch) → l.var ≡ v → 0 < v → v ≤ 1000000 → l.next ≤ 2000001 → SpellsLatch v (next_text l) l
latch_written v l is some small low =
    let line = next_line l.var l.next l.reset (omega arith) low in
    record { numbers = l.next ∷ reset_numbers l.var l.reset; line = line.0; some = omega arith; few = line.1; var = is; next = refl; reset = reset_again l.var l.next l.reset (omega arith) }

gate_written : (v : ℕ) (q : Gate) → q.var ≡ v → v ≤ 1000000 → q.left < 2 * v → q.right ≤ q.left → SpellsGate v (deltas_text q) q
gate_written v q is small below less =
    let down : ℕ = 2 * q.var - q.left in
    let further : ℕ = q.left - q.right in
    let first = shortest_spelled down (omega arith) in
    let second = shortest_spelled further (omega arith) in
    record {
      first = shortest down;
      second = shortest further;
      is = refl;
      down = down;
      further = further;
      first_number = first.0;
      second_number = second.0;
      first_short = first.1;
      second_short = second.1;
      var = is;
      below = omega arith;
      left = omega arith;
      right = omega arith;
    }

-- ---- the numbers are within range

low : (net : Netlist) (lit : ℕ) → IsSound net → IsDefined net lit → literal_by (place_in net) lit / 2 ≤ length net.inputs + length net.latches + length net.gates
low net lit s d = omega (arith, low_half net lit s d, count_variables net)

low_number : (net : Netlist) (lit : ℕ) → IsSound net → IsDefined net lit → literal_by (place_in net) lit ≤ 2000001
low_number net lit s d = omega (arith, low net lit s d, count_variables net, few_variables net s, s.size)

before_low : (net : Netlist) (k lit : ℕ) → IsSound net → k < length net.gates → Before net k lit → literal_by (place_in net) lit < 2 * (length (leaf_variables net) + k)
before_low net k lit s lt (q, less, e) =
    let n = place_of_variable net q (lit / 2) s.once (omega (arith, length_variables net)) e in
    low_literal (place_in net (lit / 2)) (length (leaf_variables net) + k) lit (is_odd lit) (omega (arith, n))

latch_is : (net : Netlist) (k : ℕ) → IsSound net → k < length net.latches → SpellsLatch (length net.inputs + 1 + k) (next_text (latch_by (place_in net) (get_or net.latches k no_latch))) (latch_by (place_in net) (get_or net.latches k no_latch))
latch_is net k s lt =
    latch_written (length net.inputs + 1 + k) (latch_by (place_in net) (get_or net.latches k no_latch)) (omega (arith, latch_number net k s lt)) (omega arith) (omega (arith, count_variables net, few_variables net s, s.size)) (low_number net _ s (s.all_defined.latches k no_latch lt))

gate_is : (net : Netlist) (k : ℕ) → IsSound net → k < length net.gates → SpellsGate (length net.inputs + 1 + length net.latches + k) (deltas_text (gate_by (place_in net) (gate_at net k))) (gate_by (place_in net) (gate_at net k))
gate_is net k s lt =
    let v : ℕ = length net.inputs + 1 + length net.latches + k in
    let o = ordered net s in
    let a : ℕ = literal_by (place_in net) (gate_at net k).left in
    let b : ℕ = literal_by (place_in net) (gate_at net k).right in
    let at : length (leaf_variables net) + k ≡ v = omega (arith, length_leaves net) in
    let x : a < 2 * v = subst (λ (n : ℕ). a < 2 * n) at (before_low net k _ s lt (o.left k lt)) in
    let y : b < 2 * v = subst (λ (n : ℕ). b < 2 * n) at (before_low net k _ s lt (o.right k lt)) in
    gate_written v (gate_by (place_in net) (gate_at net k)) (gate_number net k s lt ∙ at) (omega (arith, count_variables net, few_variables net s, s.size)) (max_less a b (2 * v) x y) (omega (arith, min-le_left a b, le-max_left a b))

each_mapped : {X Y : Type 0} (P : ℕ → List ℕ → Y → Type 0) (text : Y → List ℕ) (f : X → Y) (v : ℕ) (xs : List X) (d : X) → ((k : ℕ) → k < length xs → P (v + k) (text (f (get_or xs k d))) (f (get_or xs k d))) → SpellsEach P v (lines_text text (map f xs)) (map f xs)
each_mapped P text f v xs d each =
    let all = all_mapped_at P text f v xs d each in each_written P text v (map f xs) (f d) all
  where
    all_mapped_at : {X Y : Type 0} (P : ℕ → List ℕ → Y → Type 0) (text : Y → List ℕ) (f : X → Y) (v : ℕ) (xs : List X) (d : X) → ((k : ℕ) → k < length xs → P (v + k) (text (f (get_or xs k d))) (f (get_or xs k d)))
        → (k : ℕ) → k < length (map f xs) → P (v + k) (text (get_or (map f xs) k (f d))) (get_or (map f xs) k (f d))
    all_mapped_at P text f v xs d each k lt =
        let less : k < length xs = omega (arith, length-map xs f) in
        subst (λ y. P (v + k) (text y) y) (sym (get_or-map f xs k d (f d) less)) (each k less)

-- ---- the whole

abbrev header_of : Netlist → List ℕ → Header
header_of net head = record { binary = true; m = length net.inputs + length net.latches + length net.gates; i = length net.inputs; l = length net.latches; o = length net.outputs; a = length net.gates; end = length head }

abbrev body_text : Netlist → List ℕ
body_text net = lines_text next_text net.latches ++ (lines_text output_text net.outputs ++ lines_text deltas_text net.gates)

body_written : (net : Netlist) (head : List ℕ) → IsSound net → SpellsBinary (header_of net head) (body_text (renumbered net)) (renumbered net)
body_written net head s = record {
  latches = lines_text next_text (renumbered net).latches;
  outputs = lines_text output_text (renumbered net).outputs;
  gates = lines_text deltas_text (renumbered net).gates;
  is = refl;
  inputs = refl;
  latch_lines = each_mapped SpellsLatch next_text (latch_by (place_in net)) (length net.inputs + 1) net.latches no_latch (λ k lt. latch_is net k s lt);
  output_lines = section_written Outputs output_text (λ lit. lit ∷ []) (renumbered net).outputs
      (all_mapped (λ (lit : ℕ). Written Outputs (output_text lit) (lit ∷ []) lit) (literal_by (place_in net)) net.outputs 0 (λ k lt. output_written _ (low_number net _ s (s.all_defined.outputs k 0 lt))));
  gate_numbers = each_mapped SpellsGate deltas_text (gate_by (place_in net)) (length net.inputs + 1 + length net.latches) net.gates no_gate (λ k lt. gate_is net k s lt);
  latch_count = length-map net.latches (latch_by (place_in net));
  output_count = length-map net.outputs (literal_by (place_in net));
  gate_count = length-map net.gates (gate_by (place_in net));
  max_var = refl;
  next_literals = all_mapped (λ (l : Latch). l.next / 2 ≤ (renumbered net).max_var) (latch_by (place_in net)) net.latches no_latch (λ k lt. low net _ s (s.all_defined.latches k no_latch lt));
  output_literals = all_mapped (λ (lit : ℕ). lit / 2 ≤ (renumbered net).max_var) (literal_by (place_in net)) net.outputs 0 (λ k lt. low net _ s (s.all_defined.outputs k 0 lt));
}

pub binary_spelled : (net : Netlist) → IsSound net → SpellsFile (binary_text (renumbered net)) (renumbered net)
binary_spelled net s =
    let counts : List ℕ = counts_of net in
    let m : ℕ = length net.inputs + length net.latches + length net.gates in
    let line : List ℕ = line_text m counts in
    let head : List ℕ = magic true ++ line in
    let body : List ℕ = body_text (renumbered net) in
    let total = count_variables net in
    let few = few_variables net s in
    let is : binary_text (renumbered net) ≡ head ++ (body ++ ([] ++ [])) =
    ap (λ (ns : List ℕ). magic true ++ (line_text m ns ++ body)) (same_counts net) ∙ sym (append_assoc (magic true) line body) ∙ ap (λ (l : List ℕ). head ++ l) (sym (append-nil body)) in
    record {
      head = head;
      body = body;
      symbols = [];
      unread = [];
      is = is;
      header = header_of net head;
      header_line = record {
        line = line;
        numbers = m ∷ counts;
        is = refl;
        spelled = line_spelled m counts (omega (arith, s.size, total, few)) (omega (arith, s.size, total, few), (omega (arith, s.size, total, few), (omega (arith, s.output_count), (omega (arith, s.size, total, few), tt))));
        says = record { least = omega arith; most = omega arith; m = refl; i = refl; l = refl; o = refl; a = refl; bad = refl; constraint = refl; justice = refl; fairness = refl };
        limits = record { variables = omega (arith, s.size, total, few); outputs = s.output_count; sections = omega arith };
        all = λ e. refl;
      };
      header_end = refl;
      given = renumbered net;
      sections = body_written net head s;
      symbol_count = 0;
      symbol_lines = refl;
      comment = tt;
      finished = record { max_var = refl; inputs = refl; latches = refl; outputs = refl; gates = IsPermutation-refl (renumbered net).gates; sound = new_sound net s };
    }

pub binary_read : (net : Netlist) → IsSound net → IsNetlistFile (binary_text (renumbered net)) (renumbered net)
binary_read net s = file_read (binary_text (renumbered net)) (renumbered net) (binary_spelled net s)
