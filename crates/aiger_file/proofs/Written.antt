-- The text of a sound netlist is a file of the format.
use Rattle.std.proofs.Common.{◌≡◌, ◌∙◌, ℕ, suc, ◌+◌, ◌*◌, ◌<◌, ◌≤◌, Bool, false, cond, List, [], ◌∷◌, ◌++◌, map, length, drop, get_or, Some, refl, sym, ap, arith, append-nil, append_assoc}
use Rattle.std.specs.List.{All, AllZip, count_by}
use Rattle.std.proofs.lemmas.Bool.{eq-eqb, ne_eqb}
use Rattle.std.proofs.lemmas.List.Elements.{All-cons, All-contains}
use Rattle.std.proofs.lemmas.List.Sorted.{IsPermutation-refl}
use Rattle.std.proofs.lemmas.List.Sums.{sum_by-cons, count_by-le-length}
use Rattle.circ_model.specs.declared.netlist.Latch.{Latch}
use Rattle.circ_model.specs.declared.netlist.Gate.{Gate}
use Rattle.circ_model.specs.declared.netlist.Reset.{Reset}
use Rattle.circ_model.specs.declared.netlist.Reset.TheVariants.{Zero, One, Free}
use Rattle.circ_model.specs.Netlist.{Netlist, variables, IsSound}
use Rattle.aig_graph.specs.Given.{reset_of}
use Rattle.aig_graph.specs.Kept.{is_set}
use Rattle.aiger_codec.specs.declared.header.Header.{Header}
use Rattle.aiger_codec.specs.declared.section.Section.{Section}
use Rattle.aiger_codec.specs.declared.section.Section.TheVariants.{Inputs, Latches, Outputs, Gates}
use Rattle.aiger_codec.specs.Grammar.{SpellsLine, magic}
use Rattle.aiger_codec.specs.Sections.{least, most}
use Rattle.aiger_codec.specs.Writing.{line_text, lines_text, input_text, reset_numbers, latch_text, output_text, gate_text, net_text}
use Rattle.aiger_codec.proofs.WrittenLines.{line_spelled}
use Rattle.aiger_codec.specs.SectionGrammar.{Item, IsLine, SpellsLines, SpellsSection, MayBeGiven}
use Rattle.aiger_text.specs.Grammar.{SpellsBody}
use Rattle.aiger_codec.proofs.Cells.{HasCells}
use Rattle.aiger_text.proofs.Again.{body_again}
use Rattle.aiger_file.specs.Files.{IsNetlistFile}
use Rattle.aiger_file.proofs.OneReading.{body_cells}
use Rattle.aiger_file.proofs.SpelledFile.{after, file_read}

-- ---- a section

-- the line of an item
pub record Written (s : Section) (text : List ℕ) (ns : List ℕ) (x : Item s) : Type 0 where
  pub line : SpellsLine text ns
  pub enough : least s ≤ length ns
  pub few : length ns ≤ most s
  pub is : IsLine s ns x

record Lines (s : Section) (text : List ℕ) (xs : List (Item s)) : Type 0 where
  lines : List (List ℕ)
  spelled : SpellsLines (least s) (most s) text lines
  each : AllZip (IsLine s) lines xs

lines_written : (s : Section) (text numbers : Item s → List ℕ) (xs : List (Item s)) → All (λ x. Written s (text x) (numbers x) x) xs → Lines s (lines_text text xs) xs
unfolding lines_text
lines_written s text numbers [] all = record { lines = []; spelled = refl; each = tt }
lines_written s text numbers (x ∷ xs) all =
    let one : Written s (text x) (numbers x) x = all 0 x (omega arith) in
    let others = lines_written s text numbers xs (λ k d lt. all (suc k) d (omega arith)) in
    record { lines = numbers x ∷ others.lines; spelled = (text x, lines_text text xs, one.line, one.enough, one.few, others.spelled, refl); each = (one.is, others.each) }

pub section_written : (s : Section) (text numbers : Item s → List ℕ) (xs : List (Item s)) → All (λ x. Written s (text x) (numbers x) x) xs → SpellsSection s (lines_text text xs) xs
section_written s text numbers xs all = let w = lines_written s text numbers xs all in record { lines = w.lines; spelled = w.spelled; each = w.each }

-- ---- its items

input_written : (v : ℕ) → v ≤ 1000000 → Written Inputs (input_text v) (2 * v ∷ []) v
input_written v small = record { line = line_spelled (2 * v) [] (omega arith) tt; enough = omega arith; few = omega arith; is = refl }

pub reset_again : (v next : ℕ) (r : Reset) → 0 < v → reset_of v (get_or (2 * v ∷ next ∷ reset_numbers v r) 2 0) ≡ Some r
reset_again v next Zero some = refl
reset_again v next One some = refl
reset_again v next Free some =
    let a = ne_eqb (2 * v) 0 (λ e. omega arith) in
    let b = ne_eqb (2 * v) 1 (λ e. omega arith) in
    let c = eq-eqb (2 * v) (2 * v) refl in
    rw (a, b, c) refl

latch_line : (v next : ℕ) (r : Reset) → v ≤ 1000000 → next ≤ 2000001 → SpellsLine (line_text (2 * v) (next ∷ reset_numbers v r)) (2 * v ∷ next ∷ reset_numbers v r) × (length (2 * v ∷ next ∷ reset_numbers v r) ≤ 3)
latch_line v next Zero small low = (line_spelled (2 * v) (next ∷ []) (omega arith) (omega arith, tt), omega arith)
latch_line v next One small low = (line_spelled (2 * v) (next ∷ 1 ∷ []) (omega arith) (omega arith, (omega arith, tt)), omega arith)
latch_line v next Free small low = (line_spelled (2 * v) (next ∷ 2 * v ∷ []) (omega arith) (omega arith, (omega arith, tt)), omega arith)

latch_written : (l : Latch) → 0 < l.var → l.var ≤ 1000000 → l.next ≤ 2000001 → Written Latches (latch_text l) (2 * l.var ∷ l.next ∷ reset_numbers l.var l.reset) l
latch_written l some small low =
    let line = latch_line l.var l.next l.reset small low in
    record { line = line.0; enough = omega arith; few = line.1; is = (refl, refl, reset_again l.var l.next l.reset some) }

pub output_written : (lit : ℕ) → lit ≤ 2000001 → Written Outputs (output_text lit) (lit ∷ []) lit
output_written lit low = record { line = line_spelled lit [] (omega arith) tt; enough = omega arith; few = omega arith; is = refl }

gate_written : (q : Gate) → q.var ≤ 1000000 → q.left ≤ 2000001 → q.right ≤ 2000001 → Written Gates (gate_text q) (2 * q.var ∷ q.left ∷ q.right ∷ []) q
gate_written q small left right = record { line = line_spelled (2 * q.var) (q.left ∷ q.right ∷ []) (omega arith) (omega arith, (omega arith, tt)); enough = omega arith; few = omega arith; is = (refl, refl, refl) }

-- ---- what is sound is within range

pub may : (net : Netlist) → IsSound net → MayBeGiven net
may net s = record {
  once = s.once;
  in_range = s.in_range;
  next_literals = λ k d lt. All-contains (λ v. v ≤ net.max_var) (variables net) _ s.in_range (s.all_defined.latches k d lt);
  output_literals = λ k d lt. All-contains (λ v. v ≤ net.max_var) (variables net) _ s.in_range (s.all_defined.outputs k d lt);
  right_literals = λ k d lt. let g = s.all_defined.gates k d lt in
      (All-contains (λ v. v ≤ net.max_var) (variables net) _ s.in_range g.0, All-contains (λ v. v ≤ net.max_var) (variables net) _ s.in_range g.1);
}

all_left : {X : Type 0} (P : X → Type 0) (xs ys : List X) → All P (xs ++ ys) → All P xs
all_left P [] ys all = λ k d lt. absurd (omega arith)
all_left P (x ∷ xs) ys all = All-cons P x xs (all 0 x (omega arith)) (all_left P xs ys (λ k d lt. all (suc k) d (omega arith)))

all_right : {X : Type 0} (P : X → Type 0) (xs ys : List X) → All P (xs ++ ys) → All P ys
all_right P [] ys all = all
all_right P (x ∷ xs) ys all = all_right P xs ys (λ k d lt. all (suc k) d (omega arith))

all_map : {X Y : Type 0} (P : Y → Type 0) (f : X → Y) (xs : List X) → All P (map f xs) → All (λ x. P (f x)) xs
all_map P f [] all = λ k d lt. absurd (omega arith)
all_map P f (x ∷ xs) all = All-cons (λ y. P (f y)) x xs (all 0 (f x) (omega arith)) (all_map P f xs (λ k d lt. all (suc k) d (omega arith)))

abbrev InRange : ℕ → ℕ → Type 0
InRange m v = (0 < v) × (v ≤ m)

record Ranges (net : Netlist) : Type 0 where
  inputs : All (InRange net.max_var) net.inputs
  latches : All (λ (l : Latch). InRange net.max_var l.var) net.latches
  gates : All (λ (q : Gate). InRange net.max_var q.var) net.gates

ranges : (net : Netlist) → IsSound net → Ranges net
ranges net s =
    let ls : List ℕ = map (λ (l : Latch). l.var) net.latches in
    let qs : List ℕ = map (λ (q : Gate). q.var) net.gates in
    let all : All (InRange net.max_var) ((net.inputs ++ ls) ++ qs) = λ k d lt. (let ne = s.once 0 (suc k) d (omega arith) (omega arith) in omega arith, s.in_range (suc k) d (omega arith)) in
    let front = all_left (InRange net.max_var) (net.inputs ++ ls) qs all in
    record {
      inputs = all_left (InRange net.max_var) net.inputs ls front;
      latches = all_map (InRange net.max_var) (λ (l : Latch). l.var) net.latches (all_right (InRange net.max_var) net.inputs ls front);
      gates = all_map (InRange net.max_var) (λ (q : Gate). q.var) net.gates (all_right (InRange net.max_var) (net.inputs ++ ls) qs all);
    }

-- ---- no more inputs, latches and gates than variables

count_less : (p : ℕ → Bool) (cs : List ℕ) → p (get_or cs 0 0) ≡ false → 0 < length cs → count_by p cs < length cs
count_less p [] e lt = absurd (omega arith)
count_less p (c ∷ cs) e lt =
    let a = sum_by-cons (λ y. cond (p y) 1 0) c cs in
    let z : cond {A = ℕ} (p c) 1 0 ≡ 0 = ap (λ (b : Bool). cond {A = ℕ} b 1 0) e in
    let h = count_by-le-length p cs in
    omega (arith, a, z, h)

few : (g : Netlist) → HasCells g → length g.inputs + length g.latches + length g.gates ≤ g.max_var
few g h =
    let c = count_less is_set h.cells (ap is_set h.kept.zero) (omega (arith, h.kept.len)) in
    omega (arith, h.kept.count, h.kept.len)

-- ---- the whole

abbrev header_of : Netlist → List ℕ → Header
header_of net head = record { binary = false; m = net.max_var; i = length net.inputs; l = length net.latches; o = length net.outputs; a = length net.gates; end = length head }

abbrev body_text : Netlist → List ℕ
body_text net = lines_text input_text net.inputs ++ (lines_text latch_text net.latches ++ (lines_text output_text net.outputs ++ lines_text gate_text net.gates))

body_written : (net : Netlist) (head : List ℕ) → IsSound net → SpellsBody (header_of net head) (body_text net) net
body_written net head s =
    let m = may net s in
    let r = ranges net s in record {
      inputs = lines_text input_text net.inputs;
      latches = lines_text latch_text net.latches;
      outputs = lines_text output_text net.outputs;
      gates = lines_text gate_text net.gates;
      is = refl;
      input_lines = section_written Inputs input_text (λ v. 2 * v ∷ []) net.inputs (λ k d lt. input_written _ (omega (arith, (r.inputs k d lt).1, s.size)));
      latch_lines = section_written Latches latch_text (λ (l : Latch). 2 * l.var ∷ l.next ∷ reset_numbers l.var l.reset) net.latches
          (λ k d lt. latch_written _ (r.latches k d lt).0 (omega (arith, (r.latches k d lt).1, s.size)) (omega (arith, m.next_literals k d lt, s.size)));
      output_lines = section_written Outputs output_text (λ lit. lit ∷ []) net.outputs (λ k d lt. output_written _ (omega (arith, m.output_literals k d lt, s.size)));
      gate_lines = section_written Gates gate_text (λ (q : Gate). 2 * q.var ∷ q.left ∷ q.right ∷ []) net.gates
          (λ k d lt. gate_written _ (omega (arith, (r.gates k d lt).1, s.size)) (omega (arith, (m.right_literals k d lt).0, s.size)) (omega (arith, (m.right_literals k d lt).1, s.size)));
      input_count = refl;
      latch_count = refl;
      output_count = refl;
      gate_count = refl;
      max_var = refl;
      may = m;
    }

pub text_read : (net : Netlist) → IsSound net → IsNetlistFile (net_text net) net
text_read net s =
    let counts : List ℕ = length net.inputs ∷ length net.latches ∷ length net.outputs ∷ length net.gates ∷ [] in
    let line : List ℕ = line_text net.max_var counts in
    let head : List ℕ = magic false ++ line in
    let h : Header = header_of net head in
    let body : List ℕ = body_text net in
    let is : net_text net ≡ head ++ (body ++ ([] ++ [])) = sym (append_assoc (magic false) line body) ∙ ap (λ (l : List ℕ). head ++ l) (sym (append-nil body)) in
    let parts = body_written net head s in
    let start : length head ≡ 0 + length head = omega arith in
    let past : drop (length head) (net_text net) ≡ body ++ [] = ap (λ (k : ℕ). drop k (net_text net)) start ∙ after (net_text net) 0 head (body ++ ([] ++ [])) is in
    let read = body_again h (net_text net) body [] net parts past in
    let sections = few net (body_cells h (net_text net) _ s.size s.output_count read) in
    file_read (net_text net) net (record {
      head = head;
      body = body;
      symbols = [];
      unread = [];
      is = is;
      header = h;
      header_line = record {
        line = line;
        numbers = net.max_var ∷ counts;
        is = refl;
        spelled = line_spelled net.max_var counts (omega (arith, s.size)) (omega (arith, s.size, sections), (omega (arith, s.size, sections), (omega (arith, s.output_count), (omega (arith, s.size, sections), tt))));
        says = record { least = omega arith; most = omega arith; m = refl; i = refl; l = refl; o = refl; a = refl; bad = refl; constraint = refl; justice = refl; fairness = refl };
        limits = record { variables = s.size; outputs = s.output_count; sections = sections };
        all = λ e. absurd cc;
      };
      header_end = refl;
      given = net;
      sections = parts;
      symbol_count = 0;
      symbol_lines = refl;
      comment = tt;
      finished = record { max_var = refl; inputs = refl; latches = refl; outputs = refl; gates = IsPermutation-refl net.gates; sound = s };
    })
