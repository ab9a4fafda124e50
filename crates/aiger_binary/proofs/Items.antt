-- One item: what was read of it is spelled so and may be added, and what is spelled so and may be added is read.
use Rattle.std.proofs.Common.{◌≡◌, ◌≢◌, ◌∙◌, ℕ, ◌+◌, ◌-◌, ◌*◌, ◌/◌, ◌%◌, ◌^◌, ◌<◌, ◌≤◌, Bool, true, false, cond, ◌||◌, eqb, ltb, List, [], ◌∷◌, ◌++◌, length, drop, get_or, Result, Ok, Err, refl, sym, ap, arith, append_assoc, length-append}
use Rattle.std.proofs.lemmas.Bool.{eq-eqb, ne_eqb, ltb-false, le-ltb}
use Rattle.std.proofs.lemmas.List.{drop-drop}
use Rattle.std.proofs.Math.Seq.{drop-append_seam}
use Rattle.circ_model.specs.declared.netlist.Latch.{Latch}
use Rattle.circ_model.specs.declared.netlist.Gate.{Gate}
use Rattle.circ_model.specs.Netlist.{Netlist}
use Rattle.aig_graph.specs.Given.{with_latch, with_gate}
use Rattle.aiger_codec.specs.Deltas.{delta_at}
use Rattle.aiger_codec.specs.Lines.{line_at}
use Rattle.aiger_codec.specs.declared.delta.Delta.{Delta}
use Rattle.aiger_codec.specs.declared.delta.Delta.TheVariants.{Value, Cut, Wide}
use Rattle.aiger_codec.specs.declared.fault.NetFault.{NetFault}
use Rattle.aiger_codec.specs.declared.section.Section.{Section}
use Rattle.aiger_codec.specs.declared.section.Section.TheVariants.{Latches, Gates}
use Rattle.aiger_codec.specs.Sections.{added}
use Rattle.aiger_codec.proofs.DeltaLaws.{delta_spelled, delta_read}
use Rattle.aiger_codec.proofs.Ends.{line_read}
use Rattle.aiger_codec.proofs.LineLaws.{line_is}
use Rattle.aiger_codec.proofs.Spelled.{line_takes, line_again}
use Rattle.aiger_codec.specs.SectionGrammar.{Item}
use Rattle.aiger_codec.proofs.Room.{bind_is, placed_is}
use Rattle.aiger_codec.proofs.Items.{with_item, MayAdd, item_adds, item_added}
use Rattle.aiger_binary.specs.Binary.{latch_at, taken, gate_at}
use Rattle.aiger_binary.specs.Grammar.{SpellsLatch, SpellsGate}

-- ---- a latch and a gate add what a text line with their variable in front adds

latch_same : (g : Netlist) (v : ℕ) (ns : List ℕ) → added Latches g (2 * v ∷ ns) ≡ with_latch g v (get_or ns 0 0) (get_or ns 1 0)
latch_same g v ns =
    let a = ne_eqb (2 * v % 2) 1 (λ e. omega arith) in
    let b : 2 * v / 2 ≡ v = omega arith in
    rw (a, b) refl

gate_same : (g : Netlist) (v left right : ℕ) → added Gates g (2 * v ∷ left ∷ right ∷ []) ≡ with_gate g v left right
gate_same g v left right =
    let a = ne_eqb (2 * v % 2) 1 (λ e. omega arith) in
    let b : 2 * v / 2 ≡ v = omega arith in
    rw (a, b) refl

-- ---- what was read of an item

pub record One (s : Section) (bytes : List ℕ) (P : List ℕ → Item s → Type 0) (g : Netlist) (at : ℕ) (t : Netlist × ℕ) : Type 0 where
  pub item : Item s
  pub text : List ℕ
  pub spelled : P text item
  pub stands : drop at bytes ≡ text ++ drop t.1 bytes
  pub end : t.1 ≡ at + length text
  pub may : MayAdd s g item
  pub is : with_item s g item ≡ t.0

pub latch_take : (bytes : List ℕ) (v : ℕ) (s t : Netlist × ℕ) → latch_at bytes v s ≡ Ok t → One Latches bytes (SpellsLatch v) s.0 s.1 t
unfolding latch_at
latch_take bytes v s t e =
    let a = bind_is (line_at 1 2 bytes s.1) _ t e in
    let ns : List ℕ = a.0.0 in
    let p = placed_is s.1 a.0.1 (with_latch s.0 v (get_or ns 0 0) (get_or ns 1 0)) t a.2 in
    let line = line_is 1 2 bytes s.1 a.0 a.1 in
    let front = line_takes 2 bytes s.1 a.0 line.numbers in
    let x = item_adds Latches s.0 p.0 (2 * v ∷ ns) (latch_same s.0 v ns ∙ p.1) in
    let end : t.1 ≡ a.0.1 = ap (λ (y : Netlist × ℕ). y.1) p.2 in
    let net : t.0 ≡ p.0 = ap (λ (y : Netlist × ℕ). y.0) p.2 in
    record {
      item = x.0;
      text = front.0;
      spelled = record { numbers = ns; line = front.1; some = line.enough; few = line.few; var = let h = x.1.0 in omega arith; next = x.1.1; reset = x.1.2 };
      stands = front.2.is ∙ ap (λ (k : ℕ). front.0 ++ drop k bytes) (sym end);
      end = end ∙ front.3;
      may = x.2;
      is = x.3 ∙ sym net;
    }

taken_is : (at : ℕ) (d : Delta) (x : ℕ × ℕ) → taken at d ≡ Ok x → d ≡ Value x.0 x.1
taken_is at (Value n end) x e = cc
taken_is at Cut x e = absurd cc
taken_is at Wide x e = absurd cc

not_faulty : (b : Bool) (f : NetFault) (r : Result (Netlist × ℕ) NetFault) (t : Netlist × ℕ) → cond b (Err f) r ≡ Ok t → (b ≡ false) × (r ≡ Ok t)
not_faulty true f r t e = absurd cc
not_faulty false f r t e = (refl, e)

neither : (a b : Bool) → (a || b) ≡ false → (a ≡ false) × (b ≡ false)
neither true b e = absurd cc
neither false b e = (refl, e)

not_eq : (a b : ℕ) → eqb a b ≡ false → a ≢ b
not_eq a b e is = let h = eq-eqb a b is in absurd (both (eqb a b) h e)
  where
    both : (c : Bool) → c ≡ true → c ≡ false → ⊥
    both c x y = absurd cc

-- the two numbers of a gate that was read
record Numbers (bytes : List ℕ) (v : ℕ) (s t : Netlist × ℕ) : Type 0 where
  first : ℕ × ℕ
  second : ℕ × ℕ
  first_is : delta_at bytes s.1 ≡ Value first.0 first.1
  second_is : delta_at bytes first.1 ≡ Value second.0 second.1
  some : 0 < first.0
  below : first.0 + second.0 ≤ 2 * v
  given : Netlist
  adds : added Gates s.0 (2 * v ∷ (2 * v - first.0) ∷ (2 * v - first.0 - second.0) ∷ []) ≡ Ok given
  is : t ≡ (given, second.1)

gate_numbers : (bytes : List ℕ) (v : ℕ) (s t : Netlist × ℕ) → gate_at bytes v s ≡ Ok t → Numbers bytes v s t
unfolding gate_at
gate_numbers bytes v s t e =
    let a = bind_is (taken s.1 (delta_at bytes s.1)) _ t e in
    let b = bind_is (taken s.1 (delta_at bytes a.0.1)) _ t a.2 in
    let d : ℕ = a.0.0 in
    let k : ℕ = b.0.0 in
    let c = not_faulty ((eqb d 0 || ltb (2 * v) d) || ltb (2 * v - d) k) _ _ t b.2 in
    let n = neither (eqb d 0 || ltb (2 * v) d) (ltb (2 * v - d) k) c.0 in
    let m = neither (eqb d 0) (ltb (2 * v) d) n.0 in
    let some = not_eq d 0 m.0 in
    let most = ltb-false _ _ m.1 in
    let least = ltb-false _ _ n.1 in
    let p = placed_is s.1 b.0.1 (with_gate s.0 v (2 * v - d) (2 * v - d - k)) t c.1 in
    record {
      first = a.0;
      second = b.0;
      first_is = taken_is s.1 (delta_at bytes s.1) a.0 a.1;
      second_is = taken_is s.1 (delta_at bytes a.0.1) b.0 b.1;
      some = omega arith;
      below = omega arith;
      given = p.0;
      adds = gate_same s.0 v (2 * v - d) (2 * v - d - k) ∙ p.1;
      is = p.2;
    }

pub gate_adds : (bytes : List ℕ) (v : ℕ) (s t : Netlist × ℕ) → gate_at bytes v s ≡ Ok t → (x : Gate) × MayAdd Gates s.0 x × (with_item Gates s.0 x ≡ t.0)
gate_adds bytes v s t e =
    let r = gate_numbers bytes v s t e in
    let x = item_adds Gates s.0 r.given (2 * v ∷ (2 * v - r.first.0) ∷ (2 * v - r.first.0 - r.second.0) ∷ []) r.adds in
    (x.0, x.2, x.3 ∙ sym (ap (λ (y : Netlist × ℕ). y.0) r.is))

pub gate_take : (bytes : List ℕ) (v : ℕ) (s t : Netlist × ℕ) → ((i : ℕ) → get_or bytes i 0 < 256) → gate_at bytes v s ≡ Ok t → One Gates bytes (SpellsGate v) s.0 s.1 t
gate_take bytes v s t small e =
    let r = gate_numbers bytes v s t e in
    let x = item_adds Gates s.0 r.given (2 * v ∷ (2 * v - r.first.0) ∷ (2 * v - r.first.0 - r.second.0) ∷ []) r.adds in
    let first = delta_spelled bytes s.1 r.first.0 r.first.1 small r.first_is in
    let second = delta_spelled bytes r.first.1 r.second.0 r.second.1 small r.second_is in
    let end : t.1 ≡ r.second.1 = ap (λ (y : Netlist × ℕ). y.1) r.is in
    record {
      item = x.0;
      text = first.0 ++ second.0;
      spelled = record {
        first = first.0;
        second = second.0;
        is = refl;
        down = r.first.0;
        further = r.second.0;
        first_number = first.1;
        second_number = second.1;
        first_short = first.3;
        second_short = second.3;
        var = let h = x.1.0 in omega arith;
        below = r.some;
        left = let h = x.1.1 in omega (arith, r.below);
        right = let h = x.1.1 in let j = x.1.2 in omega (arith, r.below);
      };
      stands = first.2.is ∙ ap (λ (l : List ℕ). first.0 ++ l) second.2.is ∙ sym (append_assoc first.0 second.0 (drop r.second.1 bytes)) ∙ ap (λ (j : ℕ). (first.0 ++ second.0) ++ drop j bytes) (sym end);
      end = omega (arith, end, first.2.ends, second.2.ends, length-append first.0 second.0);
      may = x.2;
      is = x.3 ∙ sym (ap (λ (y : Netlist × ℕ). y.0) r.is);
    }

-- ---- what is spelled is read

pub after : (bytes : List ℕ) (at : ℕ) (text rest : List ℕ) → drop at bytes ≡ text ++ rest → drop (at + length text) bytes ≡ rest
after bytes at text rest is = sym (drop-drop (length text) at bytes) ∙ ap (λ (l : List ℕ). drop (length text) l) is ∙ drop-append_seam text rest

pub latch_again : (bytes : List ℕ) (v : ℕ) (g : Netlist) (at : ℕ) (x : Latch) (text rest : List ℕ) → SpellsLatch v text x → drop at bytes ≡ text ++ rest → MayAdd Latches g x → latch_at bytes v (g, at) ≡ Ok (with_item Latches g x, at + length text)
unfolding latch_at
latch_again bytes v g at x text rest s stands may =
    let ns : List ℕ = s.numbers in
    let numbers = line_again ns 2 bytes at text rest s.few s.line (record { is = stands }) in
    let line = line_read 1 2 bytes at (ns, at + length text) numbers s.some in
    let add : with_latch g v (get_or ns 0 0) (get_or ns 1 0) ≡ Ok (with_item Latches g x) =
    sym (latch_same g v ns) ∙ item_added Latches g (2 * v ∷ ns) x (ap (λ (k : ℕ). 2 * k) (sym s.var), s.next, s.reset) may in
    rw (line, add) refl

pub gate_again : (bytes : List ℕ) (v : ℕ) (g : Netlist) (at : ℕ) (x : Gate) (text rest : List ℕ) → SpellsGate v text x → 2 * v < 2 ^ 32 → drop at bytes ≡ text ++ rest → MayAdd Gates g x → gate_at bytes v (g, at) ≡ Ok (with_item Gates g x, at + length text)
unfolding gate_at
gate_again bytes v g at x text rest s small stands may =
    let d : ℕ = s.down in
    let k : ℕ = s.further in
    let middle : ℕ = at + length s.first in
    let here : drop at bytes ≡ s.first ++ (s.second ++ rest) = stands ∙ ap (λ (l : List ℕ). l ++ rest) s.is ∙ append_assoc s.first s.second rest in
    let next : drop middle bytes ≡ s.second ++ rest = after bytes at s.first (s.second ++ rest) here in
    let first = delta_read bytes at d middle s.first (s.second ++ rest) s.first_number (record { is = here; ends = refl }) s.first_short (omega (arith, s.left)) in
    let second = delta_read bytes middle k (middle + length s.second) s.second rest s.second_number (record { is = next; ends = refl }) s.second_short (omega (arith, s.left, s.right)) in
    let some = ne_eqb d 0 (λ e. omega (arith, s.below)) in
    let most = le-ltb (2 * v) d (omega (arith, s.left)) in
    let least = le-ltb (2 * v - d) k (omega (arith, s.left, s.right)) in
    let left : 2 * v - d ≡ x.left = omega (arith, s.left) in
    let right : x.left - k ≡ x.right = omega (arith, s.right) in
    let add : with_gate g v x.left x.right ≡ Ok (with_item Gates g x) =
    sym (gate_same g v x.left x.right) ∙ item_added Gates g (2 * v ∷ x.left ∷ x.right ∷ []) x (ap (λ (j : ℕ). 2 * j) (sym s.var), refl, refl) may in
    let end : middle + length s.second ≡ at + length text = omega (arith, ap length s.is, length-append s.first s.second) in
    rw (first, second, some, most, least, left, right, add) (ap (λ (j : ℕ). Ok (with_item Gates g x, j)) end)
