-- What is read of a section is spelled so and adds so, and what is spelled so and adds so is read.
use Rattle.std.proofs.Common.{◌≡◌, ℕ, zero, suc, ◌+◌, List, [], ◌∷◌, ◌++◌, length, drop, Result, Ok, Err, refl, sym, ap, ap₂, subst, ◌∙◌, arith, append_assoc, length-append}
use Rattle.std.proofs.lemmas.List.{drop-drop}
use Rattle.std.proofs.Math.Seq.{drop-append_seam}
use Rattle.aiger_codec.specs.Lines.{line_at}
use Rattle.aiger_codec.proofs.Ends.{line_read}
use Rattle.aiger_codec.proofs.LineLaws.{line_is}
use Rattle.aiger_codec.proofs.Spelled.{Stands, line_takes, line_again}
use Rattle.aig_graph.specs.declared.fault.BuildFault.{BuildFault}
use Rattle.circ_model.specs.Netlist.{Netlist}
use Rattle.aiger_codec.specs.declared.section.Section.{Section}
use Rattle.aiger_codec.specs.Sections.{least, most, added, placed, item_at, items_at}
use Rattle.aiger_codec.specs.SectionGrammar.{SpellsLines}
use Rattle.aiger_codec.proofs.Room.{bind_is}

-- what lines add, one after the other
abbrev pub and_then : (Netlist → Result Netlist BuildFault) → Result Netlist BuildFault → Result Netlist BuildFault
and_then f (Ok g) = f g
and_then f (Err e) = Err e

abbrev pub added_all : Section → List (List ℕ) → Netlist → Result Netlist BuildFault
added_all section [] g = Ok g
added_all section (ns ∷ others) g = and_then (added_all section others) (added section g ns)

put_is : (at end : ℕ) (r : Result Netlist BuildFault) (s : Netlist × ℕ) → placed at end r ≡ Ok s → (r ≡ Ok s.0) × (end ≡ s.1)
put_is at end (Ok g) s e = (cc, cc)
put_is at end (Err f) s e = absurd cc

-- what was read of a section
pub record Section-read (section : Section) (bytes : List ℕ) (s t : Netlist × ℕ) (n : ℕ) : Type 0 where
  pub lines : List (List ℕ)
  pub text : List ℕ
  pub spelled : SpellsLines (least section) (most section) text lines
  pub stands : Stands bytes s.1 text (drop t.1 bytes)
  pub end : t.1 ≡ s.1 + length text
  pub count : length lines ≡ n
  pub adds : added_all section lines s.0 ≡ Ok t.0

pub items_take : (section : Section) (n : ℕ) (bytes : List ℕ) (s t : Netlist × ℕ) → items_at section n bytes s ≡ Ok t → Section-read section bytes s t n
unfolding items_at item_at
items_take section zero bytes s t e =
    let is : s ≡ t = cc in
    subst (λ (x : Netlist × ℕ). Section-read section bytes s x 0) is
    (record { lines = []; text = []; spelled = refl; stands = record { is = refl }; end = omega arith; count = refl; adds = refl })
items_take section (suc n) bytes s t e =
    let a = bind_is (item_at section bytes s) (items_at section n bytes) t e in
    let b = bind_is (line_at (least section) (most section) bytes s.1) (λ x. placed s.1 x.1 (added section s.0 x.0)) a.0 a.1 in
    let line = line_is (least section) (most section) bytes s.1 b.0 b.1 in
    let put = put_is s.1 b.0.1 (added section s.0 b.0.0) a.0 b.2 in
    let front = line_takes (most section) bytes s.1 b.0 line.numbers in
    let rest = items_take section n bytes a.0 t a.2 in
    let next : drop b.0.1 bytes ≡ rest.text ++ drop t.1 bytes = ap (λ (k : ℕ). drop k bytes) put.1 ∙ rest.stands.is in
    record {
      lines = b.0.0 ∷ rest.lines;
      text = front.0 ++ rest.text;
      spelled = (front.0, rest.text, front.1, line.enough, line.few, rest.spelled, refl);
      stands = record { is = front.2.is ∙ ap (λ (l : List ℕ). front.0 ++ l) next ∙ sym (append_assoc front.0 rest.text (drop t.1 bytes)) };
      end = omega (arith, rest.end, front.3, put.1, length-append front.0 rest.text);
      count = omega (arith, rest.count);
      adds = ap (and_then (added_all section rest.lines)) put.0 ∙ rest.adds;
    }

pub added_first : (section : Section) (ns : List ℕ) (others : List (List ℕ)) (g h : Netlist) (r : Result Netlist BuildFault) → added section g ns ≡ r → and_then (added_all section others) r ≡ Ok h → (m : Netlist) × (added section g ns ≡ Ok m) × (added_all section others m ≡ Ok h)
added_first section ns others g h (Ok m) is e = (m, is, e)
added_first section ns others g h (Err f) is e = absurd cc

pub items_again : (section : Section) (lines : List (List ℕ)) (bytes : List ℕ) (at : ℕ) (text rest : List ℕ) (g h : Netlist) → SpellsLines (least section) (most section) text lines → Stands bytes at text rest → added_all section lines g ≡ Ok h
    → items_at section (length lines) bytes (g, at) ≡ Ok (h, at + length text)
unfolding items_at item_at
items_again section [] bytes at text rest g h spelled stands adds =
    let is : g ≡ h = cc in
    let end : at ≡ at + length text = omega (arith, ap length spelled) in
    ap₂ (λ (a : Netlist) (b : ℕ). Ok (a, b)) is end
items_again section (ns ∷ lines) bytes at text rest g h spelled stands adds =
    let t = spelled.0 in let u = spelled.1 in
    let here : Stands bytes at t (u ++ rest) = record { is = stands.is ∙ ap (λ (l : List ℕ). l ++ rest) spelled.6 ∙ append_assoc t u rest } in
    let numbers = line_again ns (most section) bytes at t (u ++ rest) spelled.4 spelled.2 here in
    let line = line_read (least section) (most section) bytes at (ns, at + length t) numbers spelled.3 in
    let m = added_first section ns lines g h (added section g ns) refl adds in
    let after : drop (at + length t) bytes ≡ u ++ rest = sym (drop-drop (length t) at bytes) ∙ ap (λ (l : List ℕ). drop (length t) l) here.is ∙ drop-append_seam t (u ++ rest) in
    let others = items_again section lines bytes (at + length t) u rest m.0 h spelled.5 (record { is = after }) m.2 in
    let end : at + length t + length u ≡ at + length text = omega (arith, ap length spelled.6, length-append t u) in
    rw (line, m.1, others) (ap (λ (k : ℕ). Ok (h, k)) end)
