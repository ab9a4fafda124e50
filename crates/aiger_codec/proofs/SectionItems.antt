-- What was read of a section, as items, and a netlist from its sections.
use Rattle.std.proofs.Common.{◌≡◌, ◌∙◌, ℕ, ◌+◌, List, [], ◌∷◌, ◌++◌, length, drop, Ok, refl, sym, ap, arith}
use Rattle.std.specs.List.{AllZip}
use Rattle.circ_model.specs.declared.netlist.Latch.{Latch}
use Rattle.circ_model.specs.declared.netlist.Gate.{Gate}
use Rattle.circ_model.specs.Netlist.{Netlist}
use Rattle.aiger_codec.specs.declared.section.Section.{Section}
use Rattle.aiger_codec.specs.Sections.{items_at}
use Rattle.aiger_codec.specs.SectionGrammar.{Item, IsLine, SpellsSection}
use Rattle.aiger_codec.proofs.Lines.{items_again, items_take}
use Rattle.aiger_codec.proofs.Items.{with_items, MayAll, all_add, all_added}

pub record Taken (s : Section) (bytes : List ℕ) (g : Netlist) (at n : ℕ) (t : Netlist × ℕ) : Type 0 where
  pub items : List (Item s)
  pub text : List ℕ
  pub spelled : SpellsSection s text items
  pub stands : drop at bytes ≡ text ++ drop t.1 bytes
  pub end : t.1 ≡ at + length text
  pub count : length items ≡ n
  pub may : MayAll s g items
  pub is : with_items s g items ≡ t.0

pub same_length : {X : Type 0} (P : List ℕ → X → Type 0) (lines : List (List ℕ)) (xs : List X) → AllZip P lines xs → length xs ≡ length lines
same_length P [] [] z = refl
same_length P [] (x ∷ xs) z = absurd z
same_length P (l ∷ lines) [] z = absurd z
same_length P (l ∷ lines) (x ∷ xs) z = let h = same_length P lines xs z.1 in omega arith

pub taken : (s : Section) (bytes : List ℕ) (g : Netlist) (at n : ℕ) (t : Netlist × ℕ) → items_at s n bytes (g, at) ≡ Ok t → Taken s bytes g at n t
taken s bytes g at n t e =
    let r = items_take s n bytes (g, at) t e in
    let a = all_add s r.lines g t.0 r.adds in
    record {
      items = a.0;
      text = r.text;
      spelled = record { lines = r.lines; spelled = r.spelled; each = a.1 };
      stands = r.stands.is;
      end = r.end;
      count = same_length (IsLine s) r.lines a.0 a.1 ∙ r.count;
      may = a.2;
      is = a.3;
    }

-- and what is spelled so is read
pub section_again : (s : Section) (bytes : List ℕ) (at n : ℕ) (text rest : List ℕ) (g h : Netlist) (xs : List (Item s)) → SpellsSection s text xs → MayAll s g xs → with_items s g xs ≡ h → length xs ≡ n → drop at bytes ≡ text ++ rest
    → items_at s n bytes (g, at) ≡ Ok (h, at + length text)
section_again s bytes at n text rest g h xs spelled may is count stands =
    let adds = all_added s spelled.lines xs g spelled.each may ∙ ap (λ (x : Netlist). Ok x) is in
    let r = items_again s spelled.lines bytes at text rest g h spelled.spelled (record { is = stands }) adds in
    let k : length spelled.lines ≡ n = sym (same_length (IsLine s) spelled.lines xs spelled.each) ∙ count in
    ap (λ (j : ℕ). items_at s j bytes (g, at)) (sym k) ∙ r

abbrev pub whole : ℕ → List ℕ → List Latch → List ℕ → List Gate → Netlist
whole m is ls os qs = record { max_var = m; inputs = is; latches = ls; outputs = os; gates = qs }
