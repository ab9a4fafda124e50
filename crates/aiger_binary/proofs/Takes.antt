-- Items one after another, both ways.
use Rattle.std.proofs.Common.{◌≡◌, ◌∙◌, ℕ, zero, suc, ◌+◌, ◌≤◌, List, [], ◌∷◌, ◌++◌, length, drop, Result, Ok, refl, sym, ap, subst, arith, append_assoc, length-append}
use Rattle.circ_model.specs.Netlist.{Netlist}
use Rattle.aiger_codec.specs.declared.fault.NetFault.{NetFault}
use Rattle.aiger_codec.specs.declared.section.Section.{Section}
use Rattle.aiger_codec.specs.SectionGrammar.{Item}
use Rattle.aiger_codec.proofs.Room.{bind_is}
use Rattle.aiger_codec.proofs.Items.{with_item, with_items, MayAdd, MayAll}
use Rattle.aiger_binary.specs.Binary.{each_from}
use Rattle.aiger_binary.specs.Grammar.{SpellsEach}
use Rattle.aiger_binary.proofs.Items.{One, after}

-- what was read of a section
pub record Taken (s : Section) (bytes : List ℕ) (P : List ℕ → List (Item s) → Type 0) (g : Netlist) (at n : ℕ) (t : Netlist × ℕ) : Type 0 where
  pub items : List (Item s)
  pub text : List ℕ
  pub spelled : P text items
  pub stands : drop at bytes ≡ text ++ drop t.1 bytes
  pub end : t.1 ≡ at + length text
  pub count : length items ≡ n
  pub may : MayAll s g items
  pub is : with_items s g items ≡ t.0

pub each_take : (s : Section) (bytes : List ℕ) (item : ℕ → Netlist × ℕ → Result (Netlist × ℕ) NetFault) (P : ℕ → List ℕ → Item s → Type 0) → ((v : ℕ) (u t : Netlist × ℕ) → item v u ≡ Ok t → One s bytes (P v) u.0 u.1 t)
    → (n v : ℕ) (u t : Netlist × ℕ) → each_from item n v u ≡ Ok t → Taken s bytes (SpellsEach P v) u.0 u.1 n t
unfolding each_from
each_take s bytes item P one zero v u t e =
    let is : u ≡ t = cc in
    record { items = []; text = []; spelled = refl; stands = ap (λ (x : Netlist × ℕ). drop x.1 bytes) is; end = let k = ap (λ (x : Netlist × ℕ). x.1) is in omega arith; count = refl; may = tt; is = ap (λ (x : Netlist × ℕ). x.0) is }
each_take s bytes item P one (suc n) v u t e =
    let a = bind_is (item v u) (each_from item n (v + 1)) t e in
    let x = one v u a.0 a.1 in
    let others = each_take s bytes item P one n (v + 1) a.0 t a.2 in
    record {
      items = x.item ∷ others.items;
      text = x.text ++ others.text;
      spelled = (x.text, others.text, x.spelled, others.spelled, refl);
      stands = x.stands ∙ ap (λ (l : List ℕ). x.text ++ l) others.stands ∙ sym (append_assoc x.text others.text (drop t.1 bytes));
      end = omega (arith, x.end, others.end, length-append x.text others.text);
      count = omega (arith, others.count);
      may = (x.may, subst (λ (g : Netlist). MayAll s g others.items) (sym x.is) others.may);
      is = ap (λ (g : Netlist). with_items s g others.items) x.is ∙ others.is;
    }

-- the same, of what was given alone
pub each_adds : (s : Section) (item : ℕ → Netlist × ℕ → Result (Netlist × ℕ) NetFault) → ((v : ℕ) (u t : Netlist × ℕ) → item v u ≡ Ok t → (x : Item s) × MayAdd s u.0 x × (with_item s u.0 x ≡ t.0))
    → (n v : ℕ) (u t : Netlist × ℕ) → each_from item n v u ≡ Ok t → (xs : List (Item s)) × MayAll s u.0 xs × (with_items s u.0 xs ≡ t.0)
unfolding each_from
each_adds s item one zero v u t e = let is : u ≡ t = cc in ([], tt, ap (λ (x : Netlist × ℕ). x.0) is)
each_adds s item one (suc n) v u t e =
    let a = bind_is (item v u) (each_from item n (v + 1)) t e in
    let x = one v u a.0 a.1 in
    let others = each_adds s item one n (v + 1) a.0 t a.2 in
    (x.0 ∷ others.0, (x.1, subst (λ (g : Netlist). MayAll s g others.0) (sym x.2) others.1), ap (λ (g : Netlist). with_items s g others.0) x.2 ∙ others.2)

pub each_again : (s : Section) (bytes : List ℕ) (item : ℕ → Netlist × ℕ → Result (Netlist × ℕ) NetFault) (P : ℕ → List ℕ → Item s → Type 0) (top : ℕ)
    → ((v : ℕ) (g : Netlist) (at : ℕ) (x : Item s) (text rest : List ℕ) → v ≤ top → P v text x → drop at bytes ≡ text ++ rest → MayAdd s g x → item v (g, at) ≡ Ok (with_item s g x, at + length text))
    → (xs : List (Item s)) (v : ℕ) (g : Netlist) (at : ℕ) (text rest : List ℕ) → v + length xs ≤ top + 1 → SpellsEach P v text xs → drop at bytes ≡ text ++ rest → MayAll s g xs → each_from item (length xs) v (g, at) ≡ Ok (with_items s g xs, at + length text)
unfolding each_from
each_again s bytes item P top one [] v g at text rest le spelled stands may = let end : at ≡ at + length text = omega (arith, ap length spelled) in ap (λ (k : ℕ). Ok (g, k)) end
each_again s bytes item P top one (x ∷ xs) v g at text rest le spelled stands may =
    let t : List ℕ = spelled.0 in
    let u : List ℕ = spelled.1 in
    let here : drop at bytes ≡ t ++ (u ++ rest) = stands ∙ ap (λ (l : List ℕ). l ++ rest) spelled.4 ∙ append_assoc t u rest in
    let first = one v g at x t (u ++ rest) (omega arith) spelled.2 here may.0 in
    let others = each_again s bytes item P top one xs (v + 1) (with_item s g x) (at + length t) u rest (omega arith) spelled.3 (after bytes at t (u ++ rest) here) may.1 in
    let end : at + length t + length u ≡ at + length text = omega (arith, ap length spelled.4, length-append t u) in
    rw (first, others) (ap (λ (k : ℕ). Ok (with_items s (with_item s g x) xs, k)) end)
