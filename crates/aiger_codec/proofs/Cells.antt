-- What the items keep: each state of the reader is one that a builder holds, so the whole may be given.
use Rattle.std.proofs.Common.{◌≡◌, ◌∙◌, ℕ, zero, suc, ◌+◌, ◌/◌, ◌≤◌, inl, inr, Bool, true, false, eqb, not, List, [], ◌∷◌, length, get_or, set, cond, refl, sym, subst, arith, length-append}
use Rattle.std.specs.List.{sum_by}
use Rattle.std.proofs.lemmas.Bool.{cases_eq, ne_eqb}
use Rattle.std.proofs.lemmas.List.{get_or_default}
use Rattle.std.proofs.lemmas.List.Elements.{All-contains_itself}
use Rattle.std.proofs.lemmas.List.Sums.{sum_by-cons}
use Rattle.circ_model.specs.declared.netlist.Gate.{Gate}
use Rattle.circ_model.specs.Netlist.{Netlist, variables, no_gate}
use Rattle.aig_graph.specs.Kept.{is_set, IsKept}
use Rattle.aig_graph.proofs.Keeping.{kept_input, kept_latch, kept_output, kept_gate}
use Rattle.aig_graph.proofs.Definitions.{within, variable_once, distinct}
use Rattle.aiger_codec.specs.declared.section.Section.{Section}
use Rattle.aiger_codec.specs.declared.section.Section.TheVariants.{Inputs, Latches, Outputs, Gates}
use Rattle.aiger_codec.specs.Sections.{nothing_given}
use Rattle.aiger_codec.specs.Room.{HasRoom}
use Rattle.aiger_codec.specs.SectionGrammar.{Item, MayBeGiven}
use Rattle.aiger_codec.proofs.Items.{with_item, with_items, IsFree, MayAdd, MayAll}

-- some array keeps what a builder keeps of these items
pub record HasCells (g : Netlist) : Type 0 where
  pub cells : List ℕ
  pub kept : IsKept cells g

set_false : (n : ℕ) → is_set n ≡ false → n ≡ 0
set_false n e = elim (cases_eq n 0) [ inl z ↦ z | inr ne ↦ let h = ne_eqb n 0 ne in absurd (bad (eqb n 0) h e) ]
  where
    bad : (b : Bool) → b ≡ false → not b ≡ false → ⊥
    bad true x y = absurd cc
    bad false x y = absurd cc

free_cell : (defs : List ℕ) (g : Netlist) (v : ℕ) → IsKept defs g → IsFree g v → get_or defs v 0 ≡ 0
free_cell defs g v kept free = set_false _ (sym (kept.mark v) ∙ free.fresh)

cells_item : (s : Section) (g : Netlist) (x : Item s) → MayAdd s g x → HasRoom s 1 g → HasCells g → HasCells (with_item s g x)
cells_item Inputs g x may room h = record { cells = set h.cells x 1; kept = kept_input h.cells g x h.kept may.some may.within (free_cell h.cells g x h.kept may) }
cells_item Latches g x may room h = record { cells = set h.cells x.var 1; kept = kept_latch h.cells g x h.kept may.0.some may.0.within may.1 (free_cell h.cells g x.var h.kept may.0) }
cells_item Outputs g x may room h = record { cells = h.cells; kept = kept_output h.cells g x h.kept (omega (arith, room)) may }
cells_item Gates g x may room h =
    record { cells = set h.cells x.var (length g.gates + 2); kept = kept_gate h.cells g x (length g.gates + 2) refl h.kept may.0.some may.0.within may.1 may.2 (free_cell h.cells g x.var h.kept may.0) }

room_one : (s : Section) (n : ℕ) (g : Netlist) → HasRoom s (suc n) g → HasRoom s 1 g
room_one Inputs n g room = tt
room_one Latches n g room = tt
room_one Outputs n g room = omega arith
room_one Gates n g room = tt

room_rest : (s : Section) (n : ℕ) (g : Netlist) (x : Item s) → HasRoom s (suc n) g → HasRoom s n (with_item s g x)
room_rest Inputs n g x room = tt
room_rest Latches n g x room = tt
room_rest Outputs n g x room = omega (arith, length-append g.outputs (x ∷ []))
room_rest Gates n g x room = tt

pub cells_items : (s : Section) (xs : List (Item s)) (g : Netlist) → MayAll s g xs → HasRoom s (length xs) g → HasCells g → HasCells (with_items s g xs)
cells_items s [] g may room h = h
cells_items s (x ∷ xs) g may room h =
    cells_items s xs (with_item s g x) may.1 (room_rest s (length xs) g x room) (cells_item s g x may.0 (room_one s (length xs) g room) h)

-- ---- nothing given

zeros : ℕ → List ℕ
zeros zero = []
zeros (suc n) = 0 ∷ zeros n

zero_cell : (n v : ℕ) → get_or (zeros n) v 0 ≡ 0
unfolding zeros
zero_cell zero v = refl
zero_cell (suc n) zero = refl
zero_cell (suc n) (suc v) = zero_cell n v

none_set : (n : ℕ) → sum_by (λ y. cond (is_set y) 1 0) (zeros n) ≡ 0
unfolding zeros
none_set zero = refl
none_set (suc n) = let c = sum_by-cons (λ y. cond (is_set y) 1 0) 0 (zeros n) in let h = none_set n in omega arith

long : (n : ℕ) → length (zeros n) ≡ n
unfolding zeros
long zero = refl
long (suc n) = let h = long n in omega arith

pub no_cells : (m : ℕ) → m ≤ 1000000 → HasCells (nothing_given m)
no_cells m small = record {
  cells = zeros (m + 1);
  kept = record {
    size = small;
    len = long (m + 1);
    mark = λ v. let z = zero_cell (m + 1) v in rw z refl;
    zero = zero_cell (m + 1) 0;
    leaf = λ v e. absurd cc;
    gate = λ v k e. let z = zero_cell (m + 1) v in absurd (omega arith);
    own = λ k lt. absurd (omega arith);
    within = λ k lt. absurd (omega arith);
    nexts = λ k d lt. absurd (omega arith);
    few = omega arith;
    outs = λ k d lt. absurd (omega arith);
    once = λ v. omega arith;
    count = sym (none_set (m + 1));
  };
}

-- ---- what is held may be given

pub may_be_given : (g : Netlist) → HasCells g → MayBeGiven g
may_be_given g h = record {
  once = distinct (variables g) (λ v. variable_once h.cells g v h.kept);
  in_range = λ k d lt. within h.cells g (get_or (variables g) k d) h.kept (All-contains_itself (variables g) k d lt);
  next_literals = λ k d lt. let n = h.kept.nexts k d lt in omega arith;
  output_literals = λ k d lt. let n = h.kept.outs k d lt in omega arith;
  right_literals = λ k d lt. subst (λ (q : Gate). (q.left / 2 ≤ g.max_var) × (q.right / 2 ≤ g.max_var)) (get_or_default g.gates k no_gate d lt) (let w = h.kept.within k lt in (omega (arith, w.1), omega (arith, w.2)));
}
