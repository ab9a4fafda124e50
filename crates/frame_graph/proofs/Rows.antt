-- What the places of a row are, by what stands there.
use Rattle.std.proofs.Common.{◌≡◌, ◌≢◌, ◌∙◌, ◌<◌, ◌-◌, ◌&&◌, ℕ, zero, suc, Bool, false, List, length, ap, ap₂, refl, sym, subst, arith, zero-add}
use Rattle.std.specs.Prelude.{IsTrue}
use Rattle.product_machine.specs.declared.cell.Start.{Start}
use Rattle.circ_model.specs.Meaning.{IsSoundPair, Path, IsPath, bit, literal, literal_value, places_of, inputs_at, row_at, signed, value_in}
use Rattle.circ_model.proofs.Literals.{signed_literal, value_of_literal}
use Rattle.circ_model.proofs.Rows.{rows_of}
use Rattle.product_machine.specs.declared.cell.Cell.TheVariants.{Low, Held, Product}
use Rattle.product_machine.specs.Cells.{Fits, StartsAs}
use Rattle.product_machine.specs.Signals.{cell_at}
use Rattle.product_machine.proofs.Follow.{length_cells, path_follows}
use Rattle.circ_model.specs.Correspondence.{HoldsIn}
use Rattle.class_partition.specs.Classes.{Classes, least_of, needed, phase_of}
use Rattle.class_partition.proofs.Signs.{signed-same}
use Rattle.frame_graph.specs.Frames.{FrameOf, Stands}
use Rattle.frame_graph.specs.Leaves.{input_node, latch_node}
use Rattle.frame_graph.proofs.Positions.{IsLatchBit}

pub fits : (f : FrameOf) (literals : List ℕ) (path : Path) (v : ℕ → Bool) (p : ℕ) → Stands f literals path v → IsSoundPair f.leaves.pair → p < places_of f.leaves.pair → Fits f.from_reset (rows_of f.leaves.pair path) f.number p (cell_at f.leaves.pair p)
fits f literals path v p is sound lt =
    subst (λ (q : ℕ). Fits f.from_reset (rows_of f.leaves.pair path) f.number q (cell_at f.leaves.pair p)) (zero-add p)
    ((path_follows f.from_reset f.leaves.pair path (length path.inputs) sound is.is_path is.reset (omega arith)).fits f.number is.frame p (omega (arith, length_cells f.leaves.pair)))

-- the constant
pub low_value : (f : FrameOf) (literals : List ℕ) (path : Path) (v : ℕ → Bool) (p lit : ℕ) → IsSoundPair f.leaves.pair → p < places_of f.leaves.pair → Low ≡ cell_at f.leaves.pair p → lit ≡ literal 0 false → Stands f literals path v
    → literal_value v lit ≡ bit (row_at f.leaves.pair path f.number) p
low_value f literals path v p lit sound lt cell own is =
    ap (literal_value v) own ∙ signed_literal v 0 false ∙ is.low
    ∙ sym (subst (Fits f.from_reset (rows_of f.leaves.pair path) f.number p) (sym cell) (fits f literals path v p is sound lt))

-- a gate, by its operands
pub gate_value : (f : FrameOf) (literals : List ℕ) (path : Path) (v : ℕ → Bool) (p a b left right lit : ℕ) → IsSoundPair f.leaves.pair → p < places_of f.leaves.pair → cell_at f.leaves.pair p ≡ Product left right → Stands f literals path v
    → literal_value v lit ≡ (literal_value v a && literal_value v b) → literal_value v a ≡ value_in (row_at f.leaves.pair path f.number) left → literal_value v b ≡ value_in (row_at f.leaves.pair path f.number) right
    → literal_value v lit ≡ bit (row_at f.leaves.pair path f.number) p
gate_value f literals path v p a b left right lit sound lt cell is value at_left at_right =
    value ∙ ap₂ (λ (x y : Bool). x && y) at_left at_right
    ∙ sym (subst (Fits f.from_reset (rows_of f.leaves.pair path) f.number p) cell (fits f literals path v p is sound lt))

-- a latch of a later frame, by its next literal
next_fits : (r : Bool) (w : ℕ → ℕ → Bool) (t p next : ℕ) (start : Start) → t ≢ 0 → Fits r w t p (Held start next) → w t p ≡ literal_value (w (t - 1)) next
next_fits r w zero p next start ne is = absurd (ne refl)
next_fits r w (suc t) p next start ne is = let e : t ≡ suc t - 1 = omega arith in is ∙ ap (λ (s : ℕ). literal_value (w s) next) e

pub next_value : (f : FrameOf) (literals : List ℕ) (path : Path) (v : ℕ → Bool) (p next lit : ℕ) (start : Start) → IsSoundPair f.leaves.pair → p < places_of f.leaves.pair → cell_at f.leaves.pair p ≡ Held start next → f.number ≢ 0 → Stands f literals path v
    → literal_value v lit ≡ value_in (row_at f.leaves.pair path (f.number - 1)) next → literal_value v lit ≡ bit (row_at f.leaves.pair path f.number) p
next_value f literals path v p next lit start sound lt cell ne is value =
    value ∙ sym (next_fits f.from_reset (rows_of f.leaves.pair path) f.number p next start ne (subst (Fits f.from_reset (rows_of f.leaves.pair path) f.number p) cell (fits f literals path v p is sound lt)))

-- a latch of the first frame, by its leaf
pub leaf_value : (f : FrameOf) (literals : List ℕ) (path : Path) (v : ℕ → Bool) (p j lit : ℕ) → IsLatchBit f.leaves.pair p j → f.number ≡ 0 → Stands f literals path v → lit ≡ literal (latch_node f.leaves j) false
    → literal_value v lit ≡ bit (row_at f.leaves.pair path f.number) p
leaf_value f literals path v p j lit at first is own =
    let frame = is.frame in
    ap (literal_value v) own ∙ signed_literal v (latch_node f.leaves j) false ∙ is.reads.start j at.within
    ∙ sym (at.bits path is.is_path (omega arith)) ∙ ap (λ (t : ℕ). bit (row_at f.leaves.pair path t) p) (sym first)

-- or by its reset
starts : (r : Bool) (w : ℕ → ℕ → Bool) (t p next : ℕ) (start : Start) → t ≡ 0 → IsTrue r → Fits r w t p (Held start next) → StartsAs (w t) p start
starts r w zero p next start first so is = is so
starts r w (suc t) p next start first so is = absurd (omega arith)

pub reset_fits : (f : FrameOf) (literals : List ℕ) (path : Path) (v : ℕ → Bool) (p next : ℕ) (start : Start) → IsSoundPair f.leaves.pair → p < places_of f.leaves.pair → cell_at f.leaves.pair p ≡ Held start next → f.number ≡ 0 → IsTrue f.from_reset → Stands f literals path v
    → StartsAs (bit (row_at f.leaves.pair path f.number)) p start
reset_fits f literals path v p next start sound lt cell first so is =
    starts f.from_reset (rows_of f.leaves.pair path) f.number p next start first so (subst (Fits f.from_reset (rows_of f.leaves.pair path) f.number p) cell (fits f literals path v p is sound lt))

pub constant_value : (v : ℕ → Bool) (lit : ℕ) (sign b : Bool) → v 0 ≡ false → lit ≡ literal 0 sign → b ≡ signed sign false → literal_value v lit ≡ b
constant_value v lit sign b low own is = ap (literal_value v) own ∙ signed_literal v 0 sign ∙ ap (signed sign) low ∙ sym is

-- an input, by its leaf
pub input_value : (f : FrameOf) (literals : List ℕ) (path : Path) (v : ℕ → Bool) (p i lit : ℕ) → f.number < f.leaves.frames → i < length f.leaves.pair.left.inputs
    → ((path : Path) (t : ℕ) → IsPath f.leaves.pair path → t < length path.inputs → bit (row_at f.leaves.pair path t) p ≡ bit (inputs_at path t) i)
    → Stands f literals path v → lit ≡ literal (input_node f.leaves f.number i) false → literal_value v lit ≡ bit (row_at f.leaves.pair path f.number) p
input_value f literals path v p i lit frame within bits is own =
    ap (literal_value v) own ∙ signed_literal v (input_node f.leaves f.number i) false ∙ is.reads.inputs f.number i frame within ∙ sym (bits path f.number is.is_path is.frame)

-- a place has the value of its class's least place, at their relative phase, where the pair holds
pub class_value : (classes : Classes) (row : List Bool) (v : ℕ → Bool) (p least lit entry : ℕ) (sign : Bool) → HoldsIn row (needed classes p) → least ≡ least_of classes p
    → sign ≡ signed (phase_of classes least) (phase_of classes p) → literal_value v lit ≡ signed sign (literal_value v entry) → literal_value v entry ≡ bit row (least_of classes p) → literal_value v lit ≡ bit row p
class_value classes row v p least lit entry sign hold rep phase value at =
    let r : ℕ = least_of classes p in
    let s : Bool = signed (phase_of classes r) (phase_of classes p) in
    let equal : bit row r ≡ signed s (bit row p) = sym (value_of_literal row r false) ∙ hold ∙ value_of_literal row p s in
    value ∙ ap₂ signed (phase ∙ ap (λ (l : ℕ). signed (phase_of classes l) (phase_of classes p)) rep) (at ∙ equal) ∙ signed-same s (bit row p)
