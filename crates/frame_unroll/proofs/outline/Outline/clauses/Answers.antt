use Rattle.product_machine.proofs.Follow.{length_cells, arranged}
use Rattle.std.proofs.Common.{◌≡◌, ◌∙◌, ◌≤◌, ◌-◌, ◌++◌, ◌*◌, ℕ, ℤ, List, length, subst, sym, ap, ap₂, mul-le-mul_right, arith}
use Rattle.circ_model.specs.Meaning.{places_of}
use Rattle.product_machine.specs.declared.cell.Cell.{Cell}
use Rattle.product_machine.specs.Cells.{IsArranged, cells}
use Rattle.cnf_store.specs.Clauses.{Formula}
use Rattle.frame_unroll.specs.Frames.{literal_in, frames, class_clauses}
use Rattle.frame_unroll.specs.Unrolled.{Unrolling, plain_clauses}
use Rattle.std.specs.List.{All}
use Rattle.frame_unroll.proofs.Appending.{all_room}
use Rattle.frame_unroll.proofs.Questions.{AreWithin}
use Rattle.frame_unroll.proofs.outline.Outline.clauses.Goals as goal

pub add_frames-requires-clause-arranged : goal.add_frames-requires-clause-arranged
add_frames-requires-clause-arranged c = subst IsArranged (sym c.cells-table.ensures.cells) (arranged c.self.inside.product.now c.cells-table.ensures.pair)

pub add_frames-requires-clause-room : goal.add_frames-requires-clause-room
add_frames-requires-clause-room c =
    let n : length c.cells-table.result.now ≤ 2000001 = omega (arith, ap length c.cells-table.ensures.cells ∙ length_cells c.self.inside.product.now, c.len-n.ensures.places, c.len-n.ensures.few) in
    let h = all_room c.self.inside.count (length c.cells-table.result.now) c.self.invariant.few n in omega arith

pub add_frames-requires-clause-variables : goal.add_frames-requires-clause-variables
add_frames-requires-clause-variables c =
    let e : c.len-n.result ≡ length c.cells-table.result.now = c.len-n.ensures.places ∙ sym (ap length c.cells-table.ensures.cells ∙ length_cells c.self.inside.product.now) in
    let v : c.in_ok-cnf.cnf.vars ≡ c.self.inside.count * length c.cells-table.result.now = ap (λ (f : Formula). f.vars) c.in_ok-cnf.ensures.empty ∙ ap (λ (m : ℕ). c.self.inside.count * m) e in
    omega arith

pub returns-clause-clauses : goal.returns-clause-clauses
returns-clause-clauses c =
    let pair = c.self.inside.product.now in
    let count = c.self.inside.count in
    let reset = c.self.inside.reset in
    let first = c.in_ok-add_frames.ensures.ok
    ∙ ap₂ (λ (old : List (List ℤ)) (cs : List Cell). old ++ frames (literal_in (length cs)) reset cs count) (ap (λ (f : Formula). f.clauses) c.in_ok-cnf.ensures.empty) c.cells-table.ensures.cells
    ∙ ap (λ (m : ℕ). frames (literal_in m) reset (cells pair) count) (length_cells pair) in
    subst (λ (u : Unrolling). c.add_classes.new.cnf ≡ record { vars = u.frames * places_of u.pair; clauses = plain_clauses u }) c.self.view_is
    (ap₂ (λ (v : ℕ) (cs : List (List ℤ)). record { vars = v; clauses = cs })
    (c.add_classes.ensures.vars ∙ c.add_frames.ensures.vars ∙ ap (λ (f : Formula). f.vars) c.in_ok-cnf.ensures.empty ∙ ap (λ (m : ℕ). count * m) c.len-n.ensures.places)
    (c.in_ok-add_classes.ensures.ok ∙ ap₂ (λ (old : List (List ℤ)) (m : ℕ). old ++ class_clauses (literal_in m) (count - 1) c.as_slice.result.now) first c.len-n.ensures.places
    ∙ ap (λ (ps : List (ℕ × ℕ)). frames (literal_in (places_of pair)) reset (cells pair) count ++ class_clauses (literal_in (places_of pair)) (count - 1) ps) c.as_slice.ensures.value))

pub add_classes-requires-clause-literals : goal.add_classes-requires-clause-literals
add_classes-requires-clause-literals c =
    subst (All (AreWithin c.len-n.result)) (sym c.as_slice.ensures.value)
    (subst (λ (m : ℕ). All (AreWithin m) c.self.inside.pairs.items) (sym c.len-n.ensures.places) c.self.invariant.fine.needed)

pub add_classes-requires-clause-room : goal.add_classes-requires-clause-room
add_classes-requires-clause-room c =
    let less : (c.self.inside.count - 1) * c.len-n.result ≤ c.self.inside.count * c.len-n.result = mul-le-mul_right c.len-n.result (omega arith) in
    let room = all_room c.self.inside.count c.len-n.result c.self.invariant.few c.len-n.ensures.few in omega arith

pub add_classes-requires-clause-variables : goal.add_classes-requires-clause-variables
add_classes-requires-clause-variables c =
    let less : (c.self.inside.count - 1) * c.len-n.result ≤ c.self.inside.count * c.len-n.result = mul-le-mul_right c.len-n.result (omega arith) in
    let vars : c.add_frames.new.cnf.vars ≡ c.self.inside.count * c.len-n.result = c.add_frames.ensures.vars ∙ ap (λ (f : Formula). f.vars) c.in_ok-cnf.ensures.empty in
    omega arith
