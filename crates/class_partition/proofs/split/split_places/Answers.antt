use Rattle.std.proofs.Common.{◌≡◌, ◌∙◌, ◌+◌, ◌<◌, ℕ, Bool, length, slice_index, arith, sym, ap, subst}
use Rattle.class_partition.specs.Classes.{Classes, first_with}
use Rattle.class_partition.specs.Steps.{classes_of}
use Rattle.class_partition.proofs.Places.{IsSplitSoFar, After, one, step_is, restored_is, lists_are, count_is, added_below}
use Rattle.class_partition.proofs.split.split_places.Goals as goal
use Rattle.class_partition.proofs.split.split_places.Goals.{then-split_place, else-split_place}

pub loop-p-preserved : goal.loop-p-preserved
loop-p-preserved c =
    let n : ℕ = length c.args.least.now.items in
    let before : Classes = classes_of c.args.least.now.items c.args.phase.now in
    let i : ℕ = c.loop-p.p in
    let t = step_is n i before c.args.row.now c.loop-p.least.items c.loop-p.added c.requires.partition (omega (arith, c.loop-p-test.true, c.len-p-end.ensures)) c.loop-p.invariant in
    let u : After n i before c.args.row.now c.loop-p.added (c.split_place.new.least.items, c.split_place.result) = subst (After n i before c.args.row.now c.loop-p.added) (sym c.split_place.ensures) t in
    let e : c.loop-p.added + one c.split_place.result ≡ c.if-split_place.added =
    elim c.if-split_place.branch [ then-split_place w ↦ ap (λ (b : Bool). c.loop-p.added + one b) w.if-split_place.true ∙ sym w.added-is | else-split_place w ↦ ap (λ (b : Bool). c.loop-p.added + one b) w.if-split_place.false ∙ omega (arith, w.added-is) ] in
    subst (λ (a : ℕ). IsSplitSoFar n (i + 1) before c.args.row.now c.split_place.new.least.items a) e u

pub overflow_add-added : goal.overflow_add-added
overflow_add-added c = let h = added_below (length c.args.least.now.items) c.loop-p.p (classes_of c.args.least.now.items c.args.phase.now) c.args.row.now c.loop-p.least.items c.loop-p.added c.loop-p.invariant in omega arith

pub firsts : (c : goal.After-restore_first) (p : ℕ) → p < length c.args.least.now.items → slice_index c.restore_first.new.least.items p ≡ first_with (length c.args.least.now.items) (classes_of c.args.least.now.items c.args.phase.now) c.args.row.now p
firsts c =
    let so = c.loop-p.invariant in
    let len = so.least_len in
    restored_is (length c.args.least.now.items) c.loop-p.p (classes_of c.args.least.now.items c.args.phase.now) c.args.row.now c.loop-p.least.items c.restore_first.new.least.items c.loop-p.added c.requires.partition (omega (arith, c.loop-p-test.false, c.loop-p.auto)) so (λ q lt. c.restore_first.ensures.least q (omega arith))

pub returns-clause-split : goal.returns-clause-split
returns-clause-split c = lists_are (length c.args.least.now.items) (classes_of c.args.least.now.items c.args.phase.now) c.args.row.now c.restore_first.new.least.items (c.restore_first.ensures.size ∙ c.loop-p.invariant.least_len) (firsts c)

pub returns-clause-count : goal.returns-clause-count
returns-clause-count c =
    count_is (length c.args.least.now.items) c.loop-p.p (classes_of c.args.least.now.items c.args.phase.now) c.args.row.now c.loop-p.least.items c.restore_first.new.least.items c.loop-p.added c.requires.partition (omega (arith, c.loop-p-test.false, c.loop-p.auto)) c.loop-p.invariant (firsts c)
