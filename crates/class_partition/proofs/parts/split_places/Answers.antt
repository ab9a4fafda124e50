use Rattle.std.proofs.Common.{◌≡◌, ◌∙◌, ◌+◌, ℕ, Bool, length, arith, sym, ap}
use Rattle.indexmap.specs.IndexMap.{get}
use Rattle.class_partition.specs.Classes.{Classes}
use Rattle.class_partition.specs.Steps.{classes_of}
use Rattle.class_partition.specs.WordSteps.{same_part}
use Rattle.class_partition.proofs.Counting.{one}
use Rattle.class_partition.proofs.WordPlaces.{more_split, all_split, count_is, added_below}
use Rattle.class_partition.proofs.parts.split_places.Goals as goal
use Rattle.class_partition.proofs.parts.split_places.Goals.{then-begins_class, else-begins_class}

pub overflow_add-added : goal.overflow_add-added
overflow_add-added c =
    let h = added_below (length c.args.least.now) c.loop-p.p (classes_of c.args.least.now c.args.phase.now) c.args.words.now (get same_part c.loop-p.parts) c.loop-p.after c.loop-p.added c.loop-p.invariant in
    omega arith

pub loop-p-preserved : goal.loop-p-preserved
loop-p-preserved c =
    let n : ℕ = length c.args.least.now in
    let before : Classes = classes_of c.args.least.now c.args.phase.now in
    let e : c.if-begins_class.added ≡ c.loop-p.added + one c.begins_class.result =
    elim c.if-begins_class.branch [ then-begins_class w ↦ w.added-is ∙ ap (λ (b : Bool). c.loop-p.added + one b) (sym w.if-begins_class.true) | else-begins_class w ↦ omega (arith, w.added-is) ∙ ap (λ (b : Bool). c.loop-p.added + one b) (sym w.if-begins_class.false) ] in
    more_split n c.loop-p.p before c.args.words.now (get same_part c.loop-p.parts) (get same_part c.split_place.new.parts) c.loop-p.after c.loop-p.added c.in_ok-at.at c.if-begins_class.added c.requires.partition (omega (arith, c.loop-p-test.true)) c.loop-p.invariant
    c.in_ok-at.ensures.place c.in_ok-at.ensures.parts (e ∙ ap (λ (b : Bool). c.loop-p.added + one b) c.begins_class.ensures)

pub returns-clause-split : goal.returns-clause-split
returns-clause-split c = all_split (length c.args.least.now) c.loop-p.p (classes_of c.args.least.now c.args.phase.now) c.args.words.now (get same_part c.loop-p.parts) c.loop-p.after c.loop-p.added (omega (arith, c.loop-p-test.false)) c.loop-p.invariant

pub returns-clause-count : goal.returns-clause-count
returns-clause-count c = count_is (length c.args.least.now) c.loop-p.p (classes_of c.args.least.now c.args.phase.now) c.args.words.now (get same_part c.loop-p.parts) c.loop-p.after c.loop-p.added c.requires.partition (omega (arith, c.loop-p-test.false, c.loop-p.auto)) c.loop-p.invariant
