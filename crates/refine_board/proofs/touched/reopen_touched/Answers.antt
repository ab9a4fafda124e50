use Rattle.std.proofs.Common.{◌≡◌, ◌∙◌, ◌+◌, ◌-◌, ◌<◌, ℕ, List, length, slice_index_or, vec_len, rules, sym, subst, ap, arith}
use Rattle.std.proofs.lemmas.List.{get_or_default}
use Rattle.class_partition.specs.Classes.{Classes}
use Rattle.refine_board.specs.declared.marks.Mark.{Mark}
use Rattle.refine_board.specs.declared.marks.Mark.TheVariants.{Open}
use Rattle.refine_board.specs.States.{lasting}
use Rattle.refine_board.proofs.Reopening.{IsHalfway, IsWithout, halfway_ends, halfway_opens}
use Rattle.refine_board.proofs.touched.reopen_touched.Goals as goal

pub returns-clause-marks : goal.returns-clause-marks
returns-clause-marks c = halfway_ends c.args.classes.now c.args.marks.now.items c.loop-i.marks.items c.loop-i.touched.items (subst (λ (n : ℕ). IsHalfway c.args.classes.now n c.args.marks.now.items c.loop-i.marks.items c.loop-i.touched.items) (omega (arith, c.loop-i-test.false)) c.loop-i.invariant.0)

pub loop-i-preserved-then-not-lasts : goal.loop-i-preserved-then-not-lasts
loop-i-preserved-then-not-lasts c =
    let classes : Classes = c.args.classes.now in
    let before : List Mark = c.args.marks.now.items in
    let marks : List Mark = c.loop-i.marks.items in
    let touched : List ℕ = c.loop-i.touched.items in
    let i : ℕ = c.loop-i.i - 1 in
    let is : IsHalfway classes (i + 1) before marks touched = subst (λ (n : ℕ). IsHalfway classes n before marks touched) (omega (arith, c.loop-i-test.true)) c.loop-i.invariant.0 in
    let p : ℕ = c.index-place.result.now in
    let named : p ≡ slice_index_or touched i p = c.index-place.ensures in
    let place : p < length marks = omega (arith, is.many, subst (λ (n : ℕ). n < length before) (sym named) (is.within i p (omega (arith, is.inside)))) in
    let mark : c.index.result.now ≡ slice_index_or marks p Open = c.index.ensures ∙ get_or_default marks p c.index.result.now Open place in
    let opens : lasting classes p (slice_index_or marks p Open) ≡ Open = ap (lasting classes p) (sym mark) ∙ c.lasts.ensures.goes c.if-not-lasts.true in
    let out = c.swap_remove.ensures in
    let many : vec_len c.loop-i.touched ≡ length touched = search rules in
    let fewer : vec_len c.swap_remove.new.self ≡ length c.swap_remove.new.self.items = search rules in
    let without : IsWithout touched i c.swap_remove.new.self.items = record { long = omega (arith, out.len, many, fewer); last = λ d lt. out.by_index.0 d (omega (arith, lt, many)) ∙ ap (λ (n : ℕ). slice_index_or touched (n - 1) d) many; others = λ k d ne lt. out.by_index.1 k d ne (omega (arith, lt, many)) } in
    (subst (λ (l : List Mark). IsHalfway classes i before l c.swap_remove.new.self.items) (sym c.write.ensures) (halfway_opens classes i before marks touched c.swap_remove.new.self.items p p is named place opens without), out.capacity ∙ c.loop-i.invariant.1)
