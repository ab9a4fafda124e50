use Rattle.std.proofs.Common.{◌≡◌, ◌∙◌, ◌<◌, ℕ, false, List, Vec, Global, vec_capacity, length, refl, sym, subst, ap, arith}
use Rattle.std.specs.List.{All, range_with_len}
use Rattle.class_partition.specs.Classes.{Classes}
use Rattle.refine_board.specs.declared.marks.Mark.{Mark}
use Rattle.refine_board.specs.Touched.{AreNoted, AreTouched}
use Rattle.refine_board.proofs.Lasting.{length_lasting}
use Rattle.refine_board.proofs.Reopening.{touched_all, within_all}
use Rattle.refine_board.proofs.touched.Marks.split.Goals as goal
use Rattle.refine_board.proofs.touched.Marks.split.Goals.{then-is_over, else-is_over}

-- a list that has too many places is made that of all
ready : (c : goal.Joined-is_over) → AreNoted c.self.inside.by_place.items c.if-is_over.touched.items false (vec_capacity c.if-is_over.touched)
ready c =
    let marks : List Mark = c.self.inside.by_place.items in
    let places : length marks ≡ length c.classes-classes.result.now.least = ap length c.self.view_is ∙ c.requires ∙ sym (ap (λ (x : Classes). length x.least) c.classes-classes.ensures.classes) in
    elim c.if-is_over.branch [
      | then-is_over w ↦
          let all : w.touch_all.new.touched.items ≡ range_with_len 0 (length marks) = w.touch_all.ensures.all ∙ ap (range_with_len 0) (w.len.ensures.places ∙ sym places) in
          subst (λ (v : Vec ℕ Global). AreNoted marks v.items false (vec_capacity v)) (sym w.touched-is) (record {
            within = subst (All (λ (p : ℕ). p < length marks)) (sym all) (within_all (length marks));
            room = omega (arith, c.self.invariant.room, w.touch_all.ensures.capacity);
            all = λ e. subst (AreTouched marks) (sym all) (touched_all marks);
          })
      | else-is_over w ↦ subst (λ (v : Vec ℕ Global). AreNoted marks v.items false (vec_capacity v)) (sym w.touched-is) (record {
        within = c.self.invariant.within;
        room = c.self.invariant.room;
        all = λ e. c.self.invariant.all w.if-is_over.false;
      })
    ]

pub reopen_touched-requires-clause-within : goal.reopen_touched-requires-clause-within
reopen_touched-requires-clause-within c = (ready c).within

pub reopen_touched-requires-clause-touched : goal.reopen_touched-requires-clause-touched
reopen_touched-requires-clause-touched c = (ready c).all refl

pub invariant_of-self : goal.invariant_of-self
invariant_of-self c = record {
  within = c.reopen_touched.ensures.within;
  room = omega (arith, ap length c.reopen_touched.ensures.marks, length_lasting c.classes-classes.result.now c.self.inside.by_place.items, c.reopen_touched.ensures.capacity, (ready c.before).room);
  all = λ e. c.reopen_touched.ensures.touched;
}
