use Rattle.std.proofs.Common.{◌≡◌, ◌∙◌, ◌<◌, ◌≤◌, ◌+◌, ℕ, ap, arith, subst, sym}
use Rattle.circ_model.specs.Meaning.{places_of}
use Rattle.class_partition.specs.Classes.{least_of}
use Rattle.frame_unroll.specs.Unrolled.{after_classes, from_reset}
use Rattle.cert_writer.specs.Writing.{Certified}
use Rattle.cert_writer.proofs.Adding.{SoFar, least_passed, member_added, all_added}
use Rattle.cert_writer.proofs.writing.push_members.Goals as goal
use Rattle.cert_writer.proofs.writing.push_members.Goals.{then-rep-place+in_ok-push_member, else-rep-place}

pub loop-place-preserved : goal.loop-place-preserved
loop-place-preserved c =
    let pair = c.args.frames.now.pair in
    let classes = c.args.frames.now.classes in
    let place : ℕ = c.loop-place.place in
    let test = c.loop-place-test.true in
    let lt : place < places_of pair = omega (arith, test, c.len-place-end.ensures.places ∙ ap (λ (s : Certified). places_of s.pair) c.frames.view_is) in
    let rep = c.rep.ensures ∙ ap (λ (s : Certified). least_of s.classes place) c.frames.view_is in
    elim c.if-rep-place.branch [
      | then-rep-place+in_ok-push_member w ↦
          let t = w.if-rep-place.true in
          let apart : least_of classes place ≡ place → ⊥ = λ e. omega (arith, t, rep, e) in
          record {
            text = subst (λ (v : _). SoFar pair c.args.frames.now.k classes (place + 1) c.args.text.now.items v.items) (sym w.text-is)
                (member_added pair c.args.frames.now.k classes place c.args.text.now.items c.loop-place.text.items w.push_member.new.text.items lt apart c.loop-place.invariant.text w.in_ok-push_member.ensures.added);
            last = subst (λ (v : _). v.last.frames ≡ after_classes pair c.args.frames.now.k classes) (sym w.work-is) (w.in_ok-push_member.ensures.last ∙ c.loop-place.invariant.last);
            first = subst (λ (v : _). v.first.frames ≡ from_reset pair 1) (sym w.work-is) (w.in_ok-push_member.ensures.first ∙ c.loop-place.invariant.first);
          }
      | else-rep-place w ↦
          let t = w.if-rep-place.false in
          let least : least_of classes place ≡ place = omega (arith, t, rep) in
          record {
            text = subst (λ (v : _). SoFar pair c.args.frames.now.k classes (place + 1) c.args.text.now.items v.items) (sym w.text-is)
                (least_passed pair c.args.frames.now.k classes place c.args.text.now.items c.loop-place.text.items lt least c.loop-place.invariant.text);
            last = subst (λ (v : _). v.last.frames ≡ after_classes pair c.args.frames.now.k classes) (sym w.work-is) c.loop-place.invariant.last;
            first = subst (λ (v : _). v.first.frames ≡ from_reset pair 1) (sym w.work-is) c.loop-place.invariant.first;
          }
    ]

pub returns : goal.returns
returns c =
    let pair = c.args.frames.now.pair in
    let test = c.loop-place-test.false in
    let le : places_of pair ≤ c.loop-place.place = omega (arith, test, c.len-place-end.ensures.places ∙ ap (λ (s : Certified). places_of s.pair) c.frames.view_is) in
    all_added pair c.args.frames.now.k c.args.frames.now.classes c.loop-place.place c.args.text.now.items c.loop-place.text.items c.extend_from_slice.new.self.items le c.loop-place.invariant.text c.in_ok-extend_from_slice.ensures.items
