use Rattle.std.proofs.Common.{◌∙◌, ◌++◌, ◌<◌, ℕ, List, slice_index, sym, ap, arith, append_assoc}
use Rattle.circ_model.specs.Meaning.{places_of}
use Rattle.class_text.specs.ClassLines.{member_text, members_text}
use Rattle.class_text.proofs.Linking.{one_member}
use Rattle.class_text.proofs.lines.push_members.Goals as goal

pub members-preserved : goal.members-preserved
members-preserved c =
    let pair = c.args.product.now in
    let classes = c.args.classes.now in
    let p = c.members.place in
    let next = slice_index c.args.next.now p in
    let test = c.members-test.true in
    let places = c.len-n.ensures.places in
    let lt : p < places_of pair = omega (arith, test, places) in
    let (text, within, member) = c.members.invariant in
    let least = member lt in
    let is = c.requires.nexts.nexts p lt in
    let one = one_member pair classes c.args.first p next lt least is in
    let here = member_text pair classes c.args.first p in
    let rest = members_text pair classes c.args.first next in
    let items = c.members.text.items in (
      ap (λ (xs : List ℕ). xs ++ rest) c.in_ok-push_member.ensures ∙ append_assoc items here rest ∙ ap (λ (xs : List ℕ). items ++ xs) (sym one) ∙ text,
      is.within,
      λ less. is.member less ∙ least,
    )
