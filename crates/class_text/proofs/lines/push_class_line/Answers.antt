use Rattle.std.proofs.Common.{◌≡◌, ◌≢◌, ◌∙◌, ◌++◌, ◌+◌, ◌∷◌, [], ℕ, List, codes, slice_index, sym, ap, subst, arith, append_assoc, append-nil}
use Rattle.circ_model.specs.Meaning.{places_of}
use Rattle.class_partition.specs.Classes.{least_of}
use Rattle.class_text.specs.ClassLines.{members_text}
use Rattle.class_text.specs.Links.{IsNext}
use Rattle.class_text.proofs.Linking.{line_of_none, line_of_one, line_of_more}
use Rattle.class_text.proofs.lines.push_class_line.Goals as goal
use Rattle.class_text.proofs.lines.push_class_line.Goals.{then-rep-first-via-then-rep-first, then-rep-first-via-else-rep-first+then-next-first}

pub returns-then-rep-first : goal.returns-then-rep-first
returns-then-rep-first c =
    let pair = c.args.product.now in
    let classes = c.args.classes.now in
    let first = c.args.first in
    let items = c.args.text.now.items in
    let rep = c.rep.ensures in
    elim c.then-rep-first.branch [
      | then-rep-first-via-then-rep-first w ↦
          let test = w.if-rep-first.true in
          let apart : least_of classes first ≢ first = λ e. omega (arith, test, e, rep) in
          sym (ap (λ (l : List ℕ). items ++ l) (line_of_none pair classes first c.requires.partition c.requires.first apart) ∙ append-nil items)
      | then-rep-first-via-else-rep-first+then-next-first w ↦
          let test = w.if-rep-first.false in
          let least : least_of classes first ≡ first = omega (arith, test, rep) in
          let end = w.if-next-first.true in
          let places = w.len.ensures.places in
          let last : slice_index c.args.next.now first ≡ places_of pair = omega (arith, end, places) in
          let is = subst (IsNext (places_of pair) classes (least_of classes first) (first + 1)) last (c.requires.nexts.nexts first c.requires.first) in
          sym (ap (λ (l : List ℕ). items ++ l) (line_of_one pair classes first c.requires.partition c.requires.first least is) ∙ append-nil items)
    ]

pub returns : goal.returns
returns c =
    let pair = c.args.product.now in
    let classes = c.args.classes.now in
    let first = c.args.first in
    let items = c.args.text.now.items in
    let rep = c.rep.ensures in
    let test = c.if-rep-first.false in
    let least : least_of classes first ≡ first = omega (arith, test, rep) in
    let more = c.if-next-first.false in
    let places = c.len.ensures.places in
    let next = slice_index c.args.next.now first in
    let on : next ≢ places_of pair = λ e. omega (arith, more, places, e) in
    let line = line_of_more pair classes first next c.requires.partition c.requires.first least (c.requires.nexts.nexts first c.requires.first) on in
    let members = members_text pair classes first first in
    let word : List ℕ = codes "class" in
    c.in_ok-push.ensures.items
    ∙ ap (λ (xs : List ℕ). xs ++ 10 ∷ []) (c.in_ok-push_members.ensures ∙ ap (λ (xs : List ℕ). xs ++ members) c.in_ok-extend_from_slice.ensures.items)
    ∙ append_assoc (items ++ word) members (10 ∷ []) ∙ append_assoc items word (members ++ 10 ∷ [])
    ∙ ap (λ (l : List ℕ). items ++ l) (sym line)
