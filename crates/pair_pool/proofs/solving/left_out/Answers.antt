use Rattle.std.proofs.Common.{◌<◌, ◌/◌, ◌+◌, ◌∙◌, ℕ, length, slice_index, ap, sym, subst, arith}
use Rattle.class_partition.specs.Classes.{Classes, Pairs}
use Rattle.class_partition.specs.Laws.{PairOutput}
use Rattle.pair_pool.specs.Unpaired.{AreLeftOut}
use Rattle.pair_pool.proofs.LeftOut.{one_left_out, none_more}
use Rattle.pair_pool.proofs.solving.left_out.Goals.{then-not-paired+in_ok-push, else-not-paired}
use Rattle.circ_model.specs.Meaning.{Pair, IsSoundPair, outputs_of, places_of, left_literal, right_literal}
use Rattle.circ_model.proofs.Rows.{left_literal_is, right_literal_is}
use Rattle.pair_pool.proofs.solving.left_out.Goals as goal

-- both literals of an output are literals of the pair
left_is : (pair : Pair) (j : ℕ) → IsSoundPair pair → j < outputs_of pair → left_literal pair (slice_index pair.left.outputs j) / 2 < places_of pair
left_is pair j is lt = left_literal_is pair (slice_index pair.left.outputs j) is (is.left.all_defined.outputs j 0 lt)

right_is : (pair : Pair) (j : ℕ) → IsSoundPair pair → j < outputs_of pair → right_literal pair (slice_index pair.right.outputs j) / 2 < places_of pair
right_is pair j is lt = let same = is.outputs in right_literal_is pair (slice_index pair.right.outputs j) is (is.right.all_defined.outputs j 0 (omega arith))

pub paired-requires-clause-a : goal.paired-requires-clause-a
paired-requires-clause-a c =
    let lt : c.loop-j.j < outputs_of c.args.product.now = omega (arith, c.loop-j-test.true, c.outputs-j-end.ensures) in
    subst (λ (p : ℕ × ℕ). p.0 / 2 < length c.args.classes.now.least) (sym c.output-left.ensures) (omega (arith, c.requires.places, left_is c.args.product.now c.loop-j.j c.requires.sound lt))

pub paired-requires-clause-b : goal.paired-requires-clause-b
paired-requires-clause-b c =
    let lt : c.loop-j.j < outputs_of c.args.product.now = omega (arith, c.loop-j-test.true, c.outputs-j-end.ensures) in
    subst (λ (p : ℕ × ℕ). p.1 / 2 < length c.args.classes.now.least) (sym c.output-left.ensures) (omega (arith, c.requires.places, right_is c.args.product.now c.loop-j.j c.requires.sound lt))

pub loop-j-preserved : goal.loop-j-preserved
loop-j-preserved c =
    let pair : Pair = c.args.product.now in
    let classes : Classes = c.args.classes.now in
    elim c.if-not-paired.branch [
      | then-not-paired+in_ok-push w ↦
          let no : PairOutput pair classes c.loop-j.j → ⊥ =
          λ paired. let yes = c.paired.ensures.1 (subst (λ (p : ℕ × ℕ). Pairs classes p.0 p.1) (sym c.output-left.ensures) paired) in let test = w.if-not-paired.true in absurd cc in
          let more = one_left_out pair classes c.loop-j.j c.loop-j.outputs.items c.loop-j.invariant no in
          subst (AreLeftOut pair classes (c.loop-j.j + 1)) (sym (ap (λ v. v.items) w.outputs-is ∙ w.in_ok-push.ensures.items)) more
      | else-not-paired w ↦
          let test = w.if-not-paired.false in
          let yes : PairOutput pair classes c.loop-j.j = subst (λ (p : ℕ × ℕ). Pairs classes p.0 p.1) c.output-left.ensures (c.paired.ensures.0 cc) in
          subst (AreLeftOut pair classes (c.loop-j.j + 1)) (sym (ap (λ v. v.items) w.outputs-is)) (none_more pair classes c.loop-j.j c.loop-j.outputs.items c.loop-j.invariant yes)
    ]
