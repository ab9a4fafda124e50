use Rattle.std.proofs.Common.{◌<◌, ◌/◌, ◌≡◌, ℕ, length, slice_index, sym, subst, arith, ⊎_elim, ◌+◌}
use Rattle.std.proofs.lemmas.Bool.{cases_eq}
use Rattle.circ_model.specs.Meaning.{Pair, IsSoundPair, outputs_of, places_of, left_literal, right_literal}
use Rattle.circ_model.proofs.Rows.{left_literal_is, right_literal_is}
use Rattle.class_partition.specs.Classes.{Classes, Pairs}
use Rattle.class_partition.specs.Laws.{PairOutput}
use Rattle.corr_certificate.proofs.reading.body.pair_outputs.Goals as goal

-- both literals of an output are literals of the pair
left_is : (pair : Pair) (j : ℕ) → IsSoundPair pair → j < outputs_of pair → left_literal pair (slice_index pair.left.outputs j) / 2 < places_of pair
left_is pair j is lt = left_literal_is pair (slice_index pair.left.outputs j) is (is.left.all_defined.outputs j 0 lt)

right_is : (pair : Pair) (j : ℕ) → IsSoundPair pair → j < outputs_of pair → right_literal pair (slice_index pair.right.outputs j) / 2 < places_of pair
right_is pair j is lt = let same = is.outputs in right_literal_is pair (slice_index pair.right.outputs j) is (is.right.all_defined.outputs j 0 (omega arith))

pub paired-requires-clause-a : goal.paired-requires-clause-a
paired-requires-clause-a c =
    let lt : c.loop-j.j < outputs_of c.args.product.now = omega (arith, c.loop-j-test.true, c.outputs-j-end.ensures) in
    subst (λ (p : ℕ × ℕ). p.0 / 2 < length c.args.classes.now.least) (sym c.output-left.ensures) (omega (arith, c.requires.places, left_is c.args.product.now c.loop-j.j c.requires.sound lt))

pub paired-requires-clause-b : goal.paired-requires-clause-b
paired-requires-clause-b c =
    let lt : c.loop-j.j < outputs_of c.args.product.now = omega (arith, c.loop-j-test.true, c.outputs-j-end.ensures) in
    subst (λ (p : ℕ × ℕ). p.1 / 2 < length c.args.classes.now.least) (sym c.output-left.ensures) (omega (arith, c.requires.places, right_is c.args.product.now c.loop-j.j c.requires.sound lt))

-- one more output
one_more : (pair : Pair) (classes : Classes) (j : ℕ) → ((i : ℕ) → i < j → PairOutput pair classes i) → PairOutput pair classes j → (i : ℕ) → i < j + 1 → PairOutput pair classes i
one_more pair classes j all last i lt = ⊎_elim (λ (e : i ≡ j). subst (PairOutput pair classes) (sym e) last) (λ (ne : i ≡ j → ⊥). all i (omega arith)) (cases_eq i j)

pub loop-j-preserved : goal.loop-j-preserved
loop-j-preserved c =
    let test = c.if-not-paired.false in
    let yes : PairOutput c.args.product.now c.args.classes.now c.loop-j.j = subst (λ (p : ℕ × ℕ). Pairs c.args.classes.now p.0 p.1) c.output-left.ensures (c.paired.ensures.0 cc) in
    one_more c.args.product.now c.args.classes.now c.loop-j.j c.loop-j.invariant yes
