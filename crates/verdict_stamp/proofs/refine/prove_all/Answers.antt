use Rattle.std.proofs.Common.{◌≡◌, ◌∙◌, ◌+◌, refl, ap, subst, arith}
use Rattle.circ_model.specs.Meaning.{places_of}
use Rattle.verdict_stamp.specs.Versions.{Standing, IsVersion}
use Rattle.verdict_stamp.proofs.Rounds.{round_first, round_more, few_added, greatest_is}
use Rattle.verdict_stamp.proofs.refine.prove_all.Goals as goal

pub loop-member-init : goal.loop-member-init
loop-member-init c = (refl, round_first c.args.prover.now c.args.prover.now c.args.next.now refl c.requires.copy)

pub overflow_add-added : goal.overflow_add-added
overflow_add-added c =
    let v : Standing = c.args.prover.now in
    let e = c.in_ok-added.ensures in
    let is = round_more v c.loop-member.prover c.loop-member.next c.prove_place.new.next c.loop-member.added c.in_ok-added.field-0 c.loop-member.member c.loop-member.invariant.0 c.loop-member.invariant.1 e.product e.k e.count e.none in
    let n : c.len-n.result ≡ places_of v.pair = c.len-n.ensures.places ∙ ap places_of (c.product.ensures.pair ∙ ap (λ (z : Standing). z.pair) c.requires.copy) in
    let few = few_added v c.prove_place.new.next (c.loop-member.added + c.in_ok-added.field-0) (c.loop-member.member + 1) is in
    omega (arith, few, n, c.len-n.ensures.few)

pub loop-member-preserved : goal.loop-member-preserved
loop-member-preserved c =
    let e = c.in_ok-added.ensures in (
      e.kept ∙ c.loop-member.invariant.0,
      round_more c.args.prover.now c.loop-member.prover c.loop-member.next c.prove_place.new.next c.loop-member.added c.in_ok-added.field-0 c.loop-member.member c.loop-member.invariant.0 c.loop-member.invariant.1 e.product e.k e.count e.none,
    )

pub returns-clause-none : goal.returns-clause-none
returns-clause-none c z =
    let v : Standing = c.args.prover.now in
    let n : c.len-n.result ≡ places_of v.pair = c.len-n.ensures.places ∙ ap places_of (c.product.ensures.pair ∙ ap (λ (z : Standing). z.pair) c.requires.copy) in
    let is = subst IsVersion c.requires.copy c.product.ensures.kept in
    let end = c.loop-member-test.false in
    let none = c.loop-member.invariant.1.none z in
    greatest_is v c.loop-member.next.classes is (λ q lt. none.1 q (omega (arith, lt, n, end))) none.0
