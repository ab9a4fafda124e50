use Rattle.std.proofs.Common.{◌≡◌, ◌<◌, ◌+◌, ℕ, subst, sym, refl, arith}
use Rattle.command_line.specs.Asked.{ClimbAsked, OptionsAsked, climb_asked, options_asked}
use Rattle.circ_model.specs.Meaning.{Pair}
use Rattle.sec_cli.specs.Answers.{IsCheckAnswer}
use Rattle.sec_cli.specs.Climbs.{IsReached}
use Rattle.sec_cli.proofs.Depths.{IsSoFar, check_within, goes_on, ends}
use Rattle.sec_cli.proofs.climbing.climb_from.Goals as goal

pub try_depth-requires-clause-within : goal.try_depth-requires-clause-within
try_depth-requires-clause-within g c = λ lives fits.
    let asked : ClimbAsked = climb_asked c.args.c.now in
    check_within asked c.loop-k.k (options_asked c.check_of.result) c.requires.within (omega arith) (omega arith) c.check_of.ensures.asked

pub try_depth-requires-clause-reached : goal.try_depth-requires-clause-reached
try_depth-requires-clause-reached g c = λ lives fits.
    subst (λ (n : ℕ). IsReached c.args.product.now n c.loop-k.reached) (sym c.check_of.ensures.k) c.loop-k.invariant.1

pub loop-k-preserved : goal.loop-k-preserved
loop-k-preserved g c =
    let pair : Pair = c.args.product.now in
    let asked : ClimbAsked = climb_asked c.args.c.now in
    let lt : c.loop-k.k < asked.most = omega (arith, c.loop-k-test.true) in
    let two : c.in_ok-answer.answer.status ≡ 2 = omega (arith, c.if-answer-ne2.false) in
    let found = c.in_ok-answer.ensures in
    let is = subst (λ (o : OptionsAsked). IsCheckAnswer pair o c.in_ok-answer.answer) c.check_of.ensures.asked found.answer in (
      goes_on pair asked c.loop-k.k c.loop-k.before c.in_ok-answer.answer c.loop-k.invariant.0 lt is two,
      subst (λ (n : ℕ). IsReached pair (n + 1) c.try_depth.new.reached) c.check_of.ensures.k (found.reached two),
    )

pub check_beyond-requires-clause-within : goal.check_beyond-requires-clause-within
check_beyond-requires-clause-within g c = λ lives fits.
    let asked : ClimbAsked = climb_asked c.args.c.now in
    check_within asked asked.most (options_asked c.check_of-2.result) c.requires.within c.requires.within.some (omega arith) c.check_of-2.ensures.asked

pub check_beyond-requires-clause-reached : goal.check_beyond-requires-clause-reached
check_beyond-requires-clause-reached g c = λ lives fits.
    let pair : Pair = c.args.product.now in
    let asked : ClimbAsked = climb_asked c.args.c.now in
    let last : c.loop-k.k ≡ c.check_of-2.result.k = omega (arith, c.loop-k-test.false, c.loop-k.invariant.0.few, c.check_of-2.ensures.k) in
    subst (λ (n : ℕ). IsReached pair n c.loop-k.reached) last c.loop-k.invariant.1

pub returns-then-answer-ne2-clause-answer : goal.returns-then-answer-ne2-clause-answer
returns-then-answer-ne2-clause-answer g c =
    let pair : Pair = c.args.product.now in
    let asked : ClimbAsked = climb_asked c.args.c.now in
    let done = c.ended.ensures in
    let is = subst (λ (o : OptionsAsked). IsCheckAnswer pair o c.in_ok-answer.answer) c.check_of.ensures.asked c.in_ok-answer.ensures.answer in
    ends pair asked c.loop-k.k c.loop-k.before c.in_ok-answer.answer c.ended.result c.loop-k.invariant.0 (λ two. absurd (c.if-answer-ne2.true two)) is done.status done.text done.file done.journal

pub returns-clause-answer : goal.returns-clause-answer
returns-clause-answer g c =
    let pair : Pair = c.args.product.now in
    let asked : ClimbAsked = climb_asked c.args.c.now in
    let last : c.loop-k.k ≡ asked.most = omega (arith, c.loop-k-test.false, c.loop-k.invariant.0.few) in
    let so : IsSoFar pair asked asked.most c.loop-k.before = subst (λ (n : ℕ). IsSoFar pair asked n c.loop-k.before) last c.loop-k.invariant.0 in
    let done = c.ended-2.ensures in
    let is = subst (λ (o : OptionsAsked). IsCheckAnswer pair o c.in_ok-answer-2.answer) c.check_of-2.ensures.asked c.in_ok-answer-2.ensures.answer in
    ends pair asked asked.most c.loop-k.before c.in_ok-answer-2.answer c.ended-2.result so (λ two. refl) is done.status done.text done.file done.journal
