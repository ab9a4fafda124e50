use Rattle.std.proofs.Common.{◌≡◌, ◌∙◌, ◌*◌, ℕ, List, length, ap, sym, subst, arith}
use Rattle.std.specs.Vec.{with_items}
use Rattle.std.proofs.lemmas.List.{with_items_is}
use Rattle.rand_core.specs.Steps.{first_words}
use Rattle.rand_pcg.specs.Pcg.{pcg64}
use Rattle.sim_words.specs.Simulation.{free_count}
use Rattle.sim_words.specs.Stimulus.{after_words}
use Rattle.verdict_stamp.specs.Opening.{AreFramesThatAdd, AreOpened}
use Rattle.verdict_stamp.proofs.OpenedFrames.{begins, goes_on}
use Rattle.verdict_stamp.proofs.version.Version.opening.Goals as goal

pub loop-frame-init : goal.loop-frame-init
loop-frame-init c =
    let given : List ℕ = c.as_mut_slice.result.now in
    let same : length given ≡ length c.in_ok-free.free.items = ap length c.as_mut_slice.ensures.value in
    let count : length given ≡ 8 * free_count c.args.product.now = omega (arith, same, c.in_ok-free.ensures.len, c.free_latches.ensures, ap free_count c.in_ok-sim.ensures.pair) in
    let fits : length c.fill.new.words ≡ c.in_ok-free.free.len = omega (arith, c.fill.auto.words, same, c.in_ok-free.free.ok.0) in
    begins c.args.product.now c.args.k c.in_ok-version.version c.in_ok-sim.sim c.reset.new.self c.new-stimulus.result c.fill.new.self given c.as_slice.result.now c.in_ok-inputs.inputs.items c.in_ok-version.ensures c.in_ok-sim.ensures.pair c.reset.ensures.pair c.reset.ensures.frame
    c.new-stimulus.ensures count (c.as_slice.ensures.value ∙ with_items_is c.in_ok-free.free c.fill.new.words fits ∙ c.fill.ensures.words) c.fill.ensures.after c.reset.ensures.lanes (omega (arith, c.in_ok-inputs.ensures.len, c.inputs.ensures))

pub loop-frame-preserved : goal.loop-frame-preserved
loop-frame-preserved c =
    let inputs = c.loop-frame.inputs in
    let words : List ℕ = c.fill-in-loop-frame.new.words in
    let given : List ℕ = c.as_slice-in-loop-frame.result.now in
    let same : length c.as_mut_slice-in-loop-frame.result.now ≡ length inputs.items = ap length c.as_mut_slice-in-loop-frame.ensures.value in
    let fits : length words ≡ inputs.len = omega (arith, c.fill-in-loop-frame.auto.words, same, inputs.ok.0) in
    let kept = with_items_is inputs words fits in
    let slice : given ≡ words = c.as_slice-in-loop-frame.ensures.value ∙ kept in
    goes_on c.args.product.now c.args.k c.loop-frame.frame c.loop-frame.version c.split_by_wide.new.self c.loop-frame.sim c.step.new.self c.loop-frame.stimulus c.fill-in-loop-frame.new.self inputs.items given (with_items inputs words).items c.in_ok-split_by_wide.field-0 (omega (arith, c.loop-frame-test.true)) c.loop-frame.invariant
    (slice ∙ c.fill-in-loop-frame.ensures.words ∙ ap (λ (n : ℕ). first_words pcg64 n c.loop-frame.stimulus) same) (c.fill-in-loop-frame.ensures.after ∙ ap (λ (n : ℕ). after_words n c.loop-frame.stimulus) same) (kept ∙ sym slice) (omega (arith, ap length slice, fits, inputs.ok.0))
    c.step.ensures.pair c.step.ensures.frame c.step.ensures.words c.step.ensures.state c.in_ok-split_by_wide.ensures.product c.in_ok-split_by_wide.ensures.k c.in_ok-split_by_wide.ensures.split c.in_ok-split_by_wide.ensures.count c.in_ok-split_by_wide.ensures.number (λ z. (c.in_ok-split_by_wide.ensures.none z).0)

pub returns-clause-classes : goal.returns-clause-classes
returns-clause-classes c = subst (λ (n : ℕ). AreOpened c.args.product.now n c.loop-frame.version.classes) (omega (arith, c.loop-frame-test.false, c.loop-frame.auto)) c.loop-frame.invariant.opened

pub returns-clause-number : goal.returns-clause-number
returns-clause-number c = subst (λ (n : ℕ). AreFramesThatAdd c.args.product.now n c.loop-frame.version.number) (omega (arith, c.loop-frame-test.false, c.loop-frame.auto)) c.loop-frame.invariant.frames
