use Rattle.std.proofs.Common.{◌≡◌, ◌∙◌, ℕ, length, ap, sym, arith}
use Rattle.rand_pcg.specs.Lcg.{Lcg}
use Rattle.rand_pcg.specs.Pcg.{pcg64}
use Rattle.sim_words.specs.Stimulus.{after_words}
use Rattle.sim_words.proofs.Words.{after_zero, after_more, next_more, words_all}
use Rattle.sim_words.proofs.stimulus.Stimulus.fill.Goals as goal

pub loop-i-init : goal.loop-i-init
loop-i-init c = (c.self.view_is ∙ sym (after_zero c.args.self.now), λ k lt. absurd (omega arith))

pub loop-i-preserved : goal.loop-i-preserved
loop-i-preserved c =
    let g : Lcg = c.args.self.now in (
      ap (λ (p : ℕ × Lcg). p.1) c.next_word.ensures ∙ ap (λ (s : Lcg). (pcg64 s).1) c.loop-i.invariant.0 ∙ sym (after_more c.loop-i.i g),
      next_more g c.loop-i.words c.loop-i.i c.next_word.result (omega (arith, c.loop-i.auto.words)) (ap (λ (p : ℕ × Lcg). p.0) c.next_word.ensures ∙ ap (λ (s : Lcg). (pcg64 s).0) c.loop-i.invariant.0) c.loop-i.invariant.1,
    )

pub returns-clause-words : goal.returns-clause-words
returns-clause-words c =
    let last : c.loop-i.i ≡ length c.args.words.now = omega (arith, c.loop-i.auto.i-end) in
    words_all c.args.self.now c.loop-i.words (length c.args.words.now) c.loop-i.auto.words (λ k lt. c.loop-i.invariant.1 k (omega (arith, last)))

pub returns-clause-after : goal.returns-clause-after
returns-clause-after c =
    let last : c.loop-i.i ≡ length c.args.words.now = omega (arith, c.loop-i.auto.i-end) in
    c.loop-i.invariant.0 ∙ ap (λ (n : ℕ). after_words n c.args.self.now) last
