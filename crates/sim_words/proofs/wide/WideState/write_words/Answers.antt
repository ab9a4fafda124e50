use Rattle.std.proofs.Common.{◌∙◌, sym, arith}
use Rattle.std.proofs.lemmas.List.{ext_get_or}
use Rattle.circ_model.specs.Meaning.{places_of}
use Rattle.sim_words.specs.Wide.{stripe}
use Rattle.sim_words.proofs.Stripes.{length_stripe, stripe_at}
use Rattle.sim_words.proofs.wide.WideState.write_words.Goals as goal

pub returns : goal.returns
returns c =
    let s = c.args.self.now in
    ext_get_or 0 c.loop-p.into (stripe (places_of s.pair) c.args.j s.words) (c.loop-p.invariant.0 ∙ sym (length_stripe (places_of s.pair) c.args.j s.words))
    (λ i lt. c.loop-p.invariant.1 i (omega (arith, c.loop-p.invariant.0, c.requires.size)) ∙ sym (stripe_at (places_of s.pair) c.args.j i s.words (omega (arith, c.loop-p.invariant.0))))
