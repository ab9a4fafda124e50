use Rattle.std.proofs.Common.{◌≡◌, ◌∙◌, ◌+◌, ◌*◌, ℕ, length, get_or, ap, sym, arith}
use Rattle.std.proofs.lemmas.List.{get_or_default}
use Rattle.circ_model.specs.Meaning.{places_of}
use Rattle.sim_words.specs.Wide.{WideSimulation}
use Rattle.sim_words.proofs.Stripes.{stripe_at}
use Rattle.sim_words.proofs.wide.WideState.word.Goals as goal

pub returns : goal.returns
returns c =
    let s = c.args.self.now in
    let at : ℕ = 8 * c.args.place + c.args.j in
    let size : length s.words ≡ 8 * places_of s.pair = sym (ap (λ (v : WideSimulation). length v.words) c.self.view_is) ∙ c.self.invariant.places ∙ ap (λ (v : WideSimulation). 8 * places_of v.pair) c.self.view_is in
    c.index.ensures ∙ ap (λ (v : WideSimulation). get_or v.words at c.index.result.now) c.self.view_is ∙ get_or_default s.words at c.index.result.now 0 (omega (arith, size, c.requires.place, c.requires.number))
    ∙ sym (stripe_at (places_of s.pair) c.args.j c.args.place s.words c.requires.place)
