use Rattle.std.proofs.Common.{◌∙◌, ◌≡◌, false, length, ap, sym, arith}
use Rattle.std.proofs.lemmas.List.{ext_get_or}
use Rattle.circ_model.specs.Meaning.{places_of}
use Rattle.sim_words.specs.Lanes.{lane}
use Rattle.sim_words.specs.Simulation.{Simulation}
use Rattle.sim_words.proofs.Lanes.{lane_at}
use Rattle.sim_words.proofs.Frames.{length_lane}
use Rattle.sim_words.proofs.sim.SimState.column.Goals as goal

pub returns : goal.returns
returns c =
    let s = c.args.self.now in
    let size : length s.words ≡ places_of s.pair = sym (ap (λ (v : Simulation). length v.words) c.self.view_is) ∙ c.self.invariant.places ∙ ap (λ (v : Simulation). places_of v.pair) c.self.view_is in
    ext_get_or false c.loop-p.into (lane c.args.run s.words) (c.loop-p.invariant.0 ∙ sym size ∙ sym (length_lane c.args.run s.words))
    (λ i lt. c.loop-p.invariant.1 i (omega (arith, c.len-p-end.ensures, c.requires.row, c.loop-p.invariant.0)) ∙ sym (lane_at c.args.run s.words i))
