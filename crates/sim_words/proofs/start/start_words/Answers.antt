use Rattle.std.proofs.Common.{◌≡◌, ◌∙◌, ◌*◌, ℕ, List, get_or, ap, sym}
use Rattle.std.proofs.lemmas.List.{get_or-replicate}
use Rattle.std.proofs.lemmas.Simd.{get_or-chunk}
use Rattle.circ_model.specs.declared.netlist.Reset.{Reset}
use Rattle.std.specs.Int.{bit_not, w64}
use Rattle.sim_words.specs.Lanes.{lane_bit}
use Rattle.sim_words.specs.Simulation.{start_bit}
use Rattle.sim_words.specs.Wide.{wide_bit}
use Rattle.sim_words.proofs.Lanes.{lane_ones, lane_zero}
use Rattle.sim_words.proofs.start.start_words.Goals.{in-Zero, in-One, in-Free}
use Rattle.sim_words.proofs.start.start_words.Goals as goal

pub returns-clause-value : goal.returns-clause-value
returns-clause-value c j b small less = elim c.match-reset.branch [
  | in-Zero w ↦ ap (λ (l : List ℕ). lane_bit b (get_or l j 0)) w.result-is ∙ ap (lane_bit b) (get_or-replicate 8 j 0 0 small) ∙ lane_zero b ∙ sym (starts w.in-Zero.is)
  | in-One w ↦ ap (λ (l : List ℕ). lane_bit b (get_or l j 0)) w.result-is ∙ ap (lane_bit b) (get_or-replicate 8 j (bit_not w64 0) 0 small) ∙ lane_ones b less ∙ sym (starts w.in-One.is)
  | in-Free w ↦ ap (λ (l : List ℕ). lane_bit b (get_or l j 0)) w.result-is ∙ ap (lane_bit b) (get_or-chunk (8 * c.args.used) 8 c.args.free.now j 0 small) ∙ sym (starts w.in-Free.is)
]
  where
    starts : {r : Reset} → c.args.reset ≡ r → start_bit c.args.reset (wide_bit c.args.free.now j b c.args.used) ≡ start_bit r (wide_bit c.args.free.now j b c.args.used)
    starts e = ap (λ (r : Reset). start_bit r (wide_bit c.args.free.now j b c.args.used)) e
