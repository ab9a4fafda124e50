use Rattle.std.proofs.Common.{◌∙◌, ap, sym}
use Rattle.circ_model.specs.declared.netlist.Reset.{Reset}
use Rattle.circ_model.specs.Meaning.{bit}
use Rattle.sim_words.specs.Lanes.{lane}
use Rattle.sim_words.specs.Simulation.{start_bit}
use Rattle.sim_words.proofs.Lanes.{lane_ones}
use Rattle.sim_words.proofs.start.start_word.Goals as goal

pub returns-in-One : goal.returns-in-One
returns-in-One c b lt = lane_ones b lt ∙ sym (ap (λ (r : Reset). start_bit r (bit (lane b c.args.free.now) c.args.used)) c.in-One.is)
