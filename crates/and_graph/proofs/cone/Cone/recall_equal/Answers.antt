use Rattle.std.proofs.Common.{◌∙◌, sym, ap}
use Rattle.circ_model.specs.Meaning.{bit, signed}
use Rattle.and_graph.proofs.ConeMembers.{cone_equal}
use Rattle.and_graph.proofs.cone.Cone.recall_equal.Goals as goal

pub returns : goal.returns
returns c = record {
  on = c.in_ok-left.ensures.on;
  cone = cone_equal c.args.nodes.now c.meet_both.new.self.members.items c.meet_both.new.self.cnf c.add_equal.new.cnf c.args.n c.args.lit c.in_ok-left.left c.in_ok-left.right
      c.in_ok-left.ensures.cone c.add_equal.ensures.vars c.in_ok-left.ensures.within.0 c.in_ok-left.ensures.left c.in_ok-left.ensures.within.1 (c.in_ok-left.ensures.right ∙ c.var.ensures) c.requires.equal
      (λ asg was same. c.in_ok-add_equal.ensures.ok asg was (same ∙ ap (λ b. signed b (bit asg c.in_ok-left.right)) (sym c.complement.ensures)));
}
