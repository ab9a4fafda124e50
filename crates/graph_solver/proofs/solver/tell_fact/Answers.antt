use Rattle.std.proofs.Common.{◌∙◌, ap, sym, subst}
use Rattle.and_graph.specs.Graphs.{AllEqual}
use Rattle.graph_solver.specs.Known.{Known}
use Rattle.graph_solver.proofs.solver.tell_fact.Goals as goal

pub tell_equal-requires-clause-equal : goal.tell_equal-requires-clause-equal
tell_equal-requires-clause-equal c v obeys equal =
    sym (c.canonical-x.ensures.equal v obeys) ∙ c.requires.equal v (subst (AllEqual v) (ap (λ (k : Known). k.facts) c.in_ok-decide_too.ensures ∙ c.in_ok-reach.ensures.facts) equal) ∙ c.canonical-y.ensures.equal v obeys
