use Rattle.std.proofs.Common.{◌≡◌, map, sym, subst, ◌∙◌}
use Rattle.aig_graph.specs.Walk.{Between, first_level}
use Rattle.aig_graph.proofs.Walks.{opening}
use Rattle.aig_graph.proofs.levels.levels_of.Goals as goal

pub settle_all-requires-clause-between : goal.settle_all-requires-clause-between
settle_all-requires-clause-between c =
    let is : map first_level c.args.defs.now ≡ c.deref_mut.result.now = sym c.in_ok-level.ensures ∙ sym c.deref_mut.ensures.value in
    subst (λ l. Between c.args.defs.now c.args.gates.now l) is (opening c.args.defs.now c.args.gates.now c.requires.index)
