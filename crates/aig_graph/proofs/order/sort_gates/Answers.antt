use Rattle.std.proofs.Common.{rules}
use Rattle.std.proofs.lemmas.List.Sorted.{IsNonDecreasingBy-from_sort_by_key}
use Rattle.aig_graph.specs.Walk.{key_of}
use Rattle.aig_graph.proofs.order.sort_gates.Goals as goal

pub returns-clause-sorted : goal.returns-clause-sorted
returns-clause-sorted c = IsNonDecreasingBy-from_sort_by_key (key_of c.args.level.now) _ c.in_ok-sort_by_key.ensures.sorted (λ a r q k. search rules)
