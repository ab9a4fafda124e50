use Rattle.std.proofs.Common.{◌≡◌, ◌⊎◌, ℕ, true, sym, subst}
use Rattle.circ_model.specs.Meaning.{literal_value}
use Rattle.graph_solver.proofs.Clauses.{gate_clause, gate_left, gate_right}
use Rattle.graph_solver.proofs.told.Told.tell_gate.Goals as goal

pub tell_pair-requires-clause-holds : goal.tell_pair-requires-clause-holds
tell_pair-requires-clause-holds c v obeys equal =
    subst (λ (l : ℕ). (literal_value v l ≡ true) ⊎ (literal_value v c.args.a ≡ true)) (sym c.not.ensures) (gate_left c.args.graph.now c.args.node c.of-own.result c.args.a c.args.b c.of-own.ensures c.requires.value v obeys)

pub tell_pair-requires-2-clause-holds : goal.tell_pair-requires-2-clause-holds
tell_pair-requires-2-clause-holds c v obeys equal =
    subst (λ (l : ℕ). (literal_value v l ≡ true) ⊎ (literal_value v c.args.b ≡ true)) (sym c.not-2.ensures) (gate_right c.args.graph.now c.args.node c.of-own.result c.args.a c.args.b c.of-own.ensures c.requires.value v obeys)

pub tell-requires-clause-holds : goal.tell-requires-clause-holds
tell-requires-clause-holds c =
    gate_clause c.args.graph.now c.tell_pair-2.new.self.facts c.args.node c.of-own.result c.args.a c.args.b c.not-3.result c.not-4.result c.code_of.result c.code_of-2.result c.code_of-3.result
    c.of-own.ensures c.not-3.ensures c.not-4.ensures c.code_of.ensures c.code_of-2.ensures c.code_of-3.ensures c.requires.within c.requires.left c.requires.right c.requires.value
