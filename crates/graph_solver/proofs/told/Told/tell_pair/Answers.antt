use Rattle.std.proofs.Common.{◌∷◌, [], ℕ, sym, subst₂}
use Rattle.graph_solver.specs.Known.{IsTold}
use Rattle.graph_solver.proofs.Clauses.{two_told}
use Rattle.graph_solver.proofs.told.Told.tell_pair.Goals as goal

pub tell-requires-clause-holds : goal.tell-requires-clause-holds
tell-requires-clause-holds c =
    subst₂ (λ (x y : ℕ). IsTold c.args.graph.now c.args.self.now.facts (x ∷ y ∷ [])) (sym c.code_of.ensures) (sym c.code_of-2.ensures)
    (two_told c.args.graph.now c.args.self.now.facts c.args.p c.args.q c.requires.first c.requires.second c.requires.holds)
