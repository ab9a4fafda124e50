-- What a solver is told of a graph where some pairs of its literals are taken to be equal.
use Rattle.std.specs.Prelude.{◌≡◌, ◌<◌, ◌/◌, ⊤, ℕ, List, [], ◌∷◌, length, Bool, true}
use Rattle.std.specs.List.{All, Any}
use Rattle.circ_model.specs.Meaning.{literal_value, negated}
use Rattle.cnf_store.specs.Codes.{neg}
use Rattle.implied_clauses.specs.Implied.{Implies}
use Rattle.and_graph.specs.declared.node.Node.{Node}
use Rattle.and_graph.specs.Graphs.{AllEqual, AreEqualWhere, Obeys}
use Rattle.kept_solver.specs.declared.solver.Outcome.{Outcome}
use Rattle.kept_solver.specs.declared.solver.Outcome.TheVariants as outcome
use Rattle.graph_solver.specs.declared.solver.Answer.{Answer}
use Rattle.graph_solver.specs.declared.solver.Answer.TheVariants as answer

-- the facts, and the clauses that were given; the code of a literal is the literal
pub record Known : Type 0 where
  pub facts : List (ℕ × ℕ)
  pub clauses : List (List ℕ)

-- a clause over nodes, one literal of which is true under each such valuation
pub record IsTold (nodes : List Node) (facts : List (ℕ × ℕ)) (clause : List ℕ) : Type 0 where
  pub within : All (λ (l : ℕ). l / 2 < length nodes) clause
  pub holds : (v : ℕ → Bool) → Obeys nodes v → AllEqual v facts → Any (λ (l : ℕ). literal_value v l ≡ true) clause

-- each clause is
pub record IsKept (nodes : List Node) (known : Known) : Type 0 where
  pub all : All (IsTold nodes known.facts) known.clauses

-- equal: where the facts hold, the two literals are
abbrev pub IsAnswer : List Node → List (ℕ × ℕ) → ℕ → ℕ → Answer → Type 0
IsAnswer nodes facts a b answer.Equal = AreEqualWhere nodes facts a b
IsAnswer nodes facts a b (answer.Apart pattern) = ⊤
IsAnswer nodes facts a b answer.Unknown = ⊤

-- refuted: where the facts hold, the two literals are equal
abbrev pub IsSettled : List Node → List (ℕ × ℕ) → ℕ → ℕ → Outcome → Type 0
IsSettled nodes facts a b outcome.Refuted = AreEqualWhere nodes facts a b
IsSettled nodes facts a b outcome.Model = ⊤
IsSettled nodes facts a b outcome.Unknown = ⊤

-- refuted: each of two literals implies the other
abbrev pub IsBothWays : List (List ℕ) → ℕ → ℕ → Outcome → Type 0
IsBothWays given x y outcome.Refuted = Implies given (neg x ∷ neg (negated y) ∷ []) × Implies given (neg (negated x) ∷ neg y ∷ [])
IsBothWays given x y outcome.Model = ⊤
IsBothWays given x y outcome.Unknown = ⊤
