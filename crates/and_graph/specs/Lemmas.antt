-- Clauses over nodes that hold under each valuation, and which lines of a derivation give such a clause.
use Rattle.std.specs.Prelude.{◌≡◌, ◌≤◌, ◌<◌, ◌-◌, ◌⊎◌, ℕ, ℤ, List, [], length, All, Bool, true, false, slice_index_or}
use Rattle.circ_model.specs.Meaning.{literal_value}
use Rattle.cnf_store.specs.Clauses.{clause_true}
use Rattle.sat_log.specs.Derivations.{Line, line_at}
use Rattle.and_graph.specs.declared.node.Node.{Node}
use Rattle.and_graph.specs.Graphs.{Obeys}
use Rattle.and_graph.specs.Cones.{Shows}

-- a literal of the clause has the value 1
pub record SomeHolds (v : ℕ → Bool) (clause : List ℕ) : Type 0 where
  pub at : ℕ
  pub within : at < length clause
  pub holds : literal_value v (slice_index_or clause at 0) ≡ true

-- each clause holds under each valuation
pub record AreLemmas (nodes : List Node) (clauses : List (List ℕ)) : Type 0 where
  pub hold : (i : ℕ) (v : ℕ → Bool) → i < length clauses → Obeys nodes v → SomeHolds v (slice_index_or clauses i [])

-- a clause over members holds wherever they have the values of a valuation
abbrev pub ClauseHolds : List Node → List ℕ → List ℤ → Type 0
ClauseHolds nodes members clause = (v : ℕ → Bool) (a : List Bool) → Obeys nodes v → Shows members v a → clause_true a clause ≡ true

-- the first so many clauses do
abbrev pub GivenHold : List Node → List ℕ → List (List ℤ) → ℕ → Type 0
GivenHold nodes members clauses given = (h : ℕ) → h < given → ClauseHolds nodes members (slice_index_or clauses h [])

-- a hint names one of the first so many clauses, or a line that is marked as resting on these alone
abbrev pub IsPureHint : List Bool → ℕ → ℕ → ℕ → Type 0
IsPureHint pure given total h = (h ≤ given) ⊎ ((total < h) × (h - total - 1 < length pure) × (slice_index_or pure (h - total - 1) false ≡ true))

abbrev pub ArePureHints : List Bool → ℕ → ℕ → List ℕ → Type 0
ArePureHints pure given total hints = All (IsPureHint pure given total) hints

-- the marked ones among the first lines hold
abbrev pub PureHold : List Node → List ℕ → List Line → List Bool → Type 0
PureHold nodes members lines pure = (i : ℕ) → i < length pure → slice_index_or pure i false ≡ true → ClauseHolds nodes members (line_at lines i).literals

-- more clauses, with those that there were in front
pub record Extends (before after : List (List ℤ)) : Type 0 where
  pub size : length before ≤ length after
  pub same : (h : ℕ) → h < length before → slice_index_or after h [] ≡ slice_index_or before h []
