-- Two literals of the pair in one frame from reset.
use Rattle.std.proofs.Common.{◌≡◌, ◌∙◌, ◌<◌, ◌+◌, ◌*◌, ◌/◌, ℕ, Bool, List, Option, Some, None, get_or, length, ap₂, sym, subst, arith}
use Rattle.std.specs.Prelude.{IfNone}
use Rattle.circ_model.specs.Meaning.{Path, bit, literal_value, places_of, row_at, value_in}
use Rattle.and_graph.specs.declared.node.Node.{Node}
use Rattle.and_graph.specs.declared.pattern.Pattern.{Pattern}
use Rattle.and_graph.specs.Graphs.{AreEqual, IsGraph}
use Rattle.frame_graph.specs.Inductions.{LiteralsHoldInFrame}
use Rattle.frame_graph.specs.Maps.{AreWithin, IsResetMap, Mapping, Shows}
use Rattle.frame_graph.proofs.ReadPaths.{each_path_is_read, input_within}

-- a literal that has the value of one of the pair in a frame, wherever the map shows a run
abbrev pub StandsIn : Mapping → ℕ → ℕ → ℕ → Type 0
StandsIn m t lit x = (run : Path) (v : ℕ → Bool) → Shows m.leaves.pair m.literals run v → literal_value v x ≡ value_in (row_at m.leaves.pair run t) lit

-- the index of a place
pub reset_index : (m : Mapping) (t p : ℕ) → p < places_of m.leaves.pair → t < m.depth → length m.literals ≡ m.depth * places_of m.leaves.pair → t * places_of m.leaves.pair + p < length m.literals
reset_index m t p place frame size = let h = input_within (places_of m.leaves.pair) t p m.depth frame place in omega arith

-- as the code reads it
pub stands_in : (m : Mapping) (slice : List ℕ) (t lit x begin : ℕ) → lit / 2 < places_of m.leaves.pair → t < m.depth → length m.literals ≡ m.depth * places_of m.leaves.pair → slice ≡ m.literals → begin ≡ t * places_of m.leaves.pair
    → ((v : ℕ → Bool) (row : List Bool) → literal_value v (get_or slice (begin + lit / 2) 0) ≡ bit row (lit / 2) → literal_value v x ≡ value_in row lit) → StandsIn m t lit x
stands_in m slice t lit x begin place frame size read at value run v shows =
    value v (row_at m.leaves.pair run t)
    (ap₂ (λ (xs : List ℕ) (n : ℕ). literal_value v (get_or xs (n + lit / 2) 0)) read at ∙ shows.bits t (lit / 2) place (reset_index m t (lit / 2) place frame size))

pub reset_within : (nodes : List Node) (m : Mapping) (slice : List ℕ) (t lit x begin : ℕ) → lit / 2 < places_of m.leaves.pair → t < m.depth → length m.literals ≡ m.depth * places_of m.leaves.pair → slice ≡ m.literals → begin ≡ t * places_of m.leaves.pair
    → x / 2 ≡ get_or slice (begin + lit / 2) 0 / 2 → AreWithin nodes m.literals → x / 2 < length nodes
reset_within nodes m slice t lit x begin place frame size read at same is =
    let here : x / 2 ≡ get_or m.literals (t * places_of m.leaves.pair + lit / 2) 0 / 2 = same ∙ ap₂ (λ (xs : List ℕ) (n : ℕ). get_or xs (n + lit / 2) 0 / 2) read at in
    subst (λ (n : ℕ). n < length nodes) (sym here) (is.at (t * places_of m.leaves.pair + lit / 2) (reset_index m t (lit / 2) place frame size))

-- where two are equal in the graph the literals of the pair are equal there on each run
pub literals_hold : (nodes : List Node) (m : Mapping) (t a b x y : ℕ) → IsGraph nodes → IsResetMap nodes m → StandsIn m t a x → StandsIn m t b y → AreEqual nodes x y → LiteralsHoldInFrame m.leaves.pair m.depth t a b
literals_hold nodes m t a b x y graph is left right equal run on =
    let (v, obeys, reads) = each_path_is_read nodes m.leaves run graph is.leaves in
    let shows = is.shows run v on obeys reads in
    sym (left run v shows) ∙ equal v obeys ∙ right run v shows

-- what follows where nothing was found
pub none_then : (A B : Type 0) (found : Option Pattern) → (A → B) → IfNone found A → IfNone found B
none_then A B None then is = then is
none_then A B (Some p) then is = is
