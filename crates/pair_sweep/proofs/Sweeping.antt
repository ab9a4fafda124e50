-- What a sweep keeps while its graph grows and takes in merges.
use Rattle.std.proofs.Common.{◌≡◌, ◌∙◌, ◌⊎◌, ◌++◌, ◌∷◌, [], ℕ, Bool, List, get_or, length, refl, ap₂, sym, subst, subst₂, ⊎_elim}
use Rattle.std.specs.List.{All}
use Rattle.std.proofs.lemmas.List.Elements.{All-nil, All-push}
use Rattle.class_partition.specs.Classes.{Classes}
use Rattle.circ_model.specs.Meaning.{Path, literal_value, places_of}
use Rattle.and_graph.specs.declared.node.Node.{Node}
use Rattle.and_graph.specs.Graphs.{AreEqualWhere, GrowsTo, Obeys}
use Rattle.frame_graph.specs.Inductions.{Induction, IsStepPath, StepPasses}
use Rattle.frame_graph.specs.Laws.{IsLater, IsMerged}
use Rattle.frame_graph.specs.Leaves.{Leaves, Reads}
use Rattle.frame_graph.specs.Maps.{Mapping, IsStepMap, induction_of}
use Rattle.frame_graph.specs.Owed.{IsOwed}
use Rattle.frame_graph.proofs.Staying.{grown_is_later, merged_is_later, later_maps, later_owed}
use Rattle.graph_solver.specs.declared.solver.Answer.{Answer}
use Rattle.graph_solver.specs.declared.solver.Answer.TheVariants.{Equal}
use Rattle.graph_solver.specs.Known.{IsAnswer, IsKept, IsTold, Known}
use Rattle.graph_solver.proofs.Clauses.{kept_stays}
use Rattle.pair_sweep.specs.Sweeps.{IsMemory, IsSweep}

-- the frames from reset, and those of the step, stand on the graph as it is later
memory_later : (nodes after : List Node) (resets steps : Mapping) (k : ℕ) → IsLater nodes after → IsMemory nodes resets steps k → IsMemory after resets steps k
memory_later nodes after resets steps k later is = record {
  reset_map = (later_maps nodes after resets later).0 is.reset_map;
  shared = is.shared;
  depth = is.depth;
  room = is.room;
}

-- what is assumed of the step's frames stands for other literals of them
owed_beside : (nodes : List Node) (m other : Mapping) (classes : Classes) (p : ℕ × ℕ) → other.leaves ≡ m.leaves → other.depth ≡ m.depth → IsOwed nodes m classes p → IsOwed nodes other classes p
owed_beside nodes m other classes p leaves depth is = record {
  equal = subst₂ (λ (l : Leaves) (k : ℕ). (path : Path) (v : ℕ → Bool) → IsStepPath (record { pair = l.pair; k = k; classes = classes }) path → Obeys nodes v → Reads l path v → literal_value v p.0 ≡ literal_value v p.1)
      (sym leaves) (sym depth) is.equal;
}

all_later : (nodes after : List Node) (m other : Mapping) (classes : Classes) (facts : List (ℕ × ℕ)) → IsLater nodes after → other.leaves ≡ m.leaves → other.depth ≡ m.depth → All (IsOwed nodes m classes) facts → All (IsOwed after other classes) facts
all_later nodes after m other classes facts later leaves depth all i d lt =
    let p = get_or facts i d in
    owed_beside after m other classes p leaves depth (later_owed nodes after m classes p later (all i d lt))

sweep_later : (nodes after : List Node) (resets steps : Mapping) (known : Known) (k : ℕ) (classes : Classes) → IsLater nodes after → IsSweep nodes resets steps known k classes → IsSweep after resets steps known k classes
sweep_later nodes after resets steps known k classes later is = record {
  memory = memory_later nodes after resets steps k later is.memory;
  step_map = (later_maps nodes after steps later).1 classes is.step_map;
  owed = all_later nodes after steps steps classes known.facts later refl refl is.owed;
  told = kept_stays nodes after known later.size later.valuations is.told;
  depth = is.depth;
  places = is.places;
}

memory_grown : (nodes after : List Node) (resets steps : Mapping) (k : ℕ) → GrowsTo nodes after → IsMemory nodes resets steps k → IsMemory after resets steps k
memory_grown nodes after resets steps k on = memory_later nodes after resets steps k (grown_is_later nodes after on)

pub sweep_merged : (nodes after : List Node) (resets steps : Mapping) (known : Known) (k : ℕ) (classes : Classes) → IsMerged nodes after → IsSweep nodes resets steps known k classes → IsSweep after resets steps known k classes
sweep_merged nodes after resets steps known k classes on = sweep_later nodes after resets steps known k classes (merged_is_later nodes after on)

-- other literals of the step's frames, over the same leaves, on a graph that grew
sweep_of : (nodes after : List Node) (resets steps reached : Mapping) (known : Known) (k : ℕ) (classes : Classes) → GrowsTo nodes after → IsMemory nodes resets steps k → length classes.least ≡ places_of resets.leaves.pair
    → reached.leaves ≡ steps.leaves → reached.depth ≡ k → IsStepMap after reached classes → All (IsOwed after reached classes) known.facts → IsKept after known → IsSweep after resets reached known k classes
sweep_of nodes after resets steps reached known k classes on is places leaves depth map owed told =
    let later = memory_grown nodes after resets steps k on is in
    record {
      memory = record { reset_map = later.reset_map; shared = leaves ∙ later.shared; depth = later.depth; room = later.room };
      step_map = map;
      owed = owed;
      told = told;
      depth = depth;
      places = places;
    }

-- a version begins with nothing assumed
pub sweep_begun : (nodes after : List Node) (resets steps reached : Mapping) (known : Known) (k : ℕ) (classes : Classes) → GrowsTo nodes after → IsMemory nodes resets steps k → length classes.least ≡ places_of resets.leaves.pair
    → reached.leaves ≡ steps.leaves → reached.depth ≡ k → IsStepMap after reached classes → known ≡ record { facts = []; clauses = [] } → IsSweep after resets reached known k classes
sweep_begun nodes after resets steps reached known k classes on is places leaves depth map none =
    sweep_of nodes after resets steps reached known k classes on is places leaves depth map
    (subst (λ (n : Known). All (IsOwed after reached classes) n.facts) (sym none) (All-nil (IsOwed after reached classes)))
    (subst (IsKept after) (sym none) (record { all = All-nil (IsTold after []) }))

-- more of the step's last frame is mapped
pub sweep_reached : (nodes after : List Node) (resets steps reached : Mapping) (known : Known) (k : ℕ) (classes : Classes) → GrowsTo nodes after → IsSweep nodes resets steps known k classes → reached.leaves ≡ steps.leaves → reached.depth ≡ steps.depth
    → ((others : Classes) → IsStepMap nodes steps others → IsStepMap after reached others) → IsSweep after resets reached known k classes
sweep_reached nodes after resets steps reached known k classes on is leaves depth map =
    let later = grown_is_later nodes after on in
    sweep_of nodes after resets steps reached known k classes on is.memory is.places leaves (depth ∙ is.depth) (map classes is.step_map)
    (all_later nodes after steps reached classes known.facts later leaves depth is.owed) (kept_stays nodes after known later.size later.valuations is.told)

-- a pair passed
pub sweep_passed : (nodes : List Node) (resets steps after : Mapping) (known : Known) (k : ℕ) (classes : Classes) → IsSweep nodes resets steps known k classes → after.leaves ≡ steps.leaves → after.depth ≡ steps.depth
    → ((others : List Node) → IsStepMap others steps classes → IsStepMap others after classes) → IsSweep nodes resets after known k classes
sweep_passed nodes resets steps after known k classes is leaves depth map = record {
  memory = record { reset_map = is.memory.reset_map; shared = leaves ∙ is.memory.shared; depth = is.memory.depth; room = is.memory.room };
  step_map = map nodes is.step_map;
  owed = λ i d lt. owed_beside nodes steps after classes (get_or known.facts i d) leaves depth (is.owed i d lt);
  told = is.told;
  depth = depth ∙ is.depth;
  places = is.places;
}

-- more is assumed, or the solver was told more
pub sweep_told : (nodes : List Node) (resets steps : Mapping) (known more : Known) (k : ℕ) (classes : Classes) → IsSweep nodes resets steps known k classes → All (IsOwed nodes steps classes) more.facts → IsKept nodes more → IsSweep nodes resets steps more k classes
sweep_told nodes resets steps known more k classes is owed told = record { memory = is.memory; step_map = is.step_map; owed = owed; told = told; depth = is.depth; places = is.places }

pub sweep_assumed : (nodes : List Node) (resets steps : Mapping) (known more : Known) (k : ℕ) (classes : Classes) (p : ℕ × ℕ) → IsSweep nodes resets steps known k classes → IsOwed nodes steps classes p → (more.facts ≡ known.facts) ⊎ (more.facts ≡ known.facts ++ p ∷ []) → IsKept nodes more
    → IsSweep nodes resets steps more k classes
sweep_assumed nodes resets steps known more k classes p is owed grows told =
    let P : ℕ × ℕ → Type 0 = IsOwed nodes steps classes in
    sweep_told nodes resets steps known more k classes is
    (⊎_elim (λ (same : more.facts ≡ known.facts). subst (All P) (sym same) is.owed) (λ (one : more.facts ≡ known.facts ++ p ∷ []). subst (All P) (sym one) (All-push P known.facts p is.owed owed)) grows) told

pub sweep_asked : (nodes : List Node) (resets steps : Mapping) (known more : Known) (k : ℕ) (classes : Classes) → IsSweep nodes resets steps known k classes → more.facts ≡ known.facts → IsKept nodes more → IsSweep nodes resets steps more k classes
sweep_asked nodes resets steps known more k classes is same told = sweep_told nodes resets steps known more k classes is (subst (All (IsOwed nodes steps classes)) (sym same) is.owed) told

pub sweep_grown : (nodes after : List Node) (resets steps : Mapping) (known : Known) (k : ℕ) (classes : Classes) → GrowsTo nodes after → IsSweep nodes resets steps known k classes → IsSweep after resets steps known k classes
sweep_grown nodes after resets steps known k classes on = sweep_later nodes after resets steps known k classes (grown_is_later nodes after on)

-- a pair that is equal on the graph, or where what is assumed holds, passes
induction_is : (nodes : List Node) (resets steps : Mapping) (known : Known) (k : ℕ) (classes : Classes) → IsSweep nodes resets steps known k classes → induction_of steps classes ≡ record { pair = resets.leaves.pair; k = k; classes = classes }
induction_is nodes resets steps known k classes is = ap₂ (λ (l : Leaves) (d : ℕ). record { pair = l.pair; k = d; classes = classes }) is.memory.shared is.depth

pub passes_by : (nodes : List Node) (resets steps : Mapping) (known : Known) (k : ℕ) (classes : Classes) (i : Induction) (p : ℕ) → IsSweep nodes resets steps known k classes → record { pair = resets.leaves.pair; k = k; classes = classes } ≡ i → StepPasses (induction_of steps classes) p → StepPasses i p
passes_by nodes resets steps known k classes i p is view passes = subst (λ (j : Induction). StepPasses j p) (induction_is nodes resets steps known k classes is ∙ view) passes

pub passes_where : (nodes : List Node) (resets steps : Mapping) (known : Known) (k : ℕ) (classes : Classes) (i : Induction) (p a b : ℕ) (answer : Answer) → IsSweep nodes resets steps known k classes → record { pair = resets.leaves.pair; k = k; classes = classes } ≡ i
    → (AreEqualWhere nodes known.facts a b → StepPasses (induction_of steps classes) p) → IsAnswer nodes known.facts a b answer → answer ≡ Equal → StepPasses i p
passes_where nodes resets steps known k classes i p a b answer is view pass told equal =
    passes_by nodes resets steps known k classes i p is view (pass (subst (IsAnswer nodes known.facts a b) equal told))
