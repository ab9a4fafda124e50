-- Merges, one after another.
use Rattle.std.proofs.Common.{◌≡◌, ◌∙◌, ℕ, Bool, List, length, refl}
use Rattle.and_graph.specs.declared.node.Node.{Node}
use Rattle.and_graph.specs.Graphs.{Obeys, node_at}
use Rattle.frame_graph.specs.Laws.{IsMerged}
use Rattle.frame_graph.specs.Maps.{IsResetMap, Mapping}
use Rattle.frame_graph.proofs.Staying.{later_maps, merged_is_later}

pub nothing_merged : (nodes : List Node) → IsMerged nodes nodes
nothing_merged nodes = record { size = refl; operands = λ n. (refl, refl); valuations = λ v obeys. obeys }

pub merged_twice : (a b c : List Node) → IsMerged a b → IsMerged b c → IsMerged a c
merged_twice a b c first last = record {
  size = last.size ∙ first.size;
  operands = λ n.
      let x = first.operands n in
      let y = last.operands n in
      (y.0 ∙ x.0, y.1 ∙ x.1);
  valuations = λ v obeys. first.valuations v (last.valuations v obeys);
}

pub merged_reset : (nodes after : List Node) (m : Mapping) → IsMerged nodes after → IsResetMap nodes m → IsResetMap after m
merged_reset nodes after m is map = (later_maps nodes after m (merged_is_later nodes after is)).0 map

-- by what a merge ensures
pub merged_by : (nodes after : List Node) → length after ≡ length nodes → ((n : ℕ) → ((node_at after n).left ≡ (node_at nodes n).left) × ((node_at after n).right ≡ (node_at nodes n).right))
    → ((v : ℕ → Bool) → (Obeys nodes v → Obeys after v) × (Obeys after v → Obeys nodes v)) → IsMerged nodes after
merged_by nodes after size operands valuations = record { size = size; operands = operands; valuations = λ v obeys. (valuations v).1 obeys }
