-- What a map says of a graph it says of later ones.
use Rattle.std.proofs.Common.{◌∙◌, ◌+◌, ℕ, List, ap, arith}
use Rattle.class_partition.specs.Classes.{Classes, Passes}
use Rattle.and_graph.specs.declared.node.Node.{Node}
use Rattle.and_graph.specs.Graphs.{GrowsTo}
use Rattle.and_graph.proofs.Nodes.{obeys_before}
use Rattle.frame_graph.specs.Inductions.{BasePasses, Induction, StepPasses}
use Rattle.frame_graph.specs.Laws.{IsLater, IsMerged}
use Rattle.frame_graph.specs.Leaves.{AreLeaves, Leaves}
use Rattle.frame_graph.specs.Maps.{AreWithin, IsResetMap, IsStepMap, Mapping}
use Rattle.frame_graph.specs.Owed.{IsOwed}

pub grown_is_later : (nodes after : List Node) → GrowsTo nodes after → IsLater nodes after
grown_is_later nodes after on = record {
  size = on.size;
  operands = λ n lt. let e = on.same n lt in (ap (λ (x : Node). x.left) e, ap (λ (x : Node). x.right) e);
  valuations = λ v obeys. obeys_before nodes after v on obeys;
}

pub merged_is_later : (nodes after : List Node) → IsMerged nodes after → IsLater nodes after
merged_is_later nodes after is = record {
  size = let s = is.size in omega arith;
  operands = λ n lt. is.operands n;
  valuations = is.valuations;
}

pub later_twice : (nodes middle after : List Node) → IsLater nodes middle → IsLater middle after → IsLater nodes after
later_twice nodes middle after first second = record {
  size = let s = first.size in let t = second.size in omega arith;
  operands = λ n lt. let s = first.size in let was = first.operands n lt in let is = second.operands n (omega arith) in (is.0 ∙ was.0, is.1 ∙ was.1);
  valuations = λ v obeys. first.valuations v (second.valuations v obeys);
}

pub later_leaves : (nodes after : List Node) (l : Leaves) → IsLater nodes after → AreLeaves nodes l → AreLeaves after l
later_leaves nodes after l later is =
    let s = later.size in
    let room = is.room in
    record {
      some = is.some;
      room = omega arith;
      each = λ j lt. let same = later.operands (l.first + j) (omega arith) in let leaf = is.each j lt in (same.0 ∙ leaf.0, same.1 ∙ leaf.1);
    }

pub later_within : (nodes after : List Node) (literals : List ℕ) → IsLater nodes after → AreWithin nodes literals → AreWithin after literals
later_within nodes after literals later is = let s = later.size in record { at = λ n lt. let h = is.at n lt in omega arith }

later_reset : (nodes after : List Node) (m : Mapping) → IsLater nodes after → IsResetMap nodes m → IsResetMap after m
later_reset nodes after m later is = record {
  leaves = later_leaves nodes after m.leaves later is.leaves;
  size = is.size;
  within = later_within nodes after m.literals later is.within;
  shows = λ run v on obeys reads. is.shows run v on (later.valuations v obeys) reads;
}

later_step : (nodes after : List Node) (m : Mapping) → IsLater nodes after → (classes : Classes) → IsStepMap nodes m classes → IsStepMap after m classes
later_step nodes after m later classes is = record {
  leaves = later_leaves nodes after m.leaves later is.leaves;
  last = is.last;
  before = is.before;
  size = is.size;
  within = later_within nodes after m.literals later is.within;
  shows = λ path v on obeys reads. is.shows path v on (later.valuations v obeys) reads;
}

pub later_maps : (nodes after : List Node) (m : Mapping) → IsLater nodes after → (IsResetMap nodes m → IsResetMap after m) × ((classes : Classes) → IsStepMap nodes m classes → IsStepMap after m classes)
later_maps nodes after m later = (later_reset nodes after m later, later_step nodes after m later)

pub both_halves : (i : Induction) (p : ℕ) → BasePasses i p → StepPasses i p → Passes i.pair i.k i.classes p
both_halves i p base step = record {
  base = λ run is rows t lt. base t lt run (record { is_run = is; rows = rows });
  step = λ path is rows hold. step path (record { is_path = is; rows = rows; hold = hold });
}

pub later_owed : (nodes after : List Node) (m : Mapping) (classes : Classes) (p : ℕ × ℕ) → IsLater nodes after → IsOwed nodes m classes p → IsOwed after m classes p
later_owed nodes after m classes p later is = record { equal = λ path v on obeys reads. is.equal path v on (later.valuations v obeys) reads }
