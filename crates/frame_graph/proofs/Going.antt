-- Literals that are added place by place, and frame by frame.
use Rattle.std.proofs.Common.{◌≡◌, ◌∙◌, ◌<◌, ◌≤◌, ◌+◌, ◌*◌, ◌++◌, ◌∷◌, [], ℕ, Bool, List, length, refl, sym, subst, arith}
use Rattle.std.specs.Prelude.{IsTrue}
use Rattle.circ_model.specs.Meaning.{Pair, Path, IsPath, bit, literal_value, places_of, row_at}
use Rattle.class_partition.specs.Classes.{Classes, HoldIn}
use Rattle.and_graph.specs.declared.node.Node.{Node}
use Rattle.and_graph.specs.Graphs.{GrowsTo, Obeys}
use Rattle.and_graph.proofs.Nodes.{obeys_before}
use Rattle.frame_graph.specs.Frames.{FrameOf, GoesOn, GoesOnWith, Stands}
use Rattle.frame_graph.specs.Inductions.{Induction, IsRunTo, IsStepPath}
use Rattle.frame_graph.specs.Leaves.{Reads}
use Rattle.frame_graph.specs.Maps.{Shows}
use Rattle.frame_graph.proofs.Showing.{stands_added}

-- one literal more, by what the code reads
pub goes_on_added : (f : FrameOf) (nodes : List Node) (literals slice : List ℕ) (p lit : ℕ) → slice ≡ literals → p < places_of f.leaves.pair → length literals ≡ f.number * places_of f.leaves.pair + p
    → ((path : Path) (v : ℕ → Bool) → Obeys nodes v → Stands f slice path v → literal_value v lit ≡ bit (row_at f.leaves.pair path f.number) p) → GoesOn f nodes literals (literals ++ lit ∷ [])
goes_on_added f nodes literals slice p lit read lt size value = record {
  stands = λ path v obeys is. stands_added f literals path v p lit lt size is (value path v obeys (subst (λ (xs : List ℕ). Stands f xs path v) (sym read) is));
}

pub goes_on_with_added : (f : FrameOf) (classes : Classes) (nodes : List Node) (literals slice : List ℕ) (p lit : ℕ) → slice ≡ literals → p < places_of f.leaves.pair → length literals ≡ f.number * places_of f.leaves.pair + p
    → ((path : Path) (v : ℕ → Bool) → HoldIn (places_of f.leaves.pair) classes (row_at f.leaves.pair path f.number) → Stands f slice path v → literal_value v lit ≡ bit (row_at f.leaves.pair path f.number) p)
    → GoesOnWith f classes nodes literals (literals ++ lit ∷ [])
goes_on_with_added f classes nodes literals slice p lit read lt size value = record {
  stands = λ path v obeys hold is. stands_added f literals path v p lit lt size is (value path v hold (subst (λ (xs : List ℕ). Stands f xs path v) (sym read) is));
}

pub nothing_added : (f : FrameOf) (nodes : List Node) (literals : List ℕ) → GoesOn f nodes literals literals
nothing_added f nodes literals = record { stands = λ path v obeys is. is }

pub nothing_added_with : (f : FrameOf) (classes : Classes) (nodes : List Node) (literals : List ℕ) → GoesOnWith f classes nodes literals literals
nothing_added_with f classes nodes literals = record { stands = λ path v obeys hold is. is }

-- what is so on each path is so where the classes hold
pub goes_anyway : (f : FrameOf) (classes : Classes) (nodes : List Node) (before after : List ℕ) → GoesOn f nodes before after → GoesOnWith f classes nodes before after
goes_anyway f classes nodes before after goes = record { stands = λ path v obeys hold is. goes.stands path v obeys is }

-- one after another, while the graph grows
pub goes_twice : (f : FrameOf) (nodes more : List Node) (a b c : List ℕ) → GrowsTo nodes more → GoesOn f nodes a b → GoesOn f more b c → GoesOn f more a c
goes_twice f nodes more a b c on first last = record { stands = λ path v obeys is. last.stands path v obeys (first.stands path v (obeys_before nodes more v on obeys) is) }

pub goes_twice_with : (f : FrameOf) (classes : Classes) (nodes more : List Node) (a b c : List ℕ) → GrowsTo nodes more → GoesOnWith f classes nodes a b → GoesOnWith f classes more b c → GoesOnWith f classes more a c
goes_twice_with f classes nodes more a b c on first last = record { stands = λ path v obeys hold is. last.stands path v obeys hold (first.stands path v (obeys_before nodes more v on obeys) hold is) }

pub grows_twice : (a b c : List Node) → GrowsTo a b → GrowsTo b c → GrowsTo a c
grows_twice a b c first last =
    let s = first.size in
    let t = last.size in
    record { size = omega arith; same = λ n lt. last.same n (omega arith) ∙ first.same n lt }

-- another frame of the runs from reset
pub shows_run : (f : FrameOf) (k : ℕ) (nodes more : List Node) (before after : List ℕ) → IsTrue f.from_reset → f.number < k → GrowsTo nodes more → GoesOn f more before after
    → ((run : Path) (v : ℕ → Bool) → IsRunTo f.leaves.pair k run → Obeys nodes v → Reads f.leaves run v → Shows f.leaves.pair before run v)
    → (run : Path) (v : ℕ → Bool) → IsRunTo f.leaves.pair k run → Obeys more v → Reads f.leaves run v → Shows f.leaves.pair after run v
shows_run f k nodes more before after reset lt on goes shows run v is obeys reads =
    let rows = is.rows in
    (goes.stands run v obeys (record {
      is_path = is.is_run.is_path;
      frame = omega arith;
      reset = λ yes. is.is_run;
      low = obeys.low;
      reads = reads;
      shows = shows run v is (obeys_before nodes more v on obeys) reads;
    })).shows

-- a step's frame
pub stands_step : (f : FrameOf) (i : Induction) (nodes : List Node) (literals : List ℕ) (path : Path) (v : ℕ → Bool) → i.pair ≡ f.leaves.pair → (IsTrue f.from_reset → ⊥) → f.number ≤ i.k → IsStepPath i path → Obeys nodes v → Reads f.leaves path v
    → Shows f.leaves.pair literals path v → Stands f literals path v
stands_step f i nodes literals path v same reset le is obeys reads shows =
    let rows = is.rows in
    record {
      is_path = subst (λ (x : Pair). IsPath x path) same is.is_path;
      frame = omega arith;
      reset = λ yes. absurd (reset yes);
      low = obeys.low;
      reads = reads;
      shows = shows;
    }

-- another frame of a step, in which the classes hold
pub shows_step : (f : FrameOf) (k : ℕ) (classes : Classes) (nodes more : List Node) (before after : List ℕ) → (IsTrue f.from_reset → ⊥) → f.number < k → GrowsTo nodes more → GoesOnWith f classes more before after
    → ((path : Path) (v : ℕ → Bool) → IsStepPath (record { pair = f.leaves.pair; k = k; classes = classes }) path → Obeys nodes v → Reads f.leaves path v → Shows f.leaves.pair before path v)
    → (path : Path) (v : ℕ → Bool) → IsStepPath (record { pair = f.leaves.pair; k = k; classes = classes }) path → Obeys more v → Reads f.leaves path v → Shows f.leaves.pair after path v
shows_step f k classes nodes more before after reset lt on goes shows path v is obeys reads =
    (goes.stands path v obeys (is.hold f.number lt)
    (stands_step f (record { pair = f.leaves.pair; k = k; classes = classes }) more before path v refl reset (omega arith) is obeys reads (shows path v is (obeys_before nodes more v on obeys) reads))).shows
