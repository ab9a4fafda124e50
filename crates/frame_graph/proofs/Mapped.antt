-- Maps: how they come about, what they tell of a needed pair, and how one that passed is taken in.
use Rattle.std.proofs.Common.{◌≡◌, ◌≢◌, ◌∙◌, ◌<◌, ◌≤◌, ◌/◌, ◌+◌, ◌*◌, ℕ, Bool, true, false, List, get_or, length, set, refl, ap, ap₂, sym, subst, arith, ⊎_elim}
use Rattle.std.proofs.lemmas.Bool.{cases_eq}
use Rattle.std.proofs.lemmas.List.{get_or_default, get_or-set_other, length-set}
use Rattle.std.proofs.lemmas.Grind.{get_or-set_at}
use Rattle.circ_model.specs.Meaning.{Pair, Path, bit, literal_value, places_of, row_at, signed}
use Rattle.circ_model.specs.Correspondence.{HoldsIn}
use Rattle.circ_model.proofs.Literals.{value_of_literal}
use Rattle.class_partition.specs.Classes.{Classes, least_of, needed, phase_of}
use Rattle.and_graph.specs.declared.node.Node.{Node}
use Rattle.and_graph.specs.Graphs.{AreEqual, AreEqualWhere, GrowsTo, IsGraph, Obeys}
use Rattle.and_graph.proofs.Nodes.{obeys_before}
use Rattle.std.specs.Prelude.{All}
use Rattle.frame_graph.specs.Frames.{FrameOf, GoesOn, Stands}
use Rattle.frame_graph.specs.Inductions.{HoldsInFrame, IsRunTo, IsStepPath, StepPasses}
use Rattle.frame_graph.specs.Leaves.{AreLeaves, Leaves, Reads}
use Rattle.frame_graph.specs.Maps.{AreWithin, IsResetMap, IsStepMap, Mapping, Shows, induction_of}
use Rattle.frame_graph.specs.Owed.{IsOwed}
use Rattle.frame_graph.proofs.Going.{shows_run, stands_step}
use Rattle.frame_graph.proofs.ReadPaths.{each_path_is_read, input_within}
use Rattle.frame_graph.proofs.Showing.{same_place, shown_at}
use Rattle.frame_graph.proofs.Staying.{grown_is_later, later_leaves}

pub reset_mapped : (nodes more : List Node) (l : Leaves) (k : ℕ) (literals : List ℕ) → AreLeaves nodes l → GrowsTo nodes more → length literals ≡ k * places_of l.pair → AreWithin more literals
    → ((run : Path) (v : ℕ → Bool) → IsRunTo l.pair k run → Obeys more v → Reads l run v → Shows l.pair literals run v) → IsResetMap more (record { leaves = l; depth = k; literals = literals })
reset_mapped nodes more l k literals leaves on size within shows = record { leaves = later_leaves nodes more l (grown_is_later nodes more on) leaves; size = size; within = within; shows = shows }

-- and one frame more
pub next_mapped : (nodes more : List Node) (m : Mapping) (after : List ℕ) → IsResetMap nodes m → GrowsTo nodes more → length after ≡ (m.depth + 1) * places_of m.leaves.pair → AreWithin more after
    → GoesOn (record { leaves = m.leaves; from_reset = true; number = m.depth }) more m.literals after → IsResetMap more (record { leaves = m.leaves; depth = m.depth + 1; literals = after })
next_mapped nodes more m after is on size within goes = record {
  leaves = later_leaves nodes more m.leaves (grown_is_later nodes more on) is.leaves;
  size = size;
  within = within;
  shows = shows_run (record { leaves = m.leaves; from_reset = true; number = m.depth }) (m.depth + 1) nodes more m.literals after refl (omega arith) on goes
      (λ run v to obeys reads. let rows = to.rows in is.shows run v (record { is_run = to.is_run; rows = omega arith }) obeys reads);
}

pub step_mapped : (nodes more : List Node) (l : Leaves) (k : ℕ) (literals : List ℕ) (classes : Classes) → AreLeaves nodes l → k < l.frames → GrowsTo nodes more → length literals ≡ k * places_of l.pair → AreWithin more literals
    → ((path : Path) (v : ℕ → Bool) → IsStepPath (record { pair = l.pair; k = k; classes = classes }) path → Obeys more v → Reads l path v → Shows l.pair literals path v) → IsStepMap more (record { leaves = l; depth = k; literals = literals }) classes
step_mapped nodes more l k literals classes leaves last on size within shows = record {
  leaves = later_leaves nodes more l (grown_is_later nodes more on) leaves;
  last = last;
  before = omega arith;
  size = omega arith;
  within = within;
  shows = shows;
}

-- the last frame of a step
abbrev pub last_of : Mapping → FrameOf
last_of m = record { leaves = m.leaves; from_reset = false; number = m.depth }

-- more of its places
pub reached : (nodes more : List Node) (m : Mapping) (after : List ℕ) (classes : Classes) → GrowsTo nodes more → length m.literals ≤ length after → length after ≤ m.depth * places_of m.leaves.pair + places_of m.leaves.pair → AreWithin more after
    → GoesOn (last_of m) more m.literals after → IsStepMap nodes m classes → IsStepMap more (record m { literals = after }) classes
reached nodes more m after classes on begun part within goes is =
    let before = is.before in
    record {
      leaves = later_leaves nodes more m.leaves (grown_is_later nodes more on) is.leaves;
      last = is.last;
      before = omega arith;
      size = part;
      within = within;
      shows = λ path v step obeys reads.
          (goes.stands path v obeys
          (stands_step (last_of m) (induction_of m classes) more m.literals path v (let e : m.leaves.pair ≡ m.leaves.pair = cc in e) (λ so. absurd (let g : ⊥ = cc in g)) (omega arith) step obeys reads
          (is.shows path v step (obeys_before nodes more v on obeys) reads))).shows;
    }

-- the literals of a needed pair in a frame, as the code reads them
pub record ArePair (pair : Pair) (classes : Classes) (literals : List ℕ) (t p a b : ℕ) : Type 0 where
  pub place : p < places_of pair
  pub lower : least_of classes p ≤ p
  pub within : t * places_of pair + p < length literals
  pub least : a ≡ get_or literals (t * places_of pair + least_of classes p) 0
  pub same : b / 2 ≡ get_or literals (t * places_of pair + p) 0 / 2
  pub other : (v : ℕ → Bool) → literal_value v b ≡ signed (signed (phase_of classes (least_of classes p)) (phase_of classes p)) (literal_value v (get_or literals (t * places_of pair + p) 0))

pub pair_read : (pair : Pair) (classes : Classes) (literals slice : List ℕ) (t p a b begin : ℕ) → p < places_of pair → least_of classes p ≤ p → slice ≡ literals → begin ≡ t * places_of pair → t * places_of pair + p < length literals → a ≡ get_or slice (begin + least_of classes p) 0 → b / 2 ≡ get_or slice (begin + p) 0 / 2
    → ((v : ℕ → Bool) → literal_value v b ≡ signed (signed (phase_of classes (least_of classes p)) (phase_of classes p)) (literal_value v (get_or slice (begin + p) 0))) → ArePair pair classes literals t p a b
pair_read pair classes literals slice t p a b begin place lower read at within least same other = record {
  place = place;
  lower = lower;
  within = within;
  least = least ∙ ap₂ (λ (xs : List ℕ) (n : ℕ). get_or xs (n + least_of classes p) 0) read at;
  same = same ∙ ap₂ (λ (xs : List ℕ) (n : ℕ). get_or xs (n + p) 0 / 2) read at;
  other = λ v. other v ∙ ap₂ (λ (xs : List ℕ) (n : ℕ). signed (signed (phase_of classes (least_of classes p)) (phase_of classes p)) (literal_value v (get_or xs (n + p) 0))) read at;
}

pub pair_within : (nodes : List Node) (pair : Pair) (classes : Classes) (literals : List ℕ) (t p a b : ℕ) → ArePair pair classes literals t p a b → AreWithin nodes literals → (a / 2 < length nodes) × (b / 2 < length nodes)
pair_within nodes pair classes literals t p a b are is =
    let lower = are.lower in
    let within = are.within in
    let least = is.at (t * places_of pair + least_of classes p) (omega arith) in
    let other = is.at (t * places_of pair + p) within in
    (subst (λ (x : ℕ). x / 2 < length nodes) (sym are.least) least, subst (λ (x : ℕ). x < length nodes) (sym are.same) other)

-- where they are equal the pair holds
equal_holds : (pair : Pair) (classes : Classes) (literals : List ℕ) (t p a b : ℕ) (path : Path) (v : ℕ → Bool) → ArePair pair classes literals t p a b → Shows pair literals path v → literal_value v a ≡ literal_value v b → HoldsIn (row_at pair path t) (needed classes p)
equal_holds pair classes literals t p a b path v are shows equal =
    let row = row_at pair path t in
    let r : ℕ = least_of classes p in
    let s : Bool = signed (phase_of classes r) (phase_of classes p) in
    let lower = are.lower in
    let place = are.place in
    let within = are.within in
    value_of_literal row r false ∙ sym (shows.bits t r (omega arith) (omega arith)) ∙ ap (literal_value v) (sym are.least) ∙ equal ∙ are.other v ∙ ap (signed s) (shows.bits t p place within) ∙ sym (value_of_literal row p s)

pub base_holds : (nodes : List Node) (m : Mapping) (classes : Classes) (t p a b : ℕ) → IsGraph nodes → IsResetMap nodes m → ArePair m.leaves.pair classes m.literals t p a b → AreEqual nodes a b → HoldsInFrame (induction_of m classes) t p
base_holds nodes m classes t p a b graph is are equal run on =
    let (v, obeys, reads) = each_path_is_read nodes m.leaves run graph is.leaves in
    let rows = on.rows in
    equal_holds m.leaves.pair classes m.literals t p a b run v are (is.shows run v (record { is_run = on.is_run; rows = omega arith }) obeys reads) (equal v obeys)

pub step_holds : (nodes : List Node) (m : Mapping) (classes : Classes) (p a b : ℕ) → IsGraph nodes → IsStepMap nodes m classes → ArePair m.leaves.pair classes m.literals m.depth p a b → AreEqual nodes a b → StepPasses (induction_of m classes) p
step_holds nodes m classes p a b graph is are equal path on =
    let (v, obeys, reads) = each_path_is_read nodes m.leaves path graph is.leaves in
    equal_holds m.leaves.pair classes m.literals m.depth p a b path v are (is.shows path v on obeys reads) (equal v obeys)

-- where what is owed makes them equal it holds too
pub step_holds_where : (nodes : List Node) (m : Mapping) (classes : Classes) (owed : List (ℕ × ℕ)) (p a b : ℕ) → IsGraph nodes → IsStepMap nodes m classes → All (IsOwed nodes m classes) owed → ArePair m.leaves.pair classes m.literals m.depth p a b → AreEqualWhere nodes owed a b
    → StepPasses (induction_of m classes) p
step_holds_where nodes m classes owed p a b graph is all are equal path on =
    let (v, obeys, reads) = each_path_is_read nodes m.leaves path graph is.leaves in
    equal_holds m.leaves.pair classes m.literals m.depth p a b path v are (is.shows path v on obeys reads) (equal v obeys (λ k d lt. (all k d lt).equal path v on obeys reads))

-- a literal and what stands at its place
pub are_owed : (nodes more : List Node) (m : Mapping) (classes : Classes) (t p at a b : ℕ) → GrowsTo nodes more → t < m.depth → p < places_of m.leaves.pair → at ≡ t * places_of m.leaves.pair + p → at < length m.literals → a ≡ get_or m.literals at 0
    → ((path : Path) (v : ℕ → Bool) → Obeys more v → Stands (record { leaves = m.leaves; from_reset = false; number = t }) m.literals path v → literal_value v b ≡ bit (row_at m.leaves.pair path t) p)
    → IsStepMap nodes m classes → IsOwed more m classes (a, b)
are_owed nodes more m classes t p at a b on frame lt index within read value is = record {
  equal = λ path v step obeys reads.
      let shows = is.shows path v step (obeys_before nodes more v on obeys) reads in
      ap (literal_value v) read ∙ shown_at m.leaves.pair m.literals path v t p at shows lt index within
      ∙ sym (value path v obeys
      (stands_step (record { leaves = m.leaves; from_reset = false; number = t }) (induction_of m classes) more m.literals path v (let e : m.leaves.pair ≡ m.leaves.pair = cc in e) (λ so. absurd (let g : ⊥ = cc in g)) (omega arith) step obeys reads shows));
}

-- as the code reads it
pub owed_index : (m : Mapping) (site : FrameOf) (t p begin : ℕ) → t < m.depth → p < places_of m.leaves.pair → m.depth * places_of m.leaves.pair ≤ length m.literals → site ≡ record { leaves = m.leaves; from_reset = false; number = t } → begin ≡ site.number * places_of site.leaves.pair
    → (begin + p ≡ t * places_of m.leaves.pair + p) × (begin + p < length m.literals)
owed_index m site t p begin frame lt before is begins =
    let at : begin ≡ t * places_of m.leaves.pair = subst (λ (f : FrameOf). begin ≡ f.number * places_of f.leaves.pair) is begins in
    let less = input_within (places_of m.leaves.pair) t p m.depth frame lt in
    (omega arith, omega arith)

pub owed_read : (nodes more : List Node) (m : Mapping) (classes : Classes) (site : FrameOf) (slice items : List ℕ) (t p begin a b : ℕ) → GrowsTo nodes more → t < m.depth → p < places_of m.leaves.pair → m.depth * places_of m.leaves.pair ≤ length m.literals
    → site ≡ record { leaves = m.leaves; from_reset = false; number = t } → begin ≡ site.number * places_of site.leaves.pair → items ≡ m.literals → slice ≡ items → a ≡ get_or items (begin + p) a
    → ((path : Path) (v : ℕ → Bool) → Obeys more v → Stands site slice path v → literal_value v b ≡ bit (row_at site.leaves.pair path site.number) p) → IsStepMap nodes m classes → IsOwed more m classes (a, b)
owed_read nodes more m classes site slice items t p begin a b on frame lt before is begins view read entry value map =
    let index = owed_index m site t p begin frame lt before is begins in
    let within = index.1 in
    let here : a ≡ get_or m.literals (begin + p) 0 = entry ∙ ap (λ (xs : List ℕ). get_or xs (begin + p) a) view ∙ sym (get_or_default m.literals (begin + p) 0 a within) in
    are_owed nodes more m classes t p (begin + p) a b on frame lt index.0 within here
    (subst (λ (xs : List ℕ). (path : Path) (v : ℕ → Bool) → Obeys more v → Stands (record { leaves = m.leaves; from_reset = false; number = t }) xs path v → literal_value v b ≡ bit (row_at m.leaves.pair path t) p) (read ∙ view)
    (subst (λ (f : FrameOf). (path : Path) (v : ℕ → Bool) → Obeys more v → Stands f slice path v → literal_value v b ≡ bit (row_at f.leaves.pair path f.number) p) is value))
    map

-- a literal of the last frame, written over: it has the value of its place
shows_written : (pair : Pair) (literals : List ℕ) (path : Path) (v : ℕ → Bool) (t p lit : ℕ) → p < places_of pair → t * places_of pair + p < length literals → Shows pair literals path v → literal_value v lit ≡ bit (row_at pair path t) p
    → Shows pair (set literals (t * places_of pair + p) lit) path v
shows_written pair literals path v t p lit lt within is here = record {
  bits = λ s q less short.
      let n : ℕ = s * places_of pair + q in
      let at : ℕ = t * places_of pair + p in
      ⊎_elim
      (λ (e : n ≡ at).
      let same = same_place (places_of pair) s q t p less lt e in
      ap (literal_value v) (get_or-set_at literals at n lit 0 e within) ∙ here ∙ ap₂ (λ (u r : ℕ). bit (row_at pair path u) r) (sym same.0) (sym same.1))
      (λ (ne : n ≢ at). ap (literal_value v) (get_or-set_other literals at n lit 0 ne) ∙ is.bits s q less (omega (arith, length-set literals at lit)))
      (cases_eq n at);
}

within_written : (nodes : List Node) (literals : List ℕ) (at lit : ℕ) → at < length literals → AreWithin nodes literals → lit / 2 < length nodes → AreWithin nodes (set literals at lit)
within_written nodes literals at lit within is here = record {
  at = λ n lt. ⊎_elim
      (λ (e : n ≡ at). subst (λ (x : ℕ). x / 2 < length nodes) (sym (get_or-set_at literals at n lit 0 e within)) here)
      (λ (ne : n ≢ at). subst (λ (x : ℕ). x / 2 < length nodes) (sym (get_or-set_other literals at n lit 0 ne)) (is.at n (omega (arith, length-set literals at lit))))
      (cases_eq n at);
}

-- a pair that passed
pub passed : (nodes : List Node) (m : Mapping) (classes : Classes) (p lit : ℕ) → p < places_of m.leaves.pair → least_of classes p ≤ p → m.depth * places_of m.leaves.pair + p < length m.literals → StepPasses (induction_of m classes) p
    → lit / 2 ≡ get_or m.literals (m.depth * places_of m.leaves.pair + least_of classes p) 0 / 2
    → ((v : ℕ → Bool) (row : List Bool) → HoldsIn row (needed classes p) → literal_value v (get_or m.literals (m.depth * places_of m.leaves.pair + least_of classes p) 0) ≡ bit row (least_of classes p) → literal_value v lit ≡ bit row p)
    → IsStepMap nodes m classes → IsStepMap nodes (record m { literals = set m.literals (m.depth * places_of m.leaves.pair + p) lit }) classes
passed nodes m classes p lit lt lower within passes place value is =
    let at : ℕ = m.depth * places_of m.leaves.pair + p in
    let size = length-set m.literals at lit in
    let before = is.before in
    let part = is.size in
    let least = is.within.at (m.depth * places_of m.leaves.pair + least_of classes p) (omega arith) in
    record {
      leaves = is.leaves;
      last = is.last;
      before = omega arith;
      size = omega arith;
      within = within_written nodes m.literals at lit within is.within (omega arith);
      shows = λ path v step obeys reads.
          let shows = is.shows path v step obeys reads in
          shows_written m.leaves.pair m.literals path v m.depth p lit lt within shows
          (value v (row_at m.leaves.pair path m.depth) (passes path step) (shows.bits m.depth (least_of classes p) (omega arith) (omega arith)));
    }
