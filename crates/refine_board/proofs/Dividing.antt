-- What a version's split by a vector of the run is to the board.
use Rattle.std.proofs.Common.{◌≡◌, ◌<◌, ◌≤◌, ◌+◌, ℕ, Bool, List, sym, subst, arith}
use Rattle.circ_model.specs.Meaning.{Pair, IsSoundPair, places_of}
use Rattle.circ_model.specs.Correspondence.{MaySplit}
use Rattle.class_partition.specs.Classes.{Classes, ArePartition, IsSplit, class_count, split_of}
use Rattle.class_partition.proofs.Splitting.{split_is}
use Rattle.leaf_rows.specs.Laws.{SplitRowsAreRows}
use Rattle.leaf_rows.specs.Rows.{IsRowOf}
use Rattle.product_machine.specs.Cells.{cells}
use Rattle.product_machine.specs.declared.cell.Cell.{Cell}
use Rattle.verdict_stamp.specs.Versions.{Standing, Split, IsVector}
use Rattle.refine_board.specs.Running.{IsOf}

pub record Divided (places : ℕ) (before : Classes) (bits : List Bool) (after : Classes) (added : ℕ) : Type 0 where
  pub split : IsSplit places before bits after
  pub some : 1 ≤ added
  pub count : class_count places after ≡ class_count places before + added

pub divided_is : (pair : Pair) (v w : Standing) (row bits : List Bool) (added : ℕ) → w.pair ≡ pair → ArePartition (places_of pair) w.classes → bits ≡ row
    → v.classes ≡ split_of (places_of w.pair) w.classes row → class_count (places_of w.pair) v.classes ≡ class_count (places_of w.pair) w.classes + added → 0 < added
    → Divided (places_of pair) w.classes bits v.classes added
divided_is pair v w row bits added pair_is partition bits_is split count some =
    let s1 : v.classes ≡ split_of (places_of pair) w.classes row = subst (λ (p : Pair). v.classes ≡ split_of (places_of p) w.classes row) pair_is split in
    let s2 : v.classes ≡ split_of (places_of pair) w.classes bits = subst (λ (r : List Bool). v.classes ≡ split_of (places_of pair) w.classes r) (sym bits_is) s1 in
    record {
      split = subst (IsSplit (places_of pair) w.classes bits) (sym s2) (split_is (places_of pair) w.classes bits partition);
      some = omega arith;
      count = subst (λ (p : Pair). class_count (places_of p) v.classes ≡ class_count (places_of p) w.classes + added) pair_is count;
    }

pub may_of_run : (pair : Pair) (k : ℕ) (x : Split) (bits : List Bool) → bits ≡ x.bits → IsOf pair k x → IsVector x → MaySplit pair k bits
may_of_run pair k x bits e of is =
    subst (MaySplit pair k) (sym e) (subst (λ (n : ℕ). MaySplit pair n x.bits) of.1 (subst (λ (p : Pair). MaySplit p x.k x.bits) of.0 is.may))

-- its row obeys the cells of the run's pair
pub row_of_run : (pair : Pair) (k : ℕ) (x : Split) (bits : List Bool) (cs : List Cell) → SplitRowsAreRows → cs ≡ cells pair → IsSoundPair x.pair → bits ≡ x.bits → IsOf pair k x → IsVector x → IsRowOf cs bits
row_of_run pair k x bits cs law cs_is sound e of is =
    subst (λ (l : List Cell). IsRowOf l bits) (sym cs_is) (law pair k bits (subst IsSoundPair of.0 sound) (may_of_run pair k x bits e of is))
