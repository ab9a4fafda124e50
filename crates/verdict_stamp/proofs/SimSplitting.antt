-- A version after a split by the lanes of a simulation.
use Rattle.std.proofs.Common.{◌≡◌, ◌∙◌, ◌<◌, ◌≤◌, ◌+◌, ℕ, zero, suc, List, Bool, map, sym, subst, arith}
use Rattle.std.specs.List.{range_with_len}
use Rattle.circ_model.specs.Meaning.{Pair, places_of}
use Rattle.circ_model.specs.Correspondence.{MaySplit, MaySplit.OfRun}
use Rattle.circ_model.proofs.Greatest.{may_split_agrees}
use Rattle.class_partition.specs.Classes.{Classes, ArePartition, KeepsGreatest, class_count, split_of}
use Rattle.class_partition.specs.Words.{rows_of, splits_of}
use Rattle.class_partition.proofs.Partition.{split_keeps}
use Rattle.class_partition.proofs.Splitting.{split_is}
use Rattle.class_partition.proofs.WordRows.{AreSplitByRows, splits_are}
use Rattle.sim_words.specs.Lanes.{lane}
use Rattle.sim_words.specs.Simulation.{IsLastFrame}
use Rattle.verdict_stamp.specs.Versions.{Standing, IsVersion}

splits_keep : (pair : Pair) (k : ℕ) (row : ℕ → List Bool) (a n : ℕ) (before : Classes) → ArePartition (places_of pair) before → ((b : ℕ) → a ≤ b → b < a + n → MaySplit pair k (row b))
    → KeepsGreatest pair k before → KeepsGreatest pair k (splits_of (places_of pair) before (map row (range_with_len a n)))
unfolding splits_of
splits_keep pair k row a zero before is may keeps = keeps
splits_keep pair k row a (suc n) before is may keeps =
    let here = split_is (places_of pair) before (row a) is in
    splits_keep pair k row (a + 1) n (split_of (places_of pair) before (row a)) here.partition (λ b low high. may b (omega arith) (omega arith))
    (split_keeps pair k before (row a) (split_of (places_of pair) before (row a)) (may_split_agrees pair k (row a) (may a (omega arith) (omega arith))) keeps here)

pub lanes_are : (n : ℕ) (before : Classes) (words : List ℕ) → ArePartition n before → AreSplitByRows (λ b. lane b words) 0 64 n before (splits_of n before (rows_of words))
unfolding rows_of
lanes_are n before words is = splits_are (λ b. lane b words) 0 64 n before is

lanes_keep : (pair : Pair) (k : ℕ) (words : List ℕ) (before : Classes) → ArePartition (places_of pair) before → ((b : ℕ) → b < 64 → MaySplit pair k (lane b words)) → KeepsGreatest pair k before → KeepsGreatest pair k (splits_of (places_of pair) before (rows_of words))
unfolding rows_of
lanes_keep pair k words before is may keeps = splits_keep pair k (λ b. lane b words) 0 64 before is (λ b low lt. may b (omega arith)) keeps

pub lane_may : (pair : Pair) (k t : ℕ) (state bits : List Bool) → IsLastFrame pair t state bits → MaySplit pair k bits
lane_may pair k t state bits last = let rows = last.rows in OfRun last.run t last.is_run (omega (arith, rows)) last.row

pub sim_split_stays : (v : Standing) (words : List ℕ) (after : Classes) (added number : ℕ) → IsVersion v → after ≡ splits_of (places_of v.pair) v.classes (rows_of words) → ((b : ℕ) → b < 64 → MaySplit v.pair v.k (lane b words))
    → class_count (places_of v.pair) after ≡ class_count (places_of v.pair) v.classes + added → number ≤ v.number + added → IsVersion (record { pair = v.pair; k = v.k; classes = after; number = number })
sim_split_stays v words after added number is rows may count up =
    let lanes = lanes_are (places_of v.pair) v.classes words is.partition in
    record {
      some = is.some;
      few = is.few;
      partition = subst (ArePartition (places_of v.pair)) (sym rows) lanes.partition;
      phased = subst (λ (c : Classes). c.phase ≡ v.classes.phase) (sym rows) lanes.phase ∙ is.phased;
      keeps = subst (KeepsGreatest v.pair v.k) (sym rows) (lanes_keep v.pair v.k words v.classes is.partition may is.keeps);
      below = let low = is.below in omega arith;
    }
