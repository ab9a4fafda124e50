-- A version after a split by a vector.
use Rattle.std.proofs.Common.{◌≡◌, ◌∙◌, ◌≤◌, ◌+◌, ℕ, List, Bool, sym, subst, arith}
use Rattle.circ_model.specs.Meaning.{Pair, places_of}
use Rattle.circ_model.specs.Correspondence.{MaySplit}
use Rattle.circ_model.proofs.Greatest.{may_split_agrees}
use Rattle.class_partition.specs.Classes.{Classes, IsSplit, class_count}
use Rattle.class_partition.proofs.Partition.{split_keeps}
use Rattle.verdict_stamp.specs.Versions.{Standing, IsVersion, Split, IsVector}

pub may_of : (v w : Standing) (x : Split) (bits : List Bool) → v ≡ w → x.pair ≡ w.pair → x.k ≡ w.k → bits ≡ x.bits → IsVector x → MaySplit v.pair v.k bits
may_of v w x bits e pair k b is =
    subst (λ (z : Standing). MaySplit z.pair z.k bits) (sym e)
    (subst (λ (p : Pair). MaySplit p w.k bits) pair (subst (λ (n : ℕ). MaySplit x.pair n bits) k (subst (MaySplit x.pair x.k) (sym b) is.may)))

pub split_stays : (v : Standing) (n : ℕ) (bits : List Bool) (after : Classes) (added number : ℕ) → IsVersion v → n ≡ places_of v.pair → IsSplit n v.classes bits after → MaySplit v.pair v.k bits
    → class_count n after ≡ class_count n v.classes + added → number ≤ v.number + added → IsVersion (record { pair = v.pair; k = v.k; classes = after; number = number })
split_stays v n bits after added number is e split may count up =
    let s : IsSplit (places_of v.pair) v.classes bits after = subst (λ (m : ℕ). IsSplit m v.classes bits after) e split in
    let c : class_count (places_of v.pair) after ≡ class_count (places_of v.pair) v.classes + added = subst (λ (m : ℕ). class_count m after ≡ class_count m v.classes + added) e count in
    record {
      some = is.some;
      few = is.few;
      partition = s.partition;
      phased = s.phase ∙ is.phased;
      keeps = split_keeps v.pair v.k v.classes bits after (may_split_agrees v.pair v.k bits may) is.keeps s;
      below = let low = is.below in omega arith;
    }
