-- A split that adds no class.
use Rattle.std.proofs.Common.{◌≡◌, ℕ, Bool, List, arith, ⊎_elim}
use Rattle.class_partition.specs.Classes.{Classes, least_of, ArePartition, HoldIn, relative, class_count, split_of}
use Rattle.class_partition.proofs.Partition.{needed_from_relative}
use Rattle.class_partition.proofs.Splitting.{split_is}
use Rattle.class_partition.proofs.ClassCount.{one_more, same_or_not}
use Rattle.class_partition.proofs.SameClasses.{undivided}

-- the needed pairs hold in the row
pub unsplit_holds : (n : ℕ) (before : Classes) (row : List Bool) → ArePartition n before → class_count n (split_of n before row) ≡ class_count n before → HoldIn n before row
unsplit_holds n before row is e p lt =
    ⊎_elim
    (λ (same : relative before row (least_of before p) ≡ relative before row p). needed_from_relative before row p same)
    (λ (apart : relative before row (least_of before p) ≡ relative before row p → ⊥). let more = one_more n before row (split_of n before row) is (split_is n before row is) p lt apart in absurd (omega arith))
    (same_or_not (relative before row (least_of before p)) (relative before row p))

-- and the classes stay
pub unsplit_stays : (n : ℕ) (before : Classes) (row : List Bool) → ArePartition n before → class_count n (split_of n before row) ≡ class_count n before → split_of n before row ≡ before
unsplit_stays n before row is e = undivided n before row (split_of n before row) is (split_is n before row is) (unsplit_holds n before row is e)
