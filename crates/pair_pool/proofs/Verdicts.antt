-- Outcomes, by the classes of the greatest correspondence.
use Rattle.std.proofs.Common.{◌≡◌, ◌≢◌, ◌∙◌, ℕ, List, [], length, sym, ap, subst}
use Rattle.circ_model.specs.Meaning.{Pair, IsSoundPair, outputs_of, places_of}
use Rattle.circ_model.specs.Verdict.{AgreeBelow, Equivalent, Undecided, IsVerdict}
use Rattle.class_partition.specs.Classes.{Classes, ArePartition, AreOfGreatest, class_count}
use Rattle.class_partition.proofs.Verdicts.{is_equivalent, is_undecided}
use Rattle.pair_pool.specs.Unpaired.{AreLeftOut}
use Rattle.pair_pool.proofs.LeftOut.{all_paired}

-- the number of classes, over the places of the pair
count_is : (pair : Pair) (classes : Classes) (n : ℕ) → ArePartition (places_of pair) classes → n ≡ class_count (length classes.least) classes → n ≡ class_count (places_of pair) classes
count_is pair classes n partition is = is ∙ ap (λ (m : ℕ). class_count m classes) partition.least_len

pub equivalent_outcome : (pair : Pair) (k : ℕ) (classes : Classes) (u : List ℕ) (n : ℕ) → IsSoundPair pair → ArePartition (places_of pair) classes → AreOfGreatest pair k classes
    → AreLeftOut pair classes (outputs_of pair) u → length u ≡ 0 → n ≡ class_count (length classes.least) classes → IsVerdict pair k k (Equivalent n)
equivalent_outcome pair k classes u n sound partition greatest out none is =
    subst (λ (m : ℕ). IsVerdict pair k k (Equivalent m)) (sym (count_is pair classes n partition is))
    (is_equivalent pair k k classes sound partition greatest (all_paired pair classes u out none))

pub undecided_outcome : (pair : Pair) (k : ℕ) (classes : Classes) (u : List ℕ) (n : ℕ) → IsSoundPair pair → ArePartition (places_of pair) classes → AreOfGreatest pair k classes → AgreeBelow pair k
    → AreLeftOut pair classes (outputs_of pair) u → u ≢ [] → n ≡ class_count (length classes.least) classes → IsVerdict pair k k (Undecided n u)
undecided_outcome pair k classes u n sound partition greatest agree out some is =
    subst (λ (m : ℕ). IsVerdict pair k k (Undecided m u)) (sym (count_is pair classes n partition is))
    (is_undecided pair k k classes u sound partition greatest agree some out.rising out.unpaired out.others)
