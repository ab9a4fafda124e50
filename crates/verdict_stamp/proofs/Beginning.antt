-- The first version: the state and the row of frame 0 of the run with all inputs and all free latches 0.
use Rattle.std.proofs.Common.{◌≡◌, ◌∙◌, ◌<◌, ◌≤◌, ℕ, refl, List, Bool, false, length, map, replicate, ap₂, sym, arith, slice_index_or}
use Rattle.std.proofs.lemmas.List.{length-map, get_or-map, ext_get_or}
use Rattle.circ_model.specs.declared.netlist.Reset.TheVariants.{Free}
use Rattle.circ_model.specs.Meaning.{Pair, bit, latches_of, places_of, resets, row, state_at}
use Rattle.circ_model.specs.Runs.{first_bit, phases}
use Rattle.circ_model.proofs.Paths.{length_resets}
use Rattle.circ_model.proofs.Rows.{some_place}
use Rattle.class_partition.specs.Classes.{ArePartition, one_class}
use Rattle.class_partition.proofs.ClassCount.{count_positive}
use Rattle.class_partition.proofs.Partition.{one_class_keeps}
use Rattle.verdict_stamp.specs.Versions.{IsVersion, first_version}

pub first_state_is : (pair : Pair) (state : List Bool) → length state ≡ latches_of pair → ((k : ℕ) → k < latches_of pair → bit state k ≡ first_bit (slice_index_or (resets pair) k Free)) → state ≡ map first_bit (resets pair)
first_state_is pair state size bits =
    let n : length (resets pair) ≡ latches_of pair = length_resets pair in
    ext_get_or false state (map first_bit (resets pair)) (omega (arith, size, n, length-map (resets pair) first_bit))
    (λ k lt. bits k (omega (arith, size)) ∙ sym (get_or-map first_bit (resets pair) k Free false (omega (arith, size, n))))

pub phases_are : (pair : Pair) (state inputs : List Bool) → state ≡ map first_bit (resets pair) → inputs ≡ replicate (length pair.left.inputs) false → row pair state inputs ≡ phases pair
unfolding state_at
phases_are pair state inputs s i = ap₂ (row pair) s i

pub first_is : (pair : Pair) (k : ℕ) → 0 < k → k ≤ 16 → ArePartition (places_of pair) (one_class (phases pair)) → IsVersion (first_version pair k)
first_is pair k some few partition = record {
  some = some;
  few = few;
  partition = partition;
  phased = refl;
  keeps = one_class_keeps pair k;
  below = count_positive (places_of pair) (one_class (phases pair)) partition (some_place pair);
}
