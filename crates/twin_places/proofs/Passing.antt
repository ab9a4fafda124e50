-- Classes of which each place passes are of twins.
use Rattle.std.proofs.Common.{◌≡◌, ◌∙◌, ℕ, ◌<◌, ◌/◌, All, List, length, Bool, arith, subst}
use Rattle.std.proofs.lemmas.List.FromFn.{length-map-range_with_len, get_or-map-range_with_len}
use Rattle.circ_model.specs.Meaning.{Pair, places_of}
use Rattle.circ_model.specs.Correspondence.{HoldsIn}
use Rattle.circ_model.proofs.Greatest.{closed}
use Rattle.class_partition.specs.Classes.{Classes, ArePartition, Passes, needed, needed_pairs}
use Rattle.class_partition.proofs.Partition.{needed_are_correspondence, pairs_hold}
use Rattle.twin_places.specs.Twins.{AreTwins}

-- what is true of all needed pairs is so of each
each_needed : (places : ℕ) (classes : Classes) (P : ℕ × ℕ → Type 0) → All P (needed_pairs places classes) → (p : ℕ) → p < places → P (needed classes p)
each_needed places classes P h p lt =
    let short : p < length (needed_pairs places classes) = omega (arith, length-map-range_with_len (needed classes) 0 places, lt) in
    subst P (get_or-map-range_with_len (needed classes) 0 places p p (0, 0) lt (omega arith)) (h p (0, 0) short)

pub twins_where_all_pass : (pair : Pair) (classes : Classes) → ArePartition (places_of pair) classes → ((p : ℕ) → p < places_of pair → Passes pair 1 classes p) → AreTwins pair classes
twins_where_all_pass pair classes partition passes = record {
  partition = partition;
  correspond = λ a b la lb h. closed pair 1 (needed_pairs (places_of pair) classes) a b (needed_are_correspondence pair 1 classes partition passes) (la, lb)
      (λ bits all. pairs_hold (places_of pair) classes bits (each_needed (places_of pair) classes (HoldsIn bits) all) a b la lb h);
}
