-- The classes of the greatest correspondence are a correspondence.
use Rattle.std.proofs.Common.{◌≡◌, ◌∙◌, ◌<◌, ◌/◌, ℕ, Bool, false, sym, ap, arith}
use Rattle.std.specs.Prelude.{slice_index_or}
use Rattle.std.proofs.lemmas.List.Elements.{All-contains, Contains-get_or}
use Rattle.circ_model.specs.Meaning.{Pair, places_of, literal, row_at, signed}
use Rattle.circ_model.specs.Correspondence.{HoldsIn, Corresponds}
use Rattle.circ_model.proofs.Literals.{half_literal}
use Rattle.class_partition.specs.Classes.{Classes, ArePartition, AreOfGreatest, IsStable, least_of, needed, phase_of}
use Rattle.class_partition.proofs.Partition.{needed_from_relative, agrees_where_they_hold}
use Rattle.class_partition.proofs.Signs.{signed-self}

needed_corresponds : (pair : Pair) (k : ℕ) (c : Classes) (p : ℕ) → ArePartition (places_of pair) c → AreOfGreatest pair k c → p < places_of pair → Corresponds pair k (needed c p).0 (needed c p).1
needed_corresponds pair k c p partition g lt =
    let r : ℕ = least_of c p in
    let low = partition.lower p lt in
    let s : Bool = signed (phase_of c r) (phase_of c p) in
    let a : literal r false / 2 ≡ r = half_literal r false in
    let b : literal p s / 2 ≡ p = half_literal p s in
    g.reaches (literal r false) (literal p s) (omega arith) (omega arith)
    (ap (least_of c) a ∙ partition.fixed p lt ∙ sym (ap (least_of c) b), needed_from_relative c c.phase p (signed-self (phase_of c r) ∙ sym (signed-self (phase_of c p))))

pub greatest_stable : (pair : Pair) (k : ℕ) (c : Classes) → ArePartition (places_of pair) c → AreOfGreatest pair k c → IsStable pair k c
greatest_stable pair k c partition g = record {
  base = λ run is rows t lt p less.
      let (pairs, corr, has) = needed_corresponds pair k c p partition g less in
      All-contains (HoldsIn (row_at pair run t)) pairs (needed c p) (corr.base run is rows t lt) has;
  step = λ path is rows hold p less.
      let (pairs, corr, has) = needed_corresponds pair k c p partition g less in
      All-contains (HoldsIn (row_at pair path k)) pairs (needed c p) (corr.step path is rows (λ t lt i d short.
      let q : ℕ × ℕ = slice_index_or pairs i d in
      agrees_where_they_hold pair k c (row_at pair path t) g.keeps (hold t lt) q.0 q.1 (pairs, corr, Contains-get_or pairs i d short))) has;
}
