-- A version on the way through the splits by eight words for each place.
use Rattle.std.proofs.Common.{◌≡◌, ◌∙◌, ◌↔◌, ◌<◌, ◌≤◌, ◌+◌, ℕ, zero, suc, List, Bool, refl, ap, sym, subst, arith, ⊎_elim}
use Rattle.std.proofs.lemmas.Bool.{cases_lt}
use Rattle.circ_model.specs.Meaning.{bit, places_of, signed}
use Rattle.class_partition.specs.Classes.{Classes, ArePartition, AreTogether, HoldIn, class_count, relative}
use Rattle.class_partition.specs.Words.{rows_of, splits_of}
use Rattle.class_partition.proofs.WordRows.{HaveEqualBits}
use Rattle.sim_words.specs.Lanes.{lane}
use Rattle.sim_words.specs.Wide.{WideSimulation, narrow, stripe}
use Rattle.verdict_stamp.specs.Versions.{Standing}
use Rattle.verdict_stamp.specs.WideSplits.{wide_splits}
use Rattle.verdict_stamp.proofs.SimSplitting.{lanes_are}

-- places that are together and have equal bits, each with its phase, in the rows of the first n words of each eight
abbrev pub HaveEqualParts : ℕ → ℕ → List ℕ → Classes → ℕ → ℕ → Type 0
HaveEqualParts places n words classes p q = (j b : ℕ) → j < n → b < 64 → relative classes (lane b (stripe places j words)) p ≡ relative classes (lane b (stripe places j words)) q

pub record AreSplitByParts (n places : ℕ) (before : Classes) (words : List ℕ) (after : Classes) : Type 0 where
  pub partition : ArePartition places after
  pub phase : after.phase ≡ before.phase
  pub together : (p q : ℕ) → p < places → q < places → AreTogether after p q ↔ (AreTogether before p q × HaveEqualParts places n words before p q)

-- only the phases of classes count for what a row has
same_relative : (before after : Classes) (row : List Bool) (p : ℕ) → after.phase ≡ before.phase → relative after row p ≡ relative before row p
same_relative before after row p e = ap (λ (f : List Bool). signed (bit f p) (bit row p)) e

parts_more : (n places : ℕ) (before middle : Classes) (words : List ℕ) (p q : ℕ) → middle.phase ≡ before.phase → HaveEqualParts places n words before p q → HaveEqualBits (λ b. lane b (stripe places n words)) 0 64 middle p q
    → HaveEqualParts places (suc n) words before p q
parts_more n places before middle words p q e low here j b lt less = ⊎_elim
    (λ (h : j < n). low j b h less)
    (λ (h : n ≤ j).
    let same : j ≡ n = omega arith in
    subst (λ (i : ℕ). relative before (lane b (stripe places i words)) p ≡ relative before (lane b (stripe places i words)) q) (sym same)
    (sym (same_relative before middle (lane b (stripe places n words)) p e) ∙ here b (omega arith) less ∙ same_relative before middle (lane b (stripe places n words)) q e))
    (cases_lt j n)

last_part : (n places : ℕ) (before middle : Classes) (words : List ℕ) (p q : ℕ) → middle.phase ≡ before.phase → HaveEqualParts places (suc n) words before p q → HaveEqualBits (λ b. lane b (stripe places n words)) 0 64 middle p q
last_part n places before middle words p q e h b low less =
    same_relative before middle (lane b (stripe places n words)) p e ∙ h n b (omega arith) less ∙ sym (same_relative before middle (lane b (stripe places n words)) q e)

pub parts_are : (n places : ℕ) (before : Classes) (words : List ℕ) → ArePartition places before → AreSplitByParts n places before words (wide_splits n places before words)
unfolding wide_splits
parts_are zero places before words is = record { partition = is; phase = refl; together = λ p q lp lq. (λ h. (h, λ j b lt less. absurd (omega arith)), λ h. h.0) }
parts_are (suc n) places before words is =
    let middle : Classes = wide_splits n places before words in
    let low = parts_are n places before words is in
    let here = lanes_are places middle (stripe places n words) low.partition in
    record {
      partition = here.partition;
      phase = here.phase ∙ low.phase;
      together = λ p q lp lq. (
        λ h.
            let now = (here.together p q lp lq).0 h in
            let then = (low.together p q lp lq).0 now.0 in
            (then.0, parts_more n places before middle words p q low.phase then.1 now.1),
        λ h. (here.together p q lp lq).1 ((low.together p q lp lq).1 (h.0, λ j b lt less. h.1 j b (omega arith) less), last_part n places before middle words p q low.phase h.1),
      );
    }

-- what holds after the splits by the first n words of each eight
pub record IsSplitSoFar (before : Standing) (sim : WideSimulation) (n : ℕ) (now : Standing) : Type 0 where
  pub product : now.pair ≡ before.pair
  pub k : now.k ≡ before.k
  pub number : now.number ≡ before.number
  pub split : now.classes ≡ wide_splits n (places_of before.pair) before.classes sim.words
  pub more : class_count (places_of before.pair) before.classes ≤ class_count (places_of before.pair) now.classes
  pub none : class_count (places_of before.pair) now.classes ≡ class_count (places_of before.pair) before.classes
      → (now ≡ before) × ((j b : ℕ) → j < n → b < 64 → HoldIn (places_of before.pair) before.classes (lane b (narrow sim j).words))

pub none_so_far : (v : Standing) (sim : WideSimulation) → IsSplitSoFar v sim 0 v
unfolding wide_splits
none_so_far v sim = record { product = refl; k = refl; number = refl; split = refl; more = omega arith; none = λ e. (refl, λ j b lt less. absurd (omega arith)) }

one_more_part : (places j : ℕ) (before now next : Classes) (words : List ℕ) → now ≡ wide_splits j places before words → next ≡ splits_of places now (rows_of (stripe places j words)) → next ≡ wide_splits (j + 1) places before words
unfolding wide_splits
one_more_part places j before now next words e split =
    split ∙ ap (λ (c : Classes). splits_of places c (rows_of (stripe places j words))) e ∙ (let up : suc j ≡ j + 1 = omega arith in ap (λ (n : ℕ). wide_splits n places before words) up)

pub split_so_far : (before now next : Standing) (sim : WideSimulation) (j added : ℕ) → sim.pair ≡ before.pair → IsSplitSoFar before sim j now → next.pair ≡ now.pair → next.k ≡ now.k → next.number ≡ now.number
    → next.classes ≡ splits_of (places_of now.pair) now.classes (rows_of (narrow sim j).words) → class_count (places_of now.pair) next.classes ≡ class_count (places_of now.pair) now.classes + added
    → (added ≡ 0 → (next ≡ now) × ((b : ℕ) → b < 64 → HoldIn (places_of now.pair) now.classes (lane b (narrow sim j).words)))
    → IsSplitSoFar before sim (j + 1) next
split_so_far before now next sim j added of_sim is product k number rows count none =
    let n : places_of now.pair ≡ places_of before.pair = ap places_of is.product in
    let size : places_of sim.pair ≡ places_of before.pair = ap places_of of_sim in
    let places : ℕ = places_of before.pair in
    let rows_here : next.classes ≡ splits_of places now.classes (rows_of (stripe places j sim.words)) =
    subst (λ (m : ℕ). next.classes ≡ splits_of m now.classes (rows_of (stripe places j sim.words))) n
    (subst (λ (m : ℕ). next.classes ≡ splits_of (places_of now.pair) now.classes (rows_of (stripe m j sim.words))) size rows) in
    let count_here : class_count places next.classes ≡ class_count places now.classes + added = subst (λ (m : ℕ). class_count m next.classes ≡ class_count m now.classes + added) n count in
    let more = is.more in
    record {
      product = product ∙ is.product;
      k = k ∙ is.k;
      number = number ∙ is.number;
      split = one_more_part places j before.classes now.classes next.classes sim.words is.split rows_here;
      more = omega arith;
      none = λ e.
          let zero_here = none (omega arith) in
          let was = is.none (omega arith) in
          let same : now.classes ≡ before.classes = ap (λ (v : Standing). v.classes) was.0 in (
            zero_here.0 ∙ was.0,
            λ i b lt less. ⊎_elim
                (λ (h : i < j). was.1 i b h less)
                (λ (h : j ≤ i).
                let at : i ≡ j = omega arith in
                subst (λ (x : ℕ). HoldIn places before.classes (lane b (narrow sim x).words)) (sym at)
                (subst (λ (c : Classes). HoldIn places c (lane b (narrow sim j).words)) same (subst (λ (m : ℕ). HoldIn m now.classes (lane b (narrow sim j).words)) n (zero_here.1 b less))))
                (cases_lt i j),
          );
    }
