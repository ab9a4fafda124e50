-- What the pairs of a reached log's clauses are, once they are listed.
use Rattle.std.proofs.Common.{◌≡◌, ◌∙◌, ◌<◌, ℕ, Bool, List, length, sym, ap, subst}
use Rattle.circ_model.specs.Meaning.{Pair, IsSoundPair, places_of}
use Rattle.class_partition.specs.declared.classes.Needed.{Needed}
use Rattle.class_partition.specs.Classes.{Classes, ArePartition, needed}
use Rattle.cnf_store.specs.Clauses.{Formula}
use Rattle.sat_log.specs.Derivations.{Line}
use Rattle.log_check.specs.Reached.{AreReached, SatisfiesMarked}
use Rattle.frame_unroll.specs.Members.{member_pairs}
use Rattle.frame_unroll.specs.Unrolled.{Unrolling, formula_of}
use Rattle.used_pairs.specs.Lists.{StepsBy}
use Rattle.used_pairs.specs.Logs.{AreMembers, AreUsed, pairs_with, step_asked}
use Rattle.used_pairs.proofs.Listing.{used_are}
use Rattle.used_pairs.proofs.Passing.{steps_by}

module _ (pair : Pair) (k : ℕ) (classes : Classes) (m : ℕ) (log : List Line) (u : Unrolling) (f : Formula) (marks bits : List Bool) (places : ℕ) (items l : List Needed) (asked : u ≡ step_asked pair k classes m) (are : f ≡ formula_of u)
    (is : ArePartition places classes) (count : places ≡ length classes.least) (size : length classes.least ≡ places_of pair) (reached : AreReached (length f.clauses) log (length f.clauses) marks)
    (members : AreMembers u marks (length marks) places bits) (made : items ≡ pairs_with classes bits (length classes.least)) (kept : l ≡ items) where
  reached_of : AreReached (length (formula_of (step_asked pair k classes m)).clauses) log (length (formula_of (step_asked pair k classes m)).clauses) marks
  reached_of = subst (λ (g : Formula). AreReached (length g.clauses) log (length g.clauses) marks) (are ∙ ap formula_of asked) reached

  pub list_used : AreUsed classes (step_asked pair k classes m) log l
  list_used =
      let of_places = subst (λ (n : ℕ). AreMembers (step_asked pair k classes m) marks (length marks) n bits) count (subst (λ (v : Unrolling). AreMembers v marks (length marks) places bits) asked members) in
      let all = ap (λ (n : ℕ). member_pairs n classes) (sym size) in
      subst (AreUsed classes (step_asked pair k classes m) log) (sym (kept ∙ made))
      (used_are classes (step_asked pair k classes m) log marks bits (subst (λ (n : ℕ). ArePartition n classes) count is) all reached_of of_places)

  pub list_steps : IsSoundPair pair → m < places_of pair → ((row : List Bool) → SatisfiesMarked row f.clauses marks → ⊥) → StepsBy pair k classes.phase l (needed classes m)
  list_steps sound lt refuted =
      steps_by pair k classes m log l marks sound (subst (λ (n : ℕ). ArePartition n classes) (count ∙ size) is) lt list_used reached_of
      (subst (λ (g : Formula). (row : List Bool) → SatisfiesMarked row g.clauses marks → ⊥) (are ∙ ap formula_of asked) refuted)
