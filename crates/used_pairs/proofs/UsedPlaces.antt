-- What the pair of two places says of literals of these places.
use Rattle.std.proofs.Common.{◌≡◌, ◌∙◌, ◌<◌, ◌≤◌, ◌/◌, ⊎_elim, ℕ, zero, suc, Bool, true, false, List, [], ◌∷◌, length, ap, sym, subst, arith, eq-eqb, ne_eqb, lt-ltb}
use Rattle.std.specs.Prelude.{min, max, if◌then◌else◌, ◌&&◌}
use Rattle.std.proofs.lemmas.Bool.{cases_eq, cases_lt}
use Rattle.circ_model.specs.Meaning.{Pair, Path, IsPath, IsSoundPair, bit, is_odd, signed, literal, row_at, places_of}
use Rattle.circ_model.specs.Correspondence.{HoldsIn}
use Rattle.circ_model.proofs.Literals.{value_of_literal}
use Rattle.class_partition.specs.declared.classes.Needed.{Needed}
use Rattle.class_partition.specs.Classes.{Classes, least_of, needed, phase_of}
use Rattle.class_partition.proofs.Signs.{both_from_relative, together_from_apart}
use Rattle.used_pairs.specs.Latches.{AreNexts, at_sign, between, phase_between}
use Rattle.used_pairs.specs.Lists.{AllHold, StepsBy, all_together, literals_of}
use Rattle.used_pairs.proofs.NextValues.{half_at_sign, latches_equal}

-- a place's bit, complemented by its phase
abbrev relative : List Bool → List Bool → ℕ → Bool
relative phase row p = signed (bit phase p) (bit row p)

-- where a pair of places holds, their bits are equal, each with its phase
relative_from_pair : (phase row : List Bool) (u : Needed) → HoldsIn row (literals_of phase u) → relative phase row u.rep ≡ relative phase row u.member
relative_from_pair phase row u h =
    let s : Bool = signed (bit phase u.rep) (bit phase u.member) in
    together_from_apart (bit phase u.rep) (bit phase u.member) (bit row u.rep) (bit row u.member) (sym (value_of_literal row u.rep false) ∙ h ∙ value_of_literal row u.member s)

-- a function that is equal at the lower and the higher of two places is equal at both
at_both : {A : Type 0} (f : ℕ → A) (p q : ℕ) → f (min p q) ≡ f (max p q) → f p ≡ f q
at_both f p q h =
    ⊎_elim
    (λ (lt : p < q). let low : min p q ≡ p = omega arith in let high : max p q ≡ q = omega arith in sym (ap f low) ∙ h ∙ ap f high)
    (λ (le : q ≤ p). let low : min p q ≡ q = omega arith in let high : max p q ≡ p = omega arith in sym (ap f high) ∙ sym h ∙ ap f low)
    (cases_lt p q)

-- a function that is equal at two places is equal at the lower and the higher one
at_ends : {A : Type 0} (f : ℕ → A) (p q : ℕ) → f p ≡ f q → f (min p q) ≡ f (max p q)
at_ends f p q h =
    ⊎_elim
    (λ (lt : p < q). let low : min p q ≡ p = omega arith in let high : max p q ≡ q = omega arith in ap f low ∙ h ∙ sym (ap f high))
    (λ (le : q ≤ p). let low : min p q ≡ q = omega arith in let high : max p q ≡ p = omega arith in ap f low ∙ sym h ∙ sym (ap f high))
    (cases_lt p q)

-- two places, the lower one first
abbrev the_pair : ℕ → ℕ → Needed
the_pair p q = record { rep = min p q; member = max p q }

-- one place makes no pair, and two places make one
between_one : (p q : ℕ) → p ≡ q → between p q ≡ []
between_one p q e = ap (λ (b : Bool). if b then [] else (the_pair p q ∷ [])) (eq-eqb p q e)

between_two : (p q : ℕ) → (p ≡ q → ⊥) → between p q ≡ (the_pair p q ∷ [])
between_two p q ne = ap (λ (b : Bool). if b then [] else (the_pair p q ∷ [])) (ne_eqb p q ne)

-- where the pair of two places holds, if they are two, their bits are equal, each with its phase
relative_from_between : (phase row : List Bool) (p q : ℕ) → AllHold phase (between p q) row → relative phase row p ≡ relative phase row q
relative_from_between phase row p q held =
    ⊎_elim
    (λ (e : p ≡ q). ap (relative phase row) e)
    (λ (ne : p ≡ q → ⊥). at_both (relative phase row) p q (relative_from_pair phase row (the_pair p q) (subst (λ (us : List Needed). AllHold phase us row) (between_two p q ne) held 0 (the_pair p q) (omega arith))))
    (cases_eq p q)

-- literals of equal phase are equal in a row in which the pair of their places holds
pub equal_by_between : (phase row : List Bool) (a b : ℕ) → HoldsIn phase (a, b) → AllHold phase (between (a / 2) (b / 2)) row → HoldsIn row (a, b)
equal_by_between phase row a b phases held =
    both_from_relative (is_odd a) (is_odd b) (bit phase (a / 2)) (bit phase (b / 2)) (bit row (a / 2)) (bit row (b / 2)) phases (relative_from_between phase row (a / 2) (b / 2) held)

-- a conjunction of tests that are true
all_true : (a b c : Bool) → a ≡ true → b ≡ true → c ≡ true → ((a && b && c) && true) ≡ true
all_true a b c ea eb ec = rw (ea, eb, ec)

-- two places of a class, as a pair, are together
between_together : (classes : Classes) (p q : ℕ) → p < length classes.least → q < length classes.least → least_of classes p ≡ least_of classes q → all_together classes (between p q) ≡ true
between_together classes p q lp lq same =
    ⊎_elim
    (λ (e : p ≡ q). ap (all_together classes) (between_one p q e))
    (λ (ne : p ≡ q → ⊥). ap (all_together classes) (between_two p q ne) ∙ all_true _ _ _ (lt-ltb (min p q) (length classes.least) (omega arith)) (lt-ltb (max p q) (length classes.least) (omega arith)) (eq-eqb _ _ (at_ends (least_of classes) p q same)))
    (cases_eq p q)

-- the places of next literals that classes pair are together
pub nexts_together : (pair : Pair) (classes : Classes) (u : Needed) (a b : ℕ) → length classes.least ≡ places_of pair → a / 2 < places_of pair → b / 2 < places_of pair → AreNexts pair classes u a b
    → all_together classes (between (a / 2) (b / 2)) ≡ true
nexts_together pair classes u a b places la lb nexts =
    between_together classes (a / 2) (b / 2) (omega arith) (omega arith) (nexts.paired.0 ∙ ap (least_of classes) (half_at_sign (phase_between classes u) b))

-- where classes pair the next literals of two latches, these are equal after each frame in which the places of the literals, as a pair, hold
step_by_nexts : (pair : Pair) (classes : Classes) (u : Needed) (a b t : ℕ) (path : Path) → IsSoundPair pair → u.rep < places_of pair → u.member < places_of pair → u.rep ≡ least_of classes u.member
    → AreNexts pair classes u a b → IsPath pair path → suc t < length path.inputs → AllHold classes.phase (between (a / 2) (b / 2)) (row_at pair path t) → HoldsIn (row_at pair path (suc t)) (needed classes u.member)
step_by_nexts pair classes u a b t path sound lr lm e nexts is lt held =
    let s : Bool = phase_between classes u in
    let here : List Bool = row_at pair path t in
    let same : between (a / 2) (b / 2) ≡ between (a / 2) (at_sign s b / 2) = ap (between (a / 2)) (sym (half_at_sign s b)) in
    let equal : HoldsIn here (a, at_sign s b) = equal_by_between classes.phase here a (at_sign s b) nexts.paired.1 (subst (λ (us : List Needed). AllHold classes.phase us here) same held) in
    subst (λ (r : ℕ). HoldsIn (row_at pair path (suc t)) (literal r false, literal u.member (signed (phase_of classes r) (phase_of classes u.member)))) e
    (latches_equal pair path t u.rep u.member a b s sound is lt lr lm nexts.rep nexts.member equal)

-- where classes pair the next literals of two latches, these step by the pair of the places of the literals, whatever the number of frames
pub steps_by_nexts : (pair : Pair) (classes : Classes) (u : Needed) (a b k : ℕ) → IsSoundPair pair → u.rep < places_of pair → u.member < places_of pair → u.rep ≡ least_of classes u.member
    → AreNexts pair classes u a b → 0 < k → StepsBy pair k classes.phase (between (a / 2) (b / 2)) (needed classes u.member)
steps_by_nexts pair classes u a b zero sound lr lm e nexts some = absurd (omega arith)
steps_by_nexts pair classes u a b (suc t) sound lr lm e nexts some = λ path is len held. step_by_nexts pair classes u a b t path sound lr lm e nexts is (omega arith) (held t (omega arith))
