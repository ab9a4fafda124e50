-- No fault: each needed pair has its two accepted logs.
use Rattle.std.proofs.Common.{◌≡◌, ◌∙◌, ◌<◌, ◌≤◌, ℕ, zero, suc, ◌+◌, Bool, true, false, List, [], ◌∷◌, refl, sym, subst, arith, inl, inr, ⊎_elim, true≢false}
use Rattle.std.specs.Prelude.{Option, Some, None, codes}
use Rattle.std.specs.List.{range_with_len}
use Rattle.std.proofs.lemmas.Bool.{cases_eq}
use Rattle.circ_model.specs.Meaning.{Pair}
use Rattle.class_partition.specs.Classes.{Classes, is_least}
use Rattle.cnf_store.specs.Clauses.{Formula}
use Rattle.sat_log.specs.Derivations.{Line, IsAccepted}
use Rattle.sat_log.specs.Parts.{part_from}
use Rattle.sat_log.specs.declared.part.Stop.{Stop}
use Rattle.sat_log.specs.declared.part.Stop.TheVariants as stops
use Rattle.corr_certificate.specs.declared.fault.CertKind.{CertKind}
use Rattle.corr_certificate.specs.declared.fault.Checked.TheVariants.{Yes}
use Rattle.corr_certificate.specs.Parts.{IsNo, Either, More, AfterLog, ReadsLog, begins, Begins, ReadsPart, ReadsMember, ReadsMembers, base_formula, step_formula}

-- some log of the formula is accepted
abbrev pub HasLog : Formula → Type 0
HasLog formula = (log : List Line) × IsAccepted formula log

abbrev pub IsProved : Pair → ℕ → Classes → ℕ → Type 0
IsProved pair k classes p = HasLog (base_formula pair k classes p) × HasLog (step_formula pair k classes p)

pub never : (kind : CertKind) (n : ℕ) {P : Type 0} → IsNo Yes kind n → P
never kind n e = absurd cc

yes_log : (formula : Formula) (first : ℕ) (more : More) (P : Type 0) → ((m : ℕ) (ms : List (List ℕ)) → more m ms → P)
    → (line : ℕ) (log : List Line) (rest : List (List ℕ)) (stop : Stop) → AfterLog formula first Yes more line log rest stop → HasLog formula × P
yes_log formula first more P then line log rest stops.Cut h = never _ _ h
yes_log formula first more P then line log rest stops.Wrong h = never _ _ h
yes_log formula first more P then line log rest stops.Ends (inl a) = ((log, a.0), then line rest a.1)
yes_log formula first more P then line log rest stops.Ends (inr b) = never _ _ b.2

yes_part : (pair : Pair) (keyword : List ℕ) (p : ℕ) (formula : Formula) (more : More) (P : Type 0) → ((m : ℕ) (ms : List (List ℕ)) → more m ms → P)
    → (n : ℕ) (ls : List (List ℕ)) → ReadsPart pair keyword p formula Yes more n ls → HasLog formula × P
yes_part pair keyword p formula more P then n [] h = never _ _ h
yes_part pair keyword p formula more P then n (l ∷ ls) h = by (begins pair keyword p l) h
  where
    by : (b : Option Bool) → Begins b Yes n (ReadsLog formula Yes more (n + 1) ls) → HasLog formula × P
    by None h = never _ _ h
    by (Some false) h = never _ _ h
    by (Some true) h = let r = part_from [] (n + 1) ls in yes_log formula (n + 1) more P then r.line r.log r.rest r.stop h

yes_member : (pair : Pair) (k : ℕ) (classes : Classes) (p : ℕ) (more : More) (P : Type 0) → ((m : ℕ) (ms : List (List ℕ)) → more m ms → P)
    → (n : ℕ) (ls : List (List ℕ)) → ReadsMember pair k classes p Yes more n ls → IsProved pair k classes p × P
yes_member pair k classes p more P then n ls h =
    let b = yes_part pair (codes "base ") p (base_formula pair k classes p) _ (HasLog (step_formula pair k classes p) × P)
    (λ m ms next. yes_part pair (codes "step ") p (step_formula pair k classes p) more P then m ms next) n ls h in
    ((b.0, b.1.0), b.1.1)

abbrev AreProved : Pair → ℕ → Classes → ℕ → ℕ → Type 0
AreProved pair k classes from count = (p : ℕ) → from ≤ p → p < from + count → is_least classes p ≡ false → IsProved pair k classes p

-- one more place in front
and_first : (pair : Pair) (k : ℕ) (classes : Classes) (from count : ℕ) → (is_least classes from ≡ false → IsProved pair k classes from) → AreProved pair k classes (from + 1) count → AreProved pair k classes from (suc count)
and_first pair k classes from count first rest p low high not_least =
    ⊎_elim
    (λ (e : p ≡ from). subst (IsProved pair k classes) (sym e) (first (subst (λ (q : ℕ). is_least classes q ≡ false) e not_least)))
    (λ (ne : p ≡ from → ⊥). rest p (omega arith) (omega arith) not_least)
    (cases_eq p from)

pub yes_members : (pair : Pair) (k : ℕ) (classes : Classes) (whole : Bool) (from count n : ℕ) (ls : List (List ℕ)) → ReadsMembers pair k classes whole Yes (range_with_len from count) n ls → AreProved pair k classes from count
yes_members pair k classes whole from zero n ls h = λ p low high. absurd (omega arith)
yes_members pair k classes whole from (suc count) n ls h = by (λ m ms more. yes_members pair k classes whole (from + 1) count m ms more) (is_least classes from) refl h
  where
    by : ((m : ℕ) (ms : List (List ℕ)) → ReadsMembers pair k classes whole Yes (range_with_len (from + 1) count) m ms → AreProved pair k classes (from + 1) count)
        → (b : Bool) → is_least classes from ≡ b
        → Either b (ReadsMembers pair k classes whole Yes (range_with_len (from + 1) count) n ls) (ReadsMember pair k classes from Yes (ReadsMembers pair k classes whole Yes (range_with_len (from + 1) count)) n ls)
        → AreProved pair k classes from (suc count)
    by rest true e h = and_first pair k classes from count (λ not_least. absurd (true≢false (sym e ∙ not_least))) (rest n ls h)
    by rest false e h =
        let both = yes_member pair k classes from (ReadsMembers pair k classes whole Yes (range_with_len (from + 1) count)) (AreProved pair k classes (from + 1) count) rest n ls h in
        and_first pair k classes from count (λ not_least. both.0) both.1
