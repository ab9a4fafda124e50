-- A log's first fault is on one of its lines or the one after it.
use Rattle.std.proofs.Common.{◌≡◌, ◌≤◌, ℕ, zero, suc, ℤ, ◌+◌, Bool, true, false, List, [], ◌∷◌, ◌++◌, length, refl, ap, arith, length-append}
use Rattle.std.specs.Prelude.{Option, Some, None, unwrap_or, if◌then◌else◌}
use Rattle.cnf_store.specs.Clauses.{Formula}
use Rattle.log_check.specs.FirstBad.{FollowTo, IsFirstBad}
use Rattle.sat_log.specs.Derivations.{Line}
use Rattle.sat_log.specs.Parts.{Part, part, part_from, with_step, starts_log}
use Rattle.sat_log.specs.Texts.{step_of}
use Rattle.sat_log.specs.declared.part.Stop.{Stop}
use Rattle.sat_log.specs.declared.part.Stop.TheVariants as stops

follow_short : (vars : ℕ) (clauses : List (List ℤ)) (ls : List Line) (n : ℕ) → FollowTo vars clauses ls n → n ≤ length ls
follow_short vars clauses [] zero h = omega arith
follow_short vars clauses [] (suc n) h = absurd h
follow_short vars clauses (l ∷ ls) zero h = omega arith
follow_short vars clauses (l ∷ ls) (suc n) h = let s = follow_short vars (clauses ++ l.literals ∷ []) ls n h.1 in omega arith

abbrev Same : List Line → ℕ → Part → Type 0
Same front n x = x.line + length front ≡ n + length x.log

-- as many lines as were read
part_size : (front : List Line) (n : ℕ) (ls : List (List ℕ)) → (part_from front n ls).line + length front ≡ n + length (part_from front n ls).log
unfolding part_from
part_size front n [] = refl
part_size front n (l ∷ ls) = by (λ s. part_size (front ++ s ∷ []) (n + 1) ls) (starts_log l) (step_of l)
  where
    by : ((s : Line) → (part_from (front ++ s ∷ []) (n + 1) ls).line + length (front ++ s ∷ []) ≡ (n + 1) + length (part_from (front ++ s ∷ []) (n + 1) ls).log)
        → (b : Bool) (o : Option Line) → Same front n (if b then with_step o (part stops.Wrong n front (l ∷ ls)) (λ (s : Line). part_from (front ++ s ∷ []) (n + 1) ls) else part stops.Ends n front (l ∷ ls))
    by rest true None = refl
    by rest true (Some s) = let h = rest s in let e = length-append front (s ∷ []) in omega arith
    by rest false o = refl

pub bad_within : (formula : Formula) (first line bad : ℕ) (log : List Line) (ls rest : List (List ℕ)) (stop : Stop) (o : Option ℕ) → part_from [] first ls ≡ part stop line log rest → IsFirstBad formula log o → o ≡ Some bad → first + bad ≤ line
bad_within formula first line bad log ls rest stop None e h is = absurd cc
bad_within formula first line bad log ls rest stop (Some n) e h is =
    let same : n ≡ bad = ap (λ (x : Option ℕ). unwrap_or x 0) is in
    let short = follow_short formula.vars formula.clauses log n h.0 in
    let size = part_size [] first ls in
    let at : (part_from [] first ls).line ≡ line = ap (λ (x : Part). x.line) e in
    let many : length (part_from [] first ls).log ≡ length log = ap (λ (x : Part). length x.log) e in
    omega arith
