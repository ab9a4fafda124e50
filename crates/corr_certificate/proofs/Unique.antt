-- A text has one first fault, or none.
use Rattle.std.proofs.Common.{◌≡◌, ◌∙◌, ℕ, zero, suc, ℤ, ◌+◌, ◌==◌, ◌&&◌, leb, Bool, true, false, List, [], ◌∷◌, ◌++◌, length, refl, sym, ap, inl, inr}
use Rattle.std.specs.Prelude.{Option, Some, None, Result, Ok, Err, bytes_eq, codes}
use Rattle.std.specs.List.{range_with_len}
use Rattle.circ_model.specs.Meaning.{Pair, places_of}
use Rattle.class_partition.specs.Classes.{Classes, is_least}
use Rattle.cnf_store.specs.Clauses.{Formula}
use Rattle.sat_log.specs.Derivations.{Line, AllFollow}
use Rattle.sat_log.specs.Parts.{part_from}
use Rattle.plain_text.specs.Pieces.{pieces, last_of}
use Rattle.sat_log.specs.declared.part.Stop.{Stop}
use Rattle.sat_log.specs.declared.part.Stop.TheVariants as stops
use Rattle.log_check.specs.FirstBad.{FollowTo, IsFirstBad}
use Rattle.corr_certificate.specs.declared.fault.CertKind.TheVariants as kinds
use Rattle.corr_certificate.specs.declared.fault.Checked.{Checked}
use Rattle.corr_certificate.specs.declared.fault.Checked.TheVariants.{Yes, No}
use Rattle.corr_certificate.specs.ClassLines.{ClassPart, none_joined, classes_from}
use Rattle.corr_certificate.specs.Parts.{IsNo, Either, More, AfterLog, ReadsLog, begins, Begins, ReadsPart, ReadsMember, ReadsEnd, ReadsMembers, base_formula, step_formula}
use Rattle.corr_certificate.specs.Certificate.{Head, head_of, ReadsBody, AfterClasses, same_bit, AfterHead, ReadsHead, IsChecked}

-- how many lines follow is one number
follow_one : (vars : ℕ) (clauses : List (List ℤ)) (ls : List Line) (n m : ℕ) → FollowTo vars clauses ls n → FollowTo vars clauses ls m → n ≡ m
follow_one vars clauses [] zero zero h k = refl
follow_one vars clauses [] zero (suc m) h k = absurd k
follow_one vars clauses [] (suc n) m h k = absurd h
follow_one vars clauses (l ∷ ls) zero zero h k = refl
follow_one vars clauses (l ∷ ls) zero (suc m) h k = absurd (h k.0)
follow_one vars clauses (l ∷ ls) (suc n) zero h k = absurd (k h.0)
follow_one vars clauses (l ∷ ls) (suc n) (suc m) h k = ap suc (follow_one vars (clauses ++ l.literals ∷ []) ls n m h.1 k.1)

follow_all : (vars : ℕ) (clauses : List (List ℤ)) (ls : List Line) (n : ℕ) → AllFollow vars clauses ls → FollowTo vars clauses ls n → n ≡ length ls
follow_all vars clauses [] zero all h = refl
follow_all vars clauses [] (suc n) all h = absurd h
follow_all vars clauses (l ∷ ls) zero all h = absurd (h all.0)
follow_all vars clauses (l ∷ ls) (suc n) all h = ap suc (follow_all vars (clauses ++ l.literals ∷ []) ls n all.1 h.1)

not_both : (formula : Formula) (ls : List Line) (n : ℕ) → IsFirstBad formula ls None → IsFirstBad formula ls (Some n) → ⊥
not_both formula ls n ok bad = bad.1 (follow_all formula.vars formula.clauses ls n ok.follow bad.0) ok.empty

-- two answers of what follows are one
abbrev Agree : Checked → Checked → More → More → Type 0
Agree r s f g = (m : ℕ) (ms : List (List ℕ)) → f m ms → g m ms → r ≡ s

one_log : (formula : Formula) (first : ℕ) (r s : Checked) (f g : More) → Agree r s f g → (line : ℕ) (log : List Line) (rest : List (List ℕ)) (stop : Stop)
    → AfterLog formula first r f line log rest stop → AfterLog formula first s g line log rest stop → r ≡ s
one_log formula first r s f g same line log rest stops.Cut h k = h ∙ sym k
one_log formula first r s f g same line log rest stops.Wrong h k = h ∙ sym k
one_log formula first r s f g same line log rest stops.Ends (inl a) (inl b) = same line rest a.1 b.1
one_log formula first r s f g same line log rest stops.Ends (inl a) (inr (n, bad, e)) = absurd (not_both formula log n a.0 bad)
one_log formula first r s f g same line log rest stops.Ends (inr (n, bad, e)) (inl b) = absurd (not_both formula log n b.0 bad)
one_log formula first r s f g same line log rest stops.Ends (inr (n, bad, e)) (inr (m, worse, d)) =
    e ∙ ap (λ (i : ℕ). No (record { kind = kinds.Derivation; line = first + i })) (follow_one formula.vars formula.clauses log n m bad.0 worse.0) ∙ sym d

one_part : (pair : Pair) (keyword : List ℕ) (p : ℕ) (formula : Formula) (r s : Checked) (f g : More) → Agree r s f g
    → Agree r s (ReadsPart pair keyword p formula r f) (ReadsPart pair keyword p formula s g)
one_part pair keyword p formula r s f g same n [] h k = h ∙ sym k
one_part pair keyword p formula r s f g same n (l ∷ ls) h k = by (begins pair keyword p l) h k
  where
    by : (b : Option Bool) → Begins b r n (ReadsLog formula r f (n + 1) ls) → Begins b s n (ReadsLog formula s g (n + 1) ls) → r ≡ s
    by None h k = h ∙ sym k
    by (Some false) h k = h ∙ sym k
    by (Some true) h k = let x = part_from [] (n + 1) ls in one_log formula (n + 1) r s f g same x.line x.log x.rest x.stop h k

one_member : (pair : Pair) (k : ℕ) (classes : Classes) (p : ℕ) (r s : Checked) (f g : More) → Agree r s f g
    → Agree r s (ReadsMember pair k classes p r f) (ReadsMember pair k classes p s g)
one_member pair k classes p r s f g same =
    one_part pair (codes "base ") p (base_formula pair k classes p) r s (ReadsPart pair (codes "step ") p (step_formula pair k classes p) r f) (ReadsPart pair (codes "step ") p (step_formula pair k classes p) s g)
    (one_part pair (codes "step ") p (step_formula pair k classes p) r s f g same)

one_end : (whole : Bool) (r s : Checked) → Agree r s (ReadsEnd whole r) (ReadsEnd whole s)
one_end whole r s n [] h k = h ∙ sym k
one_end whole r s n (l ∷ ls) h k = by (bytes_eq l (codes "end")) ((length ls == 0) && whole) h k
  where
    by : (a b : Bool) → Either a (Either b (r ≡ Yes) (IsNo r kinds.Line (n + 1))) (IsNo r kinds.Line n) → Either a (Either b (s ≡ Yes) (IsNo s kinds.Line (n + 1))) (IsNo s kinds.Line n) → r ≡ s
    by true true h k = h ∙ sym k
    by true false h k = h ∙ sym k
    by false b h k = h ∙ sym k

one_members : (pair : Pair) (k : ℕ) (classes : Classes) (whole : Bool) (r s : Checked) (ps : List ℕ) → Agree r s (ReadsMembers pair k classes whole r ps) (ReadsMembers pair k classes whole s ps)
one_members pair k classes whole r s [] n ls h i = one_end whole r s n ls h i
one_members pair k classes whole r s (p ∷ ps) n ls h i = by (one_members pair k classes whole r s ps) (is_least classes p) h i
  where
    by : Agree r s (ReadsMembers pair k classes whole r ps) (ReadsMembers pair k classes whole s ps) → (b : Bool)
        → Either b (ReadsMembers pair k classes whole r ps n ls) (ReadsMember pair k classes p r (ReadsMembers pair k classes whole r ps) n ls)
        → Either b (ReadsMembers pair k classes whole s ps n ls) (ReadsMember pair k classes p s (ReadsMembers pair k classes whole s ps) n ls) → r ≡ s
    by same true h i = same n ls h i
    by same false h i = one_member pair k classes p r s (ReadsMembers pair k classes whole r ps) (ReadsMembers pair k classes whole s ps) same n ls h i

one_body : (pair : Pair) (k : ℕ) (classes : Classes) (whole : Bool) (r s : Checked) → Agree r s (ReadsBody pair k classes whole r) (ReadsBody pair k classes whole s)
one_body pair k classes whole r s n [] h i = h ∙ sym i
one_body pair k classes whole r s n (l ∷ ls) (inl h) (inl i) = one_members pair k classes whole r s (range_with_len 0 (places_of pair)) n (l ∷ ls) h.1 i.1
one_body pair k classes whole r s n (l ∷ ls) (inl h) (inr i) = absurd (i.0 h.0)
one_body pair k classes whole r s n (l ∷ ls) (inr h) (inl i) = absurd (h.0 i.0)
one_body pair k classes whole r s n (l ∷ ls) (inr h) (inr i) = h.1 ∙ sym i.1

one_rest : (pair : Pair) (k : ℕ) (whole : Bool) (r s : Checked) (o : Result ClassPart ℕ) → AfterClasses pair k whole r o → AfterClasses pair k whole s o → r ≡ s
one_rest pair k whole r s (Err n) h i = h ∙ sym i
one_rest pair k whole r s (Ok p) h i = one_body pair k p.classes whole r s p.line p.rest h i

one_head : (pair : Pair) (whole : Bool) (r s : Checked) (o : Option Head) (ls : List (List ℕ)) → AfterHead pair whole r o ls → AfterHead pair whole s o ls → r ≡ s
one_head pair whole r s None ls h i = h ∙ sym i
one_head pair whole r s (Some x) ls h i = by (leb 1 x.k && leb x.k 16) (x.signals == places_of pair) (same_bit x.tied pair.tied) h i
  where
    by : (a b c : Bool)
        → Either a (Either b (Either c (AfterClasses pair x.k whole r (classes_from pair (none_joined (places_of pair)) 2 ls)) (IsNo r kinds.Tie 1)) (IsNo r kinds.Signals 1)) (IsNo r kinds.Limit 1)
        → Either a (Either b (Either c (AfterClasses pair x.k whole s (classes_from pair (none_joined (places_of pair)) 2 ls)) (IsNo s kinds.Tie 1)) (IsNo s kinds.Signals 1)) (IsNo s kinds.Limit 1) → r ≡ s
    by true true true h i = one_rest pair x.k whole r s (classes_from pair (none_joined (places_of pair)) 2 ls) h i
    by true true false h i = h ∙ sym i
    by true false c h i = h ∙ sym i
    by false b c h i = h ∙ sym i

pub one_answer : (pair : Pair) (bytes : List ℕ) (r s : Checked) → IsChecked pair bytes r → IsChecked pair bytes s → r ≡ s
one_answer pair bytes r s h i = by (length (last_of 10 bytes) == 0) (pieces 10 bytes) h i
  where
    by : (whole : Bool) (ls : List (List ℕ)) → ReadsHead pair whole r ls → ReadsHead pair whole s ls → r ≡ s
    by whole [] h i = h ∙ sym i
    by whole (l ∷ ls) h i = one_head pair whole r s (head_of l) ls h i
