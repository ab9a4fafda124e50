-- A line whose parts were tested, and lines one after the other.
use Rattle.std.proofs.Common.{Some, ◌≡◌, ◌≢◌, ⊎_elim, ◌≤◌, ◌<◌, ◌+◌, ◌-◌, ℕ, zero, suc, ℤ, pos, negsuc, neg_ℤ, ◌*◌, Bool, true, false, List, [], ◌∷◌, ◌++◌, map, length, get_or, take, drop, sym, ◌∙◌, ap, subst, refl, arith, append_assoc, length-append}
use Rattle.std.proofs.Math.ListN.{drop_of_length-le}
use Rattle.std.proofs.lemmas.Bool.{false≢true}
use Rattle.std.proofs.lemmas.List.{append-nil, drop_more, map_more, get_or-map, get_or-take, get_or_append_left, get_or-append_right, length-take-le}
use Rattle.std.proofs.lemmas.List.Elements.{All-push, All-contains}
use Rattle.std.specs.List.{All, Contains}
use Rattle.cnf_store.specs.Clauses.{IsLiteral, AreLiterals, AreClauses, Formula}
use Rattle.sat_log.specs.Derivations.{Line, line_at, clause_at, clauses_of, LeavesOnly, Refutes, Follows, AllFollow, EndsEmpty, IsAccepted}
use Rattle.sat_log.proofs.Lists.{neg_neg, contains_neg, contains_neg_back, contains_cases}
use Rattle.log_check.specs.Marks.{code, mark_at, AreMarks}
use Rattle.log_check.specs.FirstBad.{Decides, FollowTo, IsFirstBad, clauses_before}

value_false : (b : Bool) → (b ≡ true → ⊥) → b ≡ false
value_false true n = absurd (n refl)
value_false false n = refl

-- no literal is assumed exactly where none has its complement beside it
pub free_if : (marks : List Bool) (literals : List ℤ) → AreMarks marks (map neg_ℤ literals) → All (λ l. Contains literals (neg_ℤ l) → ⊥) literals → All (λ l. mark_at marks l ≡ false) literals
free_if marks literals w none k d lt = value_false _ (λ t. none k d lt (contains_neg_back literals (get_or literals k d) (w.held _ t)))

pub free_then : (marks : List Bool) (literals : List ℤ) → AreMarks marks (map neg_ℤ literals) → All (λ l. mark_at marks l ≡ false) literals → All (λ l. Contains literals (neg_ℤ l) → ⊥) literals
free_then marks literals w free k d lt c =
    let x : ℤ = get_or literals k d in
    let h : Contains (map neg_ℤ literals) x = subst (Contains (map neg_ℤ literals)) (neg_neg x) (contains_neg literals (neg_ℤ x) c) in
    false≢true (sym (free k d lt) ∙ w.marked x h)

-- the parts of a line, by its slices
pub record IsRead (line : Line) (literals : List ℤ) (hints : List ℕ) : Type 0 where
  pub literals_are : literals ≡ line.literals
  pub hints_are : hints ≡ line.hints

pub not_within : (vars : ℕ) (db : List (List ℤ)) (line : Line) (literals : List ℤ) → literals ≡ line.literals → (AreLiterals vars literals → ⊥) → Follows vars db line → ⊥
not_within vars db line literals e n f = n (subst (AreLiterals vars) (sym e) f.within)

pub not_earlier : (vars count : ℕ) (db : List (List ℤ)) (line : Line) (hints : List ℕ) → hints ≡ line.hints → count ≡ length db → (All (λ h. (0 < h) × (h ≤ count)) hints → ⊥) → Follows vars db line → ⊥
not_earlier vars count db line hints e s n f =
    n (subst (λ (k : ℕ). All (λ h. (0 < h) × (h ≤ k)) hints) (sym s) (subst (λ (hs : List ℕ). All (λ h. (0 < h) × (h ≤ length db)) hs) (sym e) f.earlier))

pub not_free : (vars : ℕ) (db : List (List ℤ)) (line : Line) (literals assumed : List ℤ) (marks : List Bool) → literals ≡ line.literals → assumed ≡ map neg_ℤ literals → AreMarks marks assumed
    → (All (λ l. mark_at marks l ≡ false) literals → ⊥) → Follows vars db line → ⊥
not_free vars db line literals assumed marks l e w n f =
    n (free_if marks literals (subst (AreMarks marks) e w) (subst (λ (xs : List ℤ). All (λ x. Contains xs (neg_ℤ x) → ⊥) xs) (sym l) f.no_complement))

pub line_follows : (vars count : ℕ) (db : List (List ℤ)) (line : Line) (literals assumed : List ℤ) (hints : List ℕ) (marks : List Bool) (b : Bool) → literals ≡ line.literals → hints ≡ line.hints → count ≡ length db
    → assumed ≡ map neg_ℤ literals → AreMarks marks assumed → AreLiterals vars literals → All (λ h. (0 < h) × (h ≤ count)) hints → All (λ l. mark_at marks l ≡ false) literals
    → Decides b (Refutes db assumed hints) → Decides b (Follows vars db line)
line_follows vars count db line literals assumed hints marks true l h s e w within known free r = record {
  within = subst (AreLiterals vars) l within;
  no_complement = subst (λ (xs : List ℤ). All (λ x. Contains xs (neg_ℤ x) → ⊥) xs) l (free_then marks literals (subst (AreMarks marks) e w) free);
  earlier = subst (λ (k : ℕ). All (λ x. (0 < x) × (x ≤ k)) line.hints) s (subst (λ (hs : List ℕ). All (λ x. (0 < x) × (x ≤ count)) hs) h known);
  refutes = subst (λ (a : List ℤ). Refutes db a line.hints) (e ∙ ap (map neg_ℤ) l) (subst (λ (hs : List ℕ). Refutes db assumed hs) h r);
}
line_follows vars count db line literals assumed hints marks false l h s e w within known free n =
    λ f. n (subst (λ (hs : List ℕ). Refutes db assumed hs) (sym h) (subst (λ (a : List ℤ). Refutes db a line.hints) (sym (e ∙ ap (map neg_ℤ) l)) f.refutes))

-- the clauses before a line
pub length_before : (formula : Formula) (log : List Line) (i : ℕ) → i ≤ length log → length (clauses_before formula log i) ≡ length formula.clauses + i
length_before formula log i le =
    let a = length-append formula.clauses (clauses_of (take i log)) in
    let b = length_clauses (take i log) in
    let c = length-take-le i log le in
    omega arith
  where
    length_clauses : (ls : List Line) → length (clauses_of ls) ≡ length ls
    length_clauses [] = refl
    length_clauses (x ∷ ls) = ap suc (length_clauses ls)

pub none_before : (formula : Formula) (log : List Line) → clauses_before formula log 0 ≡ formula.clauses
none_before formula log = append-nil formula.clauses

pub more_before : (formula : Formula) (log : List Line) (i : ℕ) → i < length log → clauses_before formula log (i + 1) ≡ clauses_before formula log i ++ (line_at log i).literals ∷ []
more_before formula log i lt =
    ap (λ (cs : List (List ℤ)). formula.clauses ++ cs) (map_more (λ (l : Line). l.literals) log i (record { literals = []; hints = [] }) lt)
    ∙ sym (append_assoc formula.clauses (clauses_of (take i log)) ((line_at log i).literals ∷ []))

pub given_clause : (formula : Formula) (log : List Line) (i h : ℕ) → 0 < h → h ≤ length formula.clauses → clause_at (clauses_before formula log i) h ≡ get_or formula.clauses (h - 1) []
given_clause formula log i h first last = get_or_append_left formula.clauses (clauses_of (take i log)) [] (h - 1) (omega arith)

pub line_clause : (formula : Formula) (log : List Line) (i h n : ℕ) → i ≤ length log → length formula.clauses < h → h ≤ length formula.clauses + i → n ≡ h - length formula.clauses - 1
    → clause_at (clauses_before formula log i) h ≡ (line_at log n).literals
line_clause formula log i h n le first last e =
    let m : ℕ = length formula.clauses in
    let empty : Line = record { literals = []; hints = [] } in
    let k : h - 1 - m ≡ n = omega arith in
    let t = length-take-le i log le in
    get_or-append_right formula.clauses (clauses_of (take i log)) m (h - 1) [] refl (omega arith)
    ∙ ap (λ (j : ℕ). get_or (clauses_of (take i log)) j []) k
    ∙ get_or-map (λ (l : Line). l.literals) (take i log) n empty [] (omega arith)
    ∙ ap (λ (l : Line). l.literals) (get_or-take i log n empty (omega arith))

-- lines that follow, one after the other
pub one_line : (log : List Line) (i : ℕ) → i < length log → drop i log ≡ line_at log i ∷ drop (i + 1) log
one_line log i lt = drop_more log i (record { literals = []; hints = [] }) lt

pub begin_ways : (formula : Formula) (log : List Line) (n : ℕ) → FollowTo formula.vars (clauses_before formula log 0) log n → FollowTo formula.vars formula.clauses log (0 + n)
begin_ways formula log n t =
    let k : n ≡ 0 + n = omega arith in
    subst (λ (m : ℕ). FollowTo formula.vars formula.clauses log m) k (subst (λ (cs : List (List ℤ)). FollowTo formula.vars cs log n) (none_before formula log) t)

pub lines_more : (formula : Formula) (log : List Line) (i : ℕ) → i < length log → Follows formula.vars (clauses_before formula log i) (line_at log i)
    → ((n : ℕ) → FollowTo formula.vars (clauses_before formula log i) (drop i log) n → FollowTo formula.vars formula.clauses log (i + n))
    → (n : ℕ) → FollowTo formula.vars (clauses_before formula log (i + 1)) (drop (i + 1) log) n → FollowTo formula.vars formula.clauses log (i + 1 + n)
lines_more formula log i lt f ways n t =
    let k : i + suc n ≡ i + 1 + n = omega arith in
    subst (λ (m : ℕ). FollowTo formula.vars formula.clauses log m) k
    (ways (suc n) (subst (λ (ls : List Line). FollowTo formula.vars (clauses_before formula log i) ls (suc n)) (sym (one_line log i lt))
    (f, subst (λ (cs : List (List ℤ)). FollowTo formula.vars cs (drop (i + 1) log) n) (more_before formula log i lt) t)))

pub lines_stop : (formula : Formula) (log : List Line) (i : ℕ) → i < length log → (Follows formula.vars (clauses_before formula log i) (line_at log i) → ⊥)
    → ((n : ℕ) → FollowTo formula.vars (clauses_before formula log i) (drop i log) n → FollowTo formula.vars formula.clauses log (i + n)) → FollowTo formula.vars formula.clauses log i
lines_stop formula log i lt f ways =
    let k : i + 0 ≡ i = omega arith in
    subst (λ (m : ℕ). FollowTo formula.vars formula.clauses log m) k (ways 0 (subst (λ (ls : List Line). FollowTo formula.vars (clauses_before formula log i) ls 0) (sym (one_line log i lt)) f))

pub lines_end : (formula : Formula) (log : List Line) (i : ℕ) → i ≡ length log
    → ((n : ℕ) → FollowTo formula.vars (clauses_before formula log i) (drop i log) n → FollowTo formula.vars formula.clauses log (i + n)) → FollowTo formula.vars formula.clauses log (length log)
lines_end formula log i e ways =
    let k : i + 0 ≡ length log = omega arith in
    let d : drop i log ≡ [] = drop_of_length-le log (omega arith) in
    subst (λ (m : ℕ). FollowTo formula.vars formula.clauses log m) k (ways 0 (subst (λ (ls : List Line). FollowTo formula.vars (clauses_before formula log i) ls 0) (sym d) tt))

pub within_more : (formula : Formula) (log : List Line) (i : ℕ) → i < length log → AreClauses formula.vars (clauses_before formula log i) → Follows formula.vars (clauses_before formula log i) (line_at log i)
    → AreClauses formula.vars (clauses_before formula log (i + 1))
within_more formula log i lt w f = subst (AreClauses formula.vars) (sym (more_before formula log i lt)) (All-push (AreLiterals formula.vars) (clauses_before formula log i) (line_at log i).literals w f.within)

pub all_follow : (vars : ℕ) (db : List (List ℤ)) (log : List Line) (n : ℕ) → n ≡ length log → FollowTo vars db log n → AllFollow vars db log
all_follow vars db [] zero e t = tt
all_follow vars db [] (suc n) e t = tt
all_follow vars db (l ∷ ls) zero e t = absurd (omega arith)
all_follow vars db (l ∷ ls) (suc n) e t = (t.0, all_follow vars (db ++ l.literals ∷ []) ls n (omega arith) t.1)

-- a log in which a line doesn't follow is not accepted
pub stops : (vars : ℕ) (db : List (List ℤ)) (log : List Line) (n : ℕ) → FollowTo vars db log n → AllFollow vars db log → n ≡ length log
stops vars db [] zero t all = refl
stops vars db [] (suc n) t all = absurd t
stops vars db (l ∷ ls) zero t all = absurd (t all.0)
stops vars db (l ∷ ls) (suc n) t all = ap suc (stops vars (db ++ l.literals ∷ []) ls n t.1 all.1)

-- the last line
pub ends_in : (log : List Line) → 0 < length log → (line_at log (length log - 1)).literals ≡ [] → EndsEmpty log
ends_in [] lt e = absurd (omega arith)
ends_in (l ∷ []) lt e = e
ends_in (l ∷ m ∷ ls) lt e =
    let k : length (l ∷ m ∷ ls) - 1 ≡ suc (length (m ∷ ls) - 1) = omega arith in
    ends_in (m ∷ ls) (omega arith) (subst (λ (n : ℕ). (line_at (l ∷ m ∷ ls) n).literals ≡ []) k e)

pub ends_back : (log : List Line) → EndsEmpty log → (line_at log (length log - 1)).literals ≡ []
ends_back [] e = absurd e
ends_back (l ∷ []) e = e
ends_back (l ∷ m ∷ ls) e =
    let k : length (l ∷ m ∷ ls) - 1 ≡ suc (length (m ∷ ls) - 1) = omega arith in
    subst (λ (n : ℕ). (line_at (l ∷ m ∷ ls) n).literals ≡ []) (sym k) (ends_back (m ∷ ls) e)

-- a literal's mark stands in the table
pub code_within : (vars : ℕ) (l : ℤ) → IsLiteral vars l → code l < 2 * vars + 2
code_within vars (pos n) is = omega (arith, is.1)
code_within vars (negsuc n) is = omega (arith, is.1)

pub unit_within : (vars : ℕ) (assumed clause : List ℤ) (marks : List Bool) (l : ℤ) → AreLiterals vars clause → LeavesOnly assumed clause l → length marks ≡ 2 * vars + 2 → code l < length marks
unit_within vars assumed clause marks l are only size = let h = code_within vars l (All-contains (IsLiteral vars) clause l are only.inside) in omega arith

pub few_literals : (vars : ℕ) (clause : List ℤ) → vars ≤ 2147483647 → AreLiterals vars clause → AreLiterals 2147483647 clause
few_literals vars clause few are k d lt = let a = are k d lt in (a.0, omega (arith, a.1))

-- one more literal taken back
pub unmark_next : (marks now : List Bool) (assumed : List ℤ) (i : ℕ) → i < length assumed → ((x : ℤ) → mark_at marks x ≡ true → Contains (drop i assumed) x)
    → ((l : ℤ) → mark_at now l ≡ true → (l ≢ get_or assumed i (pos 0)) × (mark_at marks l ≡ true)) → (x : ℤ) → mark_at now x ≡ true → Contains (drop (i + 1) assumed) x
unmark_next marks now assumed i lt held others x t =
    let o = others x t in
    ⊎_elim (λ (e : get_or assumed i (pos 0) ≡ x). absurd (o.0 (sym e))) (λ (h : Contains (drop (i + 1) assumed) x). h)
    (contains_cases (get_or assumed i (pos 0)) x (drop (i + 1) assumed) (subst (λ (xs : List ℤ). Contains xs x) (drop_more assumed i (pos 0) lt) (held x o.1)))

pub last_decides : (log : List Line) (clause : List ℤ) (count : ℕ) (b : Bool) → (count ≡ 0 → ⊥) → count ≡ length log → clause ≡ (line_at log (count - 1)).literals → Decides b (clause ≡ []) → Decides b (EndsEmpty log)
last_decides log clause count true some e f d =
    let k : count - 1 ≡ length log - 1 = omega arith in
    ends_in log (omega arith) (sym (ap (λ (n : ℕ). (line_at log n).literals) k) ∙ sym f ∙ d)
last_decides log clause count false some e f d =
    let k : count - 1 ≡ length log - 1 = omega arith in
    λ ends. d (f ∙ ap (λ (n : ℕ). (line_at log n).literals) k ∙ ends_back log ends)

-- a first bad line means that the log isn't accepted
pub not_accepted : (formula : Formula) (log : List Line) (n : ℕ) → IsFirstBad formula log (Some n) → IsAccepted formula log → ⊥
not_accepted formula log n (t, ends) is = ends (stops formula.vars formula.clauses log n t is.follow) is.empty
