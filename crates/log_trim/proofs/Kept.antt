-- The marked lines of an accepted log are accepted, and each but the last is hinted by a later one.
use Rattle.std.proofs.Common.{◌≡◌, ◌∙◌, ◌≤◌, ◌<◌, ◌+◌, ◌-◌, ℕ, zero, suc, ℤ, Bool, true, false, List, [], ◌∷◌, ◌++◌, length, get_or, map, take, leb, refl, sym, ap, subst, arith, length-append, append_assoc, inl, inr, ⊎_elim}
use Rattle.std.specs.List.{All, Contains}
use Rattle.std.proofs.lemmas.Bool.{cases_Bool, cases_lt, le-leb}
use Rattle.std.proofs.lemmas.List.{append-nil, map-append, map_more, get_or-take, get_or-map, get_or_append_left, get_or-append_right, length-take-le, take_all}
use Rattle.std.proofs.lemmas.List.Elements.{Contains-get_or}
use Rattle.cnf_store.specs.Clauses.{Formula}
use Rattle.sat_log.specs.Derivations.{Line, line_at, clause_at, clauses_of, Follows, AllFollow, EndsEmpty, IsAccepted}
use Rattle.log_check.proofs.Following.{ends_back}
use Rattle.log_trim.specs.Trimming.{Hint, IsTrimmed, IsSubsequence, is_marked, AreNeeded, new_number, renumbered}
use Rattle.log_trim.proofs.Marking.{within_marks}
use Rattle.log_trim.proofs.Renumbering.{IsRenumbered, follows_renumbered}
use Rattle.log_trim.proofs.Ranks.{rank, ranks, kept_to, rank_kept, rank_lt, line_kept, line_passed, length_kept, number_of_line, kept_at, kept_from}

abbrev empty : Line
empty = record { literals = []; hints = [] }

-- lines that follow, one after the other
follow_push : (vars : ℕ) (cs : List (List ℤ)) (ls : List Line) (l : Line) → AllFollow vars cs ls → Follows vars (cs ++ clauses_of ls) l → AllFollow vars cs (ls ++ l ∷ [])
follow_push vars cs [] l all f = (subst (λ (db : List (List ℤ)). Follows vars db l) (append-nil cs) f, tt)
follow_push vars cs (x ∷ ls) l all f =
    (all.0, follow_push vars (cs ++ x.literals ∷ []) ls l all.1 (subst (λ (db : List (List ℤ)). Follows vars db l) (sym (append_assoc cs (x.literals ∷ []) (clauses_of ls))) f))

follow_at : (vars : ℕ) (cs : List (List ℤ)) (ls : List Line) (i : ℕ) → AllFollow vars cs ls → i < length ls → Follows vars (cs ++ clauses_of (take i ls)) (line_at ls i)
follow_at vars cs [] i all lt = absurd (omega arith)
follow_at vars cs (x ∷ ls) zero all lt = subst (λ (db : List (List ℤ)). Follows vars db x) (sym (append-nil cs)) all.0
follow_at vars cs (x ∷ ls) (suc i) all lt =
    subst (λ (db : List (List ℤ)). Follows vars db (line_at ls i)) (append_assoc cs (x.literals ∷ []) (clauses_of (take i ls))) (follow_at vars (cs ++ x.literals ∷ []) ls i all.1 (omega arith))

length_clauses : (ls : List Line) → length (clauses_of ls) ≡ length ls
length_clauses [] = refl
length_clauses (x ∷ ls) = ap suc (length_clauses ls)

-- the clauses that a hint names
given_at : (cs ds es : List (List ℤ)) (h : ℕ) → 0 < h → h ≤ length cs → clause_at (cs ++ ds) h ≡ clause_at (cs ++ es) h
given_at cs ds es h first last = get_or_append_left cs ds [] (h - 1) (omega arith) ∙ sym (get_or_append_left cs es [] (h - 1) (omega arith))

past_at : (cs : List (List ℤ)) (ls : List Line) (given m h : ℕ) → length cs ≡ given → m < length ls → h ≡ given + m + 1 → clause_at (cs ++ clauses_of ls) h ≡ (line_at ls m).literals
past_at cs ls given m h len lt e =
    let place : h - 1 - given ≡ m = omega arith in
    get_or-append_right cs (clauses_of ls) given (h - 1) [] len (omega arith) ∙ ap (λ (k : ℕ). get_or (clauses_of ls) k []) place ∙ get_or-map (λ (l : Line). l.literals) ls m empty [] lt

-- a hint of a marked line names the same clause by its new number
hint_renumbered : (given : ℕ) (cs : List (List ℤ)) (lines : List Line) (marks : List Bool) (i h : ℕ) → length cs ≡ given → AreNeeded given lines marks → i < length lines → is_marked marks i ≡ true
    → Contains (line_at lines i).hints h → 0 < h → h ≤ given + i → IsRenumbered (cs ++ clauses_of (take i lines)) (cs ++ clauses_of (kept_to given lines marks i)) (new_number given (ranks marks (suc i))) h
hint_renumbered given cs lines marks i h len needed lt is inside first last =
    let new : List (List ℤ) = clauses_of (kept_to given lines marks i) in
    let old : List (List ℤ) = clauses_of (take i lines) in
    let size = length-append cs new in
    let count = length_clauses (kept_to given lines marks i) in
    let kept = length_kept given lines marks i in ⊎_elim
    (λ (past : given < h).
    let j : ℕ = h - given - 1 in
    let less : j < i = omega arith in
    let e : h ≡ given + j + 1 = omega arith in
    let marked : is_marked marks j ≡ true = needed.hinted j i less is (subst (Contains (line_at lines i).hints) e inside) in
    let n = number_of_line given marks (suc i) j h (omega arith) e in
    let r = rank_lt marks j i less marked in
    record {
      first = omega arith;
      last = omega arith;
      same = past_at cs (kept_to given lines marks i) given (rank marks j) _ len (omega arith) n ∙ ap (λ (l : Line). l.literals) (kept_at given lines marks i j less marked)
          ∙ sym (past_at cs (take i lines) given j h len (omega (arith, length-take-le i lines (omega arith))) e ∙ ap (λ (l : Line). l.literals) (get_or-take i lines j empty less));
    })
    (λ (low : h ≤ given).
    let is_low : leb h given ≡ true = le-leb h given low in
    let n : new_number given (ranks marks (suc i)) h ≡ h = rw is_low refl in
    record {
      first = omega arith;
      last = omega arith;
      same = ap (clause_at (cs ++ new)) n ∙ given_at cs new old h first (omega arith);
    })
    (cases_lt given h)

-- the marked lines follow
kept_follow : (given : ℕ) (formula : Formula) (lines : List Line) (marks : List Bool) (i : ℕ) → length formula.clauses ≡ given → AreNeeded given lines marks → AllFollow formula.vars formula.clauses lines → i ≤ length lines
    → AllFollow formula.vars formula.clauses (kept_to given lines marks i)
kept_follow given formula lines marks zero len needed all le = tt
kept_follow given formula lines marks (suc i) len needed all le =
    let cs : List (List ℤ) = formula.clauses in
    let rest = kept_follow given formula lines marks i len needed all (omega arith) in ⊎_elim
    (λ (t : is_marked marks i ≡ true).
    let follows : Follows formula.vars (cs ++ clauses_of (take i lines)) (line_at lines i) = follow_at formula.vars cs lines i all (omega arith) in
    let size = length-append cs (clauses_of (take i lines)) in
    let count = length_clauses (take i lines) in
    let taken = length-take-le i lines (omega arith) in
    let hints : List ℕ = (line_at lines i).hints in
    let each : All (IsRenumbered (cs ++ clauses_of (take i lines)) (cs ++ clauses_of (kept_to given lines marks i)) (new_number given (ranks marks (suc i)))) hints
    = λ k d lt. let earlier = follows.earlier k d lt in
    hint_renumbered given cs lines marks i (get_or hints k d) len needed (omega arith) t (Contains-get_or hints k d lt) earlier.0 (omega (arith, earlier.1)) in
    subst (AllFollow formula.vars cs) (sym (line_kept given lines marks i t))
    (follow_push formula.vars cs (kept_to given lines marks i) (renumbered given (ranks marks (suc i)) (line_at lines i)) rest
    (follows_renumbered formula.vars (cs ++ clauses_of (take i lines)) (cs ++ clauses_of (kept_to given lines marks i)) (new_number given (ranks marks (suc i))) (line_at lines i) each follows)))
    (λ (f : is_marked marks i ≡ false). subst (AllFollow formula.vars cs) (sym (line_passed given lines marks i f)) rest)
    (cases_Bool (is_marked marks i))

ends_push : (ls : List Line) (l : Line) → l.literals ≡ [] → EndsEmpty (ls ++ l ∷ [])
ends_push [] l e = e
ends_push (x ∷ []) l e = e
ends_push (x ∷ y ∷ ls) l e = ends_push (y ∷ ls) l e

some_line : (lines : List Line) → EndsEmpty lines → 0 < length lines
some_line [] e = absurd e
some_line (l ∷ ls) e = omega arith

-- and the last of them is the last line
kept_end : (given : ℕ) (lines : List Line) (marks : List Bool) (n : ℕ) → AreNeeded given lines marks → suc n ≡ length lines → EndsEmpty lines → EndsEmpty (kept_to given lines marks (suc n))
kept_end given lines marks n needed e ends =
    let last : length lines - 1 ≡ n = omega arith in
    let none : (line_at lines n).literals ≡ [] = sym (ap (λ (k : ℕ). (line_at lines k).literals) last) ∙ ends_back lines ends in
    let is : is_marked marks n ≡ true = needed.last n (omega arith) in
    subst EndsEmpty (sym (line_kept given lines marks n is)) (ends_push (kept_to given lines marks n) (renumbered given (ranks marks (suc n)) (line_at lines n)) none)

pub kept_accepted : (given : ℕ) (formula : Formula) (lines : List Line) (marks : List Bool) → AreNeeded given lines marks → length formula.clauses ≡ given → IsAccepted formula lines
    → IsAccepted formula (kept_to given lines marks (length lines))
kept_accepted given formula lines marks needed len is = record {
  follow = kept_follow given formula lines marks (length lines) len needed is.follow (omega arith);
  empty =
      let some = some_line lines is.empty in
      let e : suc (length lines - 1) ≡ length lines = omega arith in
      subst (λ (n : ℕ). EndsEmpty (kept_to given lines marks n)) e (kept_end given lines marks (length lines - 1) needed e is.empty);
}

length_map : (f : ℕ → ℕ) (xs : List ℕ) → length (map f xs) ≡ length xs
length_map f [] = refl
length_map f (x ∷ xs) = ap suc (length_map f xs)

contains_map : (f : ℕ → ℕ) (hs : List ℕ) (h m : ℕ) → Contains hs h → f h ≡ m → Contains (map f hs) m
contains_map f hs h m (k, lt, e) is = (k, (let l = length_map f hs in omega arith), get_or-map f hs k h m lt ∙ ap f e ∙ is)

-- each line that stays, but the last, is hinted by a later one that stays
pub kept_trimmed : (given : ℕ) (lines : List Line) (marks : List Bool) → AreNeeded given lines marks → IsTrimmed given (kept_to given lines marks (length lines))
kept_trimmed given lines marks needed m more =
    let count : ℕ = length lines in
    let kept = length_kept given lines marks count in
    let (i, within, marked, is) = kept_from marks count m (omega arith) in
    let one = rank_kept marks i marked in
    let early : i + 1 < count = ⊎_elim (λ (lt : i + 1 < count). lt)
    (λ (le : count ≤ i + 1). let e : count ≡ suc i = omega arith in let r : rank marks count ≡ rank marks (suc i) = ap (rank marks) e in absurd (omega arith)) (cases_lt (i + 1) count) in
    let (j, later, marked_j, hint) = needed.only i early marked in
    let there : j < count = (let w = within_marks marks j marked_j in omega (arith, needed.size)) in
    let at = kept_at given lines marks count j there marked_j in
    let hint_new : Hint given (renumbered given (ranks marks (suc j)) (line_at lines j)).hints m
    = contains_map (new_number given (ranks marks (suc j))) (line_at lines j).hints (given + i + 1) (given + m + 1) hint
    (number_of_line given marks (suc j) i (given + i + 1) (omega arith) refl ∙ ap (λ (k : ℕ). given + k + 1) is) in
    let a = rank_lt marks i j later marked in
    let b = rank_lt marks j count there marked_j in
    (rank marks j, omega arith, omega arith, subst (λ (l : Line). Hint given l.hints m) (sym at) hint_new)

-- their clauses stand among the log's
sub_keep : (xs ys : List (List ℤ)) (z : List ℤ) → IsSubsequence xs ys → IsSubsequence (xs ++ z ∷ []) (ys ++ z ∷ [])
sub_keep [] [] z s = inl (refl, tt)
sub_keep [] (y ∷ ys) z s = inr (sub_keep [] ys z tt)
sub_keep (x ∷ xs) [] z s = absurd s
sub_keep (x ∷ xs) (y ∷ ys) z s = ⊎_elim (λ (h : (x ≡ y) × IsSubsequence xs ys). inl (h.0, sub_keep xs ys z h.1)) (λ (h : IsSubsequence (x ∷ xs) ys). inr (sub_keep (x ∷ xs) ys z h)) s

sub_pass : (xs ys : List (List ℤ)) (z : List ℤ) → IsSubsequence xs ys → IsSubsequence xs (ys ++ z ∷ [])
sub_pass [] ys z s = tt
sub_pass (x ∷ xs) [] z s = absurd s
sub_pass (x ∷ xs) (y ∷ ys) z s = ⊎_elim (λ (h : (x ≡ y) × IsSubsequence xs ys). inl (h.0, sub_pass xs ys z h.1)) (λ (h : IsSubsequence (x ∷ xs) ys). inr (sub_pass (x ∷ xs) ys z h)) s

sub_to : (given : ℕ) (lines : List Line) (marks : List Bool) (i : ℕ) → i ≤ length lines → IsSubsequence (clauses_of (kept_to given lines marks i)) (clauses_of (take i lines))
sub_to given lines marks zero le = tt
sub_to given lines marks (suc i) le =
    let rest = sub_to given lines marks i (omega arith) in
    let clause : List ℤ = (line_at lines i).literals in
    let front : List Line = kept_to given lines marks i in
    let one : i + 1 ≡ suc i = omega arith in
    let more : clauses_of (take (suc i) lines) ≡ clauses_of (take i lines) ++ clause ∷ []
    = subst (λ (n : ℕ). clauses_of (take n lines) ≡ clauses_of (take i lines) ++ clause ∷ []) one (map_more (λ (l : Line). l.literals) lines i empty (omega arith)) in
    subst (IsSubsequence (clauses_of (kept_to given lines marks (suc i)))) (sym more) (⊎_elim
    (λ (t : is_marked marks i ≡ true).
    let line : Line = renumbered given (ranks marks (suc i)) (line_at lines i) in
    subst (λ (cs : List (List ℤ)). IsSubsequence cs (clauses_of (take i lines) ++ clause ∷ [])) (sym (ap clauses_of (line_kept given lines marks i t) ∙ map-append (λ (l : Line). l.literals) front (line ∷ [])))
    (sub_keep (clauses_of front) (clauses_of (take i lines)) clause rest))
    (λ (f : is_marked marks i ≡ false).
    subst (λ (cs : List (List ℤ)). IsSubsequence cs (clauses_of (take i lines) ++ clause ∷ [])) (sym (ap clauses_of (line_passed given lines marks i f))) (sub_pass (clauses_of front) (clauses_of (take i lines)) clause rest))
    (cases_Bool (is_marked marks i)))

pub kept_clauses : (given : ℕ) (lines : List Line) (marks : List Bool) → IsSubsequence (clauses_of (kept_to given lines marks (length lines))) (clauses_of lines)
kept_clauses given lines marks =
    subst (λ (ls : List Line). IsSubsequence (clauses_of (kept_to given lines marks (length lines))) (clauses_of ls)) (take_all (length lines) lines (omega arith)) (sub_to given lines marks (length lines) (omega arith))
