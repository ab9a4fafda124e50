-- How many lines before each line are marked, and the marked lines with new numbers.
use Rattle.std.proofs.Common.{◌≡◌, ◌∙◌, ◌≤◌, ◌<◌, ◌+◌, ◌-◌, ℕ, zero, suc, Bool, true, false, if◌then◌else◌, List, [], ◌∷◌, ◌++◌, length, get_or, leb, refl, sym, ap, subst, arith, length-append, ⊎_elim, ◌⊎◌}
use Rattle.std.proofs.lemmas.Bool.{cases_Bool, cases_eq, cases_order, lt-leb}
use Rattle.std.proofs.lemmas.List.{get_or_append_left, get_or_push}
use Rattle.sat_log.specs.Derivations.{Line, line_at}
use Rattle.log_trim.specs.Trimming.{is_marked, new_number, renumbered}

abbrev pub rank : List Bool → ℕ → ℕ
rank marks zero = 0
rank marks (suc i) = if is_marked marks i then suc (rank marks i) else rank marks i

abbrev pub ranks : List Bool → ℕ → List ℕ
ranks marks zero = []
ranks marks (suc i) = ranks marks i ++ rank marks i ∷ []

-- the marked lines before line i
abbrev pub kept_to : ℕ → List Line → List Bool → ℕ → List Line
kept_to given lines marks zero = []
kept_to given lines marks (suc i) = if is_marked marks i then kept_to given lines marks i ++ renumbered given (ranks marks (suc i)) (line_at lines i) ∷ [] else kept_to given lines marks i

pub rank_kept : (marks : List Bool) (i : ℕ) → is_marked marks i ≡ true → rank marks (suc i) ≡ suc (rank marks i)
rank_kept marks i e = rw e refl

pub rank_passed : (marks : List Bool) (i : ℕ) → is_marked marks i ≡ false → rank marks (suc i) ≡ rank marks i
rank_passed marks i e = rw e refl

pub line_kept : (given : ℕ) (lines : List Line) (marks : List Bool) (i : ℕ) → is_marked marks i ≡ true
    → kept_to given lines marks (suc i) ≡ kept_to given lines marks i ++ renumbered given (ranks marks (suc i)) (line_at lines i) ∷ []
line_kept given lines marks i e = rw e refl

pub line_passed : (given : ℕ) (lines : List Line) (marks : List Bool) (i : ℕ) → is_marked marks i ≡ false → kept_to given lines marks (suc i) ≡ kept_to given lines marks i
line_passed given lines marks i e = rw e refl

pub rank_le : (marks : List Bool) (i : ℕ) → rank marks i ≤ i
rank_le marks zero = omega arith
rank_le marks (suc i) = let le = rank_le marks i in ⊎_elim
    (λ (e : is_marked marks i ≡ true). let k = rank_kept marks i e in omega arith)
    (λ (e : is_marked marks i ≡ false). let k = rank_passed marks i e in omega arith)
    (cases_Bool (is_marked marks i))

rank_step : (marks : List Bool) (i : ℕ) → rank marks i ≤ rank marks (suc i)
rank_step marks i = ⊎_elim
    (λ (e : is_marked marks i ≡ true). let k = rank_kept marks i e in omega arith)
    (λ (e : is_marked marks i ≡ false). let k = rank_passed marks i e in omega arith)
    (cases_Bool (is_marked marks i))

rank_more : (marks : List Bool) (i j : ℕ) → i ≤ j → rank marks i ≤ rank marks j
rank_more marks i zero le = let e : i ≡ zero = omega arith in let r = ap (rank marks) e in omega arith
rank_more marks i (suc j) le = ⊎_elim
    (λ (e : i ≡ suc j). let r = ap (rank marks) e in omega arith)
    (λ (n : i ≡ suc j → ⊥). let a = rank_more marks i j (omega (arith, n)) in let b = rank_step marks j in omega arith)
    (cases_eq i (suc j))

-- a marked line has fewer before it than a later one
pub rank_lt : (marks : List Bool) (i j : ℕ) → i < j → is_marked marks i ≡ true → rank marks i < rank marks j
rank_lt marks i j lt e =
    let k = rank_kept marks i e in
    let m = rank_more marks (suc i) j (omega arith) in
    omega arith

pub length_ranks : (marks : List Bool) (n : ℕ) → length (ranks marks n) ≡ n
length_ranks marks zero = refl
length_ranks marks (suc n) = let l = length_ranks marks n in omega (arith, length-append (ranks marks n) (rank marks n ∷ []))

pub ranks_at : (marks : List Bool) (n j d : ℕ) → j < n → get_or (ranks marks n) j d ≡ rank marks j
ranks_at marks zero j d lt = absurd (omega arith)
ranks_at marks (suc n) j d lt =
    let l = length_ranks marks n in ⊎_elim
    (λ (e : j ≡ n). subst (λ (k : ℕ). get_or (ranks marks n ++ rank marks n ∷ []) k d ≡ rank marks k) (sym e) (get_or_push (ranks marks n) (rank marks n) d n l))
    (λ (o : (j < n) ⊎ (n < j)). ⊎_elim
    (λ (less : j < n). get_or_append_left (ranks marks n) (rank marks n ∷ []) d j (omega arith) ∙ ranks_at marks n j d less)
    (λ (more : n < j). absurd (omega arith)) o)
    (cases_order j n)

-- the new number of a line before line n
pub number_of_line : (given : ℕ) (marks : List Bool) (n j h : ℕ) → j < n → h ≡ given + j + 1 → new_number given (ranks marks n) h ≡ given + rank marks j + 1
number_of_line given marks n j h lt e =
    let past : leb h given ≡ false = lt-leb h given (omega arith) in
    let place : h - given - 1 ≡ j = omega arith in
    let at = ranks_at marks n j j lt in
    rw (past, place, at) refl

pub length_kept : (given : ℕ) (lines : List Line) (marks : List Bool) (i : ℕ) → length (kept_to given lines marks i) ≡ rank marks i
length_kept given lines marks zero = refl
length_kept given lines marks (suc i) = let l = length_kept given lines marks i in ⊎_elim
    (λ (e : is_marked marks i ≡ true). let k = rank_kept marks i e in let m = ap length (line_kept given lines marks i e) in
    omega (arith, length-append (kept_to given lines marks i) (renumbered given (ranks marks (suc i)) (line_at lines i) ∷ [])))
    (λ (e : is_marked marks i ≡ false). let k = rank_passed marks i e in let m = ap length (line_passed given lines marks i e) in omega arith)
    (cases_Bool (is_marked marks i))

-- where a marked line stands among those that stay
pub kept_at : (given : ℕ) (lines : List Line) (marks : List Bool) (i j : ℕ) → j < i → is_marked marks j ≡ true
    → line_at (kept_to given lines marks i) (rank marks j) ≡ renumbered given (ranks marks (suc j)) (line_at lines j)
kept_at given lines marks zero j lt is = absurd (omega arith)
kept_at given lines marks (suc i) j lt is =
    let empty : Line = record { literals = []; hints = [] } in
    let front : List Line = kept_to given lines marks i in
    let line : Line = renumbered given (ranks marks (suc i)) (line_at lines i) in
    let l = length_kept given lines marks i in ⊎_elim
    (λ (e : j ≡ i). let t : is_marked marks i ≡ true = subst (λ (k : ℕ). is_marked marks k ≡ true) e is in
    subst (λ (k : ℕ). line_at (kept_to given lines marks (suc i)) (rank marks k) ≡ renumbered given (ranks marks (suc k)) (line_at lines k)) (sym e)
    (ap (λ (ls : List Line). line_at ls (rank marks i)) (line_kept given lines marks i t) ∙ get_or_push front line empty (rank marks i) l))
    (λ (o : (j < i) ⊎ (i < j)). ⊎_elim
    (λ (less : j < i). let r = rank_lt marks j i less is in ⊎_elim
    (λ (t : is_marked marks i ≡ true). ap (λ (ls : List Line). line_at ls (rank marks j)) (line_kept given lines marks i t)
    ∙ get_or_append_left front (line ∷ []) empty (rank marks j) (omega arith) ∙ kept_at given lines marks i j less is)
    (λ (f : is_marked marks i ≡ false). ap (λ (ls : List Line). line_at ls (rank marks j)) (line_passed given lines marks i f) ∙ kept_at given lines marks i j less is)
    (cases_Bool (is_marked marks i)))
    (λ (more : i < j). absurd (omega arith)) o)
    (cases_order j i)

-- each line that stays was marked
pub kept_from : (marks : List Bool) (n m : ℕ) → m < rank marks n → (j : ℕ) × (j < n) × (is_marked marks j ≡ true) × (rank marks j ≡ m)
kept_from marks zero m lt = absurd (omega arith)
kept_from marks (suc n) m lt = ⊎_elim
    (λ (e : is_marked marks n ≡ true). let k = rank_kept marks n e in ⊎_elim
    (λ (s : m ≡ rank marks n). (n, omega arith, e, sym s))
    (λ (o : (m < rank marks n) ⊎ (rank marks n < m)). ⊎_elim
    (λ (less : m < rank marks n). let (j, a, b, c) = kept_from marks n m less in (j, omega arith, b, c))
    (λ (more : rank marks n < m). absurd (omega arith)) o)
    (cases_order m (rank marks n)))
    (λ (e : is_marked marks n ≡ false). let k = rank_passed marks n e in let (j, a, b, c) = kept_from marks n m (omega arith) in (j, omega arith, b, c))
    (cases_Bool (is_marked marks n))

-- one more line, by what a loop has
pub before_next : (given : ℕ) (lines : List Line) (marks : List Bool) (i n : ℕ) (before now : List ℕ) (kept : List Line) → before ≡ ranks marks i → kept ≡ kept_to given lines marks i → n ≡ length kept
    → now ≡ before ++ n ∷ [] → now ≡ ranks marks (i + 1)
before_next given lines marks i n before now kept b k e is =
    let one : suc i ≡ i + 1 = omega arith in
    let count : n ≡ rank marks i = e ∙ ap length k ∙ length_kept given lines marks i in
    subst (λ (m : ℕ). now ≡ ranks marks m) one (is ∙ ap (λ (ns : List ℕ). ns ++ n ∷ []) b ∙ ap (λ (m : ℕ). ranks marks i ++ m ∷ []) count)

pub few_before : (marks : List Bool) (n : ℕ) (before : List ℕ) → before ≡ ranks marks n → (j : ℕ) → j < length before → get_or before j 0 ≤ j
few_before marks n before e j lt =
    let l = length_ranks marks n in
    let less : j < n = (let m = ap length e in omega arith) in
    let at = ranks_at marks n j 0 less in
    let same = ap (λ (ns : List ℕ). get_or ns j 0) e in
    let le = rank_le marks j in
    omega arith

pub kept_next : (given : ℕ) (lines : List Line) (marks : List Bool) (i : ℕ) (before : List ℕ) (kept now : List Line) → kept ≡ kept_to given lines marks i → before ≡ ranks marks (i + 1) → is_marked marks i ≡ true
    → now ≡ kept ++ renumbered given before (line_at lines i) ∷ [] → now ≡ kept_to given lines marks (i + 1)
kept_next given lines marks i before kept now k b t is =
    let one : i + 1 ≡ suc i = omega arith in
    let all : before ≡ ranks marks (suc i) = b ∙ ap (ranks marks) one in
    subst (λ (m : ℕ). now ≡ kept_to given lines marks m) (sym one)
    (is ∙ ap (λ (ls : List Line). ls ++ renumbered given before (line_at lines i) ∷ []) k
    ∙ ap (λ (ns : List ℕ). kept_to given lines marks i ++ renumbered given ns (line_at lines i) ∷ []) all ∙ sym (line_kept given lines marks i t))

pub passed_next : (given : ℕ) (lines : List Line) (marks : List Bool) (i : ℕ) (kept : List Line) → kept ≡ kept_to given lines marks i → is_marked marks i ≡ false → kept ≡ kept_to given lines marks (i + 1)
passed_next given lines marks i kept k f =
    let one : i + 1 ≡ suc i = omega arith in
    subst (λ (m : ℕ). kept ≡ kept_to given lines marks m) (sym one) (k ∙ sym (line_passed given lines marks i f))
