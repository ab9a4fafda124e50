-- What the hints refute while analysis goes down the trail, and the clause that it comes to.
use Rattle.std.proofs.Common.{◌≡◌, ◌≢◌, ◌≤◌, ◌<◌, ◌+◌, ◌-◌, ◌/◌, ℕ, zero, suc, List, [], ◌∷◌, ◌++◌, map, set, length, get_or, arith, sym, ◌∙◌, ap, subst, refl, ◌⊎◌, inl, inr, ⊎_elim, Bool, true, false, get_or-set_same, get_or-set_other, reverse}
use Rattle.std.proofs.lemmas.Bool.{cases_eq, cases_lt, false≢true}
use Rattle.std.proofs.lemmas.List.Elements.{Contains-append_left, Contains-push, Contains-push_cases}
use Rattle.std.proofs.lemmas.List.{get_or-reverse, length-reverse, length-set}
use Rattle.std.specs.List.{All, Contains}
use Rattle.sat_core.specs.declared.analysis.Analysis.{Analysis}
use Rattle.cnf_store.specs.Codes.{neg, clause_at}
use Rattle.sat_core.specs.Derivations.{Refutes, LeavesOnly}
use Rattle.sat_trail.specs.Trail.{IsPlaced, Reasoned}
use Rattle.sat_core.specs.Analysis.{IsMarked, StandsOpen, Ready, open_below, HasMore, AreCounted, State, AreResolved, AreKept, IsLearned, StandsFrom, AreKnown, IsMinimised}
use Rattle.sat_trail.proofs.Placing.{same_place}
use Rattle.cnf_store.proofs.Lits.{neg_neg, neg_var, neg_injective}
use Rattle.sat_core.proofs.Marking.{marked_within, open_none}

-- one more hint before others
refutes_more : (db : List (List ℕ)) (a : List ℕ) (h l : ℕ) (hints : List ℕ) → LeavesOnly a (clause_at db h) l → Refutes db (l ∷ a) hints → Refutes db a (h ∷ hints)
refutes_more db a h l [] o r = absurd r
refutes_more db a h l (i ∷ hs) o r = (l, o, r)

-- the head of a list is in it
pub contains_head : (l : ℕ) (a : List ℕ) → Contains (l ∷ a) l
contains_head l a = (0, omega arith, refl)

-- what is in the rest of a list is in it
pub contains_tail : (l m : ℕ) (a : List ℕ) → Contains a m → Contains (l ∷ a) m
contains_tail l m a (k, lt, e) = (suc k, omega arith, e)

-- what is in a list is its head or in the rest
pub contains_cases : (l m : ℕ) (a : List ℕ) → Contains (l ∷ a) m → (l ≡ m) ⊎ Contains a m
contains_cases l m a (zero, lt, e) = inl e
contains_cases l m a (suc k, lt, e) = inr (k, omega arith, e)

-- the literal at a place of a list of complements
pub contains_neg : (xs : List ℕ) (l : ℕ) → Contains xs l → Contains (map neg xs) (neg l)
contains_neg [] l (k, lt, e) = absurd (omega arith)
contains_neg (x ∷ xs) l (zero, lt, e) = (0, omega arith, ap neg e)
contains_neg (x ∷ xs) l (suc k, lt, e) = let h = contains_neg xs l (k, omega arith, e) in contains_tail (neg x) (neg l) (map neg xs) h

-- and back
pub contains_neg_back : (xs : List ℕ) (l : ℕ) → Contains (map neg xs) l → Contains xs (neg l)
contains_neg_back [] l (k, lt, e) = absurd (omega arith)
contains_neg_back (x ∷ xs) l (zero, lt, e) = (0, omega arith, sym (neg_neg x) ∙ ap neg e)
contains_neg_back (x ∷ xs) l (suc k, lt, e) = contains_tail x (neg l) xs (contains_neg_back xs l (k, omega arith, e))

-- the clause in which all is marked
pub ready_first : (db : List (List ℕ)) (lits : List ℕ) (seen : List Bool) (n c : ℕ) → All (IsMarked lits seen n) (clause_at db c) → Ready db lits seen n (c ∷ [])
ready_first db lits seen n c all assumed marked stands = λ k d lt. let h = all k d lt in subst (Contains assumed) h.2 (marked h.0 h.3)

-- further down the trail
pub ready_down : (db : List (List ℕ)) (lits : List ℕ) (seen : List Bool) (i j : ℕ) (hints : List ℕ) → i ≤ j → Ready db lits seen j hints → Ready db lits seen i hints
ready_down db lits seen i j hints le ready assumed marked stands = ready assumed marked
    (λ l c. let s = stands l c in (s.0, ⊎_elim (λ (lt : s.0 < i). inl (omega arith)) (λ (is : get_or seen s.0 false ≡ true). inr is) s.1, s.2))

-- more marks
pub ready_more : (db : List (List ℕ)) (lits : List ℕ) (seen more : List Bool) (i j : ℕ) (hints : List ℕ) → i ≤ j → HasMore i seen more → Ready db lits seen j hints → Ready db lits more j hints
ready_more db lits seen more i j hints le adds ready assumed marked stands = ready assumed (λ q is. marked q (adds.more q is))
    (λ l c. let s = stands l c in (s.0, ⊎_elim (λ (lt : s.0 < j). inl lt) (λ (is : get_or more s.0 false ≡ true). ⊎_elim (λ (lt : s.0 < i). inl (omega arith)) (λ (past : i ≤ s.0). inr (sym (adds.past s.0 past) ∙ is)) (cases_lt s.0 i)) s.1, s.2))

-- what stands below i or at another marked place is of another variable
apart : (vars : ℕ) (lits at : List ℕ) (seen : List Bool) (i m : ℕ) → IsPlaced vars lits at → length seen ≡ length lits → i < length lits → StandsOpen lits (set seen i false) i m → m / 2 ≡ get_or lits i 0 / 2 → ⊥
apart vars lits at seen i m is size lt (q, standing, e) v =
    let var : get_or lits q 0 / 2 ≡ get_or lits i 0 / 2 = ap (λ (x : ℕ). x / 2) e ∙ v in
    ⊎_elim (λ (below : q < i). let s = same_place vars lits at q i is (omega arith) lt var in omega arith)
    (λ (mark : get_or (set seen i false) q false ≡ true).
    let w = marked_within (set seen i false) q mark in
    let s = same_place vars lits at q i is (omega (arith, length-set seen i false)) lt var in
    false≢true (sym (get_or-set_same seen i false false (omega arith)) ∙ subst (λ (p : ℕ). get_or (set seen i false) p false ≡ true) s mark)) standing

-- a mark given back
stands_back : (lits : List ℕ) (seen : List Bool) (i m : ℕ) → StandsOpen lits (set seen i false) i m → StandsOpen lits seen (i + 1) m
stands_back lits seen i m (q, standing, e) = (
  q,
  ⊎_elim (λ (below : q < i). inl (omega arith))
      (λ (mark : get_or (set seen i false) q false ≡ true). ⊎_elim (λ (s : q ≡ i). inl (omega arith)) (λ (ne : q ≢ i). inr (sym (get_or-set_other seen i q false false ne) ∙ mark)) (cases_eq q i)) standing,
  e,
)

-- a place whose mark goes, with a reason of which all other literals are marked
pub ready_step : (vars : ℕ) (db : List (List ℕ)) (lits at : List ℕ) (seen : List Bool) (i r : ℕ) (hints : List ℕ) → IsPlaced vars lits at → length seen ≡ length lits → i < length lits → Reasoned db lits i r
    → All (λ m. (m ≡ get_or lits i 0) ⊎ IsMarked lits seen i m) (clause_at db r) → Ready db lits seen (i + 1) hints → Ready db lits (set seen i false) i (r ∷ hints)
ready_step vars db lits at seen i r hints is size lt why all ready assumed marked stands =
    let l : ℕ = get_or lits i 0 in
    refutes_more db assumed r l hints
    (record {
      inside = why.inside;
      not_true = λ c. apart vars lits at seen i l is size lt (stands l c) refl;
      not_false = λ c. apart vars lits at seen i (neg l) is size lt (stands (neg l) c) (neg_var l);
      others = λ k d h. ⊎_elim (λ (e : get_or (clause_at db r) k d ≡ l). inl e)
          (λ (m : IsMarked lits seen i (get_or (clause_at db r) k d)). inr (subst (Contains assumed) m.2 (marked m.0 (get_or-set_other seen i m.0 false false (λ e. let low = m.1 in omega arith) ∙ m.3)))) (all k d h);
    })
    (ready (l ∷ assumed)
    (λ q mark. ⊎_elim (λ (e : q ≡ i). subst (λ (p : ℕ). Contains (l ∷ assumed) (get_or lits p 0)) (sym e) (contains_head l assumed))
    (λ (ne : q ≢ i). contains_tail l (get_or lits q 0) assumed (marked q (get_or-set_other seen i q false false ne ∙ mark))) (cases_eq q i))
    (λ m c. ⊎_elim (λ (e : l ≡ m). (i, inl (omega arith), e)) (λ (h : Contains assumed m). stands_back lits seen i m (stands m h)) (contains_cases l m assumed c)))

-- without a decision nothing stays
pub root_refutes : (db : List (List ℕ)) (lits : List ℕ) (seen : List Bool) (i : ℕ) (hints : List ℕ) → Ready db lits seen i hints → open_below seen 0 i ≡ 0 → AreResolved seen i → Refutes db [] hints
root_refutes db lits seen i hints ready none done = ready []
    (λ q is. absurd (⊎_elim (λ (lt : q < i). open_none seen 0 i q none (omega arith) lt is) (λ (le : i ≤ q). false≢true (sym (done q le) ∙ is)) (cases_lt q i))) (λ l c. absurd (omega arith))

-- unmarked places are passed
pub state_down : (db : List (List ℕ)) (lits : List ℕ) (a : Analysis) (i j : ℕ) → i ≤ j → AreCounted i a.marks → State db lits a j → State db lits a i
state_down db lits a i j le counted s = record {
  size = s.size;
  within = let w = s.within in omega arith;
  counted = counted;
  ready = ready_down db lits a.marks.seen.items i j (reverse a.hints.items) le s.ready;
  known = s.known;
}

-- from a place on nothing is marked, and it isn't either
pub resolved_more : (old new : List Bool) (i : ℕ) → AreResolved old (i + 1) → ((q : ℕ) → i < q → get_or new q false ≡ get_or old q false) → get_or new i false ≡ false → AreResolved new i
resolved_more old new i done same here q le = ⊎_elim (λ (e : q ≡ i). subst (λ (p : ℕ). get_or new p false ≡ false) (sym e) here) (λ (ne : q ≢ i). same q (omega arith) ∙ done q (omega arith)) (cases_eq q i)

-- nor down to the next that is
pub resolved_down : (seen : List Bool) (i j : ℕ) → AreResolved seen j → ((q : ℕ) → i < q → q < j → get_or seen q false ≡ false) → AreResolved seen (i + 1)
resolved_down seen i j done none q le = ⊎_elim (λ (lt : q < j). none q (omega arith) lt) (λ (ge : j ≤ q). done q ge) (cases_lt q j)

-- at the first place nothing else is kept
pub kept_first : (lits : List ℕ) (seen : List Bool) (start i : ℕ) → start ≤ i → get_or seen i false ≡ true → open_below seen start i ≡ 0 → AreResolved seen (i + 1) → AreKept lits seen start i start []
kept_first lits seen start i le is none done = record {
  top = is;
  all = λ q low mark. ⊎_elim (λ (e : q ≡ i). inl e)
      (λ (ne : q ≢ i). absurd (⊎_elim (λ (lt : q < i). open_none seen start i q none low lt mark) (λ (ge : i ≤ q). false≢true (sym (done q (omega arith)) ∙ mark)) (cases_lt q i))) (cases_eq q i);
  stand = λ l c. absurd (omega (arith, c.1));
}

-- a place is resolved
pub kept_resolve : (lits : List ℕ) (old new : List Bool) (start first i : ℕ) (learned : List ℕ) → i < first → ((q : ℕ) → i < q → get_or new q false ≡ get_or old q false) → get_or new i false ≡ false → AreKept lits old start first (i + 1) learned → AreKept lits new start first i learned
kept_resolve lits old new start first i learned lt same here k = record {
  top = same first lt ∙ k.top;
  all = λ q le mark. ⊎_elim (λ (e : q ≡ i). absurd (false≢true (sym here ∙ subst (λ (p : ℕ). get_or new p false ≡ true) e mark))) (λ (ne : q ≢ i). k.all q (omega arith) (sym (same q (omega arith)) ∙ mark)) (cases_eq q i);
  stand = λ l c. let s = k.stand l c in let low = s.1 in (s.0, omega arith, s.2, s.3, same s.0 (omega arith) ∙ s.4);
}

-- unmarked places are passed, with what is kept
pub kept_down : (lits : List ℕ) (seen : List Bool) (start first i j : ℕ) (learned : List ℕ) → i ≤ j → ((q : ℕ) → i ≤ q → q < j → get_or seen q false ≡ false) → AreKept lits seen start first j learned → AreKept lits seen start first i learned
kept_down lits seen start first i j learned low none k = record {
  top = k.top;
  all = λ q le mark. ⊎_elim (λ (lt : q < j). absurd (false≢true (sym (none q le lt) ∙ mark))) (λ (ge : j ≤ q). k.all q ge mark) (cases_lt q j);
  stand = λ l c. let s = k.stand l c in let high = s.1 in (s.0, omega arith, s.2, s.3, s.4);
}

-- a place's literal is kept
pub kept_push : (lits : List ℕ) (seen : List Bool) (start first i : ℕ) (learned : List ℕ) → i < start → get_or seen i false ≡ true → AreKept lits seen start first (i + 1) learned → AreKept lits seen start first i (learned ++ neg (get_or lits i 0) ∷ [])
kept_push lits seen start first i learned lt is k =
    let u : ℕ = neg (get_or lits i 0) in record {
      top = k.top;
      all = λ q le mark. ⊎_elim (λ (e : q ≡ i). inr (subst (λ (p : ℕ). Contains (learned ++ u ∷ []) (neg (get_or lits p 0))) (sym e) (Contains-push learned u)))
          (λ (ne : q ≢ i). ⊎_elim (λ (f : q ≡ first). inl f) (λ (c : Contains learned (neg (get_or lits q 0))). inr (Contains-append_left learned (u ∷ []) (neg (get_or lits q 0)) c)) (k.all q (omega arith) mark)) (cases_eq q i);
      stand = λ l c. ⊎_elim (λ (a : Contains learned l). let s = k.stand l a in let low = s.1 in (s.0, omega arith, s.2, s.3, s.4))
          (λ (e : u ≡ l). (i, omega arith, lt, sym (neg_neg (get_or lits i 0)) ∙ ap neg e, is)) (Contains-push_cases learned u l c);
    }

-- no marked place is left
pub kept_end : (lits : List ℕ) (seen : List Bool) (start first i : ℕ) (learned : List ℕ) → open_below seen 0 i ≡ 0 → AreKept lits seen start first i learned → AreKept lits seen start first 0 learned
kept_end lits seen start first i learned none k = record {
  top = k.top;
  all = λ q le mark. ⊎_elim (λ (lt : q < i). absurd (open_none seen 0 i q none le lt mark)) (λ (ge : i ≤ q). k.all q ge mark) (cases_lt q i);
  stand = λ l c. let s = k.stand l c in (s.0, omega arith, s.2, s.3, s.4);
}

-- the learned clause: complements of what is kept
kept_refutes : (db : List (List ℕ)) (lits : List ℕ) (seen : List Bool) (start first : ℕ) (learned hints : List ℕ) → Ready db lits seen 0 hints → AreKept lits seen start first 0 learned → Refutes db (map neg (learned ++ neg (get_or lits first 0) ∷ [])) hints
kept_refutes db lits seen start first learned hints ready k =
    let u : ℕ = neg (get_or lits first 0) in
    let all : List ℕ = learned ++ u ∷ [] in
    ready (map neg all)
    (λ q mark.
    let l : ℕ = get_or lits q 0 in
    let in_all : Contains all (neg l) = ⊎_elim (λ (e : q ≡ first). subst (λ (p : ℕ). Contains all (neg (get_or lits p 0))) (sym e) (Contains-push learned u))
    (λ (c : Contains learned (neg l)). Contains-append_left learned (u ∷ []) (neg l) c) (k.all q (omega arith) mark) in
    subst (Contains (map neg all)) (neg_neg l) (contains_neg all (neg l) in_all))
    (λ l c.
    let h : Contains all (neg l) = contains_neg_back all l c in
    ⊎_elim (λ (a : Contains learned (neg l)). let s = k.stand (neg l) a in (s.0, inr s.4, s.3 ∙ neg_neg l))
    (λ (b : u ≡ neg l). (first, inr k.top, neg_injective (get_or lits first 0) l b)) (Contains-push_cases learned u (neg l) h))

-- a marked literal at or past start is counted
pub some_counted : (vars : ℕ) (lits at : List ℕ) (seen : List Bool) (start limit n m : ℕ) → IsPlaced vars lits at → limit ≤ length lits → open_below seen start limit ≡ n → IsMarked lits seen limit m → StandsFrom lits start limit (neg m) → 0 < n
some_counted vars lits at seen start limit n m is le e (q, lt, eq, mark) (p, low, pl, ep) =
    let same = same_place vars lits at q p is (omega arith) (omega arith) (ap (λ (x : ℕ). x / 2) (eq ∙ sym ep)) in
    ⊎_elim (λ (z : n ≡ 0). absurd (open_none seen start limit q (e ∙ z) (omega arith) lt mark)) (λ (z : n ≢ 0). omega arith) (cases_eq n 0)

-- hints turned round name clauses
pub known_reverse : (db : List (List ℕ)) (hints : List ℕ) → AreKnown db hints → AreKnown db (reverse hints)
known_reverse db hints known = λ k d lt. let e = get_or-reverse hints k d (omega (arith, length-reverse hints)) in
    subst (λ (h : ℕ). (0 < h) × (h ≤ length db)) (sym e) (known (length hints - 1 - k) d (omega (arith, length-reverse hints)))

-- what the walk comes to
pub learned_is : (db : List (List ℕ)) (lits : List ℕ) (a : Analysis) (start limit first : ℕ) → start ≤ first → first < limit → IsMinimised db lits start first a
    → IsLearned db lits start limit first (a.learned.items ++ neg (get_or lits first 0) ∷ []) (reverse a.hints.items)
learned_is db lits a start limit first le lt m =
    let learned : List ℕ = a.learned.items in
    let u : ℕ = neg (get_or lits first 0) in record {
      above = le;
      below = lt;
      inside = Contains-push learned u;
      stands = λ l c. ⊎_elim (λ (h : Contains learned l). let s = m.kept.stand l h in inr (s.0, s.2, s.3)) (λ (e : u ≡ l). inl (sym e)) (Contains-push_cases learned u l c);
      refutes = kept_refutes db lits a.marks.seen.items start first learned (reverse a.hints.items) m.ready m.kept;
      known = known_reverse db a.hints.items m.known;
    }
