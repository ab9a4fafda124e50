use Rattle.std.proofs.Common.{◌≡◌, ◌≢◌, ◌≤◌, ◌<◌, ◌-◌, ◌*◌, ◌/◌, ◌^◌, ℕ, List, [], ◌∷◌, ◌++◌, take, length, get_or, arith, sym, ◌∙◌, ap, subst, refl, ◌⊎◌, inl, inr, ⊎_elim, Bool, length-append, get_or-take, true}
use Rattle.std.proofs.lemmas.Bool.{cases_eq, cases_lt}
use Rattle.std.proofs.lemmas.List.{length_push, get_or_push, get_or_append_left, length-take-le, get_or_default}
use Rattle.std.specs.List.{All, Any, Contains}
use Rattle.std.proofs.lemmas.List.Elements.{Contains-get_or}
use Rattle.sat_log.specs.Derivations.{Line, AllFollow, clauses_of, IsAccepted}
use Rattle.cnf_store.specs.Codes.{neg, clause_at, AreWithin, MakesTrue, Satisfies}
use Rattle.sat_core.specs.Derivations.{Refutes, Follows}
use Rattle.sat_core.specs.Signed.{signed_clauses, signed_line, coded}
use Rattle.sat_trail.specs.Trail.{StandsBelow, IsWrong, IsPlaced, Reasoned, AreStarts}
use Rattle.sat_core.specs.Analysis.{StandsFrom, IsLearned, AreKnown}
use Rattle.sat_trail.specs.Looking.{IsTrueIn, IsOpenIn}
use Rattle.sat_trail.specs.declared.trail.Trail.{Trail}
use Rattle.cnf_store.specs.Clauses.{satisfies}
use Rattle.sat_core.specs.Solving.{Standing, IsRowOf}
use Rattle.cnf_store.proofs.Lits.{neg_neg, neg_var, neg_other}
use Rattle.sat_trail.proofs.Placing.{same_place, place_of, stands_small}
use Rattle.sat_core.proofs.Deriving.{ends_push}
use Rattle.sat_core.proofs.Signing.{line_follows, satisfies_signed}
use Rattle.sat_trail.proofs.Upkeep.{reasoned_new}

-- the empty clause ends the log
pub refuted : (vars : ℕ) (formula learned : List (List ℕ)) (db : List (List ℕ)) (log : List Line) (hints : List ℕ) → db ≡ formula ++ learned → clauses_of log ≡ signed_clauses learned → AllFollow vars (signed_clauses formula) log → Refutes db [] hints → AreKnown db hints
    → IsAccepted (coded vars formula) (log ++ signed_line [] hints ∷ [])
refuted vars formula learned db log hints is logged follow ref known = record {
  follow = line_follows vars formula learned db log [] hints is logged follow
      (record { within = λ k d lt. absurd (omega arith); no_complement = λ k d lt. absurd (omega arith); earlier = known; refutes = ref });
  empty = ends_push log (signed_line [] hints) refl;
}

learned_stands : (db : List (List ℕ)) (lits : List ℕ) (start limit i : ℕ) (learned hints : List ℕ) → IsLearned db lits start limit i learned hints → limit ≤ length lits → (l : ℕ) → Contains learned l → StandsBelow lits limit (neg l)
learned_stands db lits start limit i learned hints is le l c = ⊎_elim
    (λ (e : l ≡ neg (get_or lits i 0)). (i, is.below, sym (neg_neg (get_or lits i 0)) ∙ ap neg (sym e)))
    (λ (s : StandsBelow lits start (neg l)). (s.0, omega (arith, s.1, is.above, is.below), s.2)) (is.stands l c)

pub learned_small : (vars : ℕ) (db : List (List ℕ)) (lits at : List ℕ) (start limit i : ℕ) (learned hints : List ℕ) → IsPlaced vars lits at → IsLearned db lits start limit i learned hints → limit ≤ length lits → All (λ l. l < 2 * vars) learned
learned_small vars db lits at start limit i learned hints placed is le = λ k d lt.
    stands_small vars lits at limit (get_or learned k d) placed le (learned_stands db lits start limit i learned hints is le (get_or learned k d) (Contains-get_or learned k d lt))

pub learned_follows : (vars : ℕ) (db : List (List ℕ)) (lits at : List ℕ) (start limit i : ℕ) (learned hints : List ℕ) → IsPlaced vars lits at → IsLearned db lits start limit i learned hints → limit ≤ length lits → Follows vars db learned hints
learned_follows vars db lits at start limit i learned hints placed is le = record {
  within = learned_small vars db lits at start limit i learned hints placed is le;
  no_complement = λ k d lt c.
      let l : ℕ = get_or learned k d in
      let a = learned_stands db lits start limit i learned hints is le l (Contains-get_or learned k d lt) in
      let b = learned_stands db lits start limit i learned hints is le (neg l) c in
      let s = same_place vars lits at a.0 b.0 placed (omega (arith, a.1)) (omega (arith, b.1)) (ap (λ (x : ℕ). x / 2) (a.2 ∙ sym (neg_neg (neg l)) ∙ ap neg (sym b.2 ∙ refl)) ∙ neg_var (get_or lits b.0 0)) in
      neg_other (neg l) (sym b.2 ∙ ap (λ (p : ℕ). get_or lits p 0) (sym s) ∙ a.2);
  earlier = is.known;
  refutes = is.refutes;
}

-- the second highest place, and the level to go back to
pub second_le : (vars : ℕ) (db : List (List ℕ)) (lits at : List ℕ) (start limit i : ℕ) (learned hints : List ℕ) (lit second : ℕ) → IsPlaced vars lits at → IsLearned db lits start limit i learned hints → limit ≤ length lits → lit ≡ neg (get_or lits i 0)
    → (second ≡ 0) ⊎ Any (λ l. (l ≢ lit) × (get_or at (l / 2) 0 ≡ second)) learned → second ≤ start
second_le vars db lits at start limit i learned hints lit second placed is le e met = ⊎_elim (λ (z : second ≡ 0). omega arith)
    (λ (a : Any (λ l. (l ≢ lit) × (get_or at (l / 2) 0 ≡ second)) learned).
    let w = a.4 in
    ⊎_elim (λ (s : a.1 ≡ neg (get_or lits i 0)). absurd (w.0 (s ∙ sym e)))
    (λ (s : StandsBelow lits start (neg a.1)). let p = place_of vars lits at start a.1 placed (omega (arith, is.above, is.below)) s in omega (arith, w.1)) (is.stands a.1 (a.0, a.2, get_or_default learned a.0 a.1 a.1 a.2 ∙ a.3))) met

pub cut_below : (reasons starts : List ℕ) (level cut second : ℕ) → AreStarts reasons starts → 0 < level → level ≤ length starts → cut ≤ length starts → second ≤ get_or starts (level - 1) 0 → (0 < cut → get_or starts (cut - 1) 0 < second) → cut < level
cut_below reasons starts level cut second s pos le lc room below = ⊎_elim (λ (a : cut < level). a)
    (λ (b : level ≤ cut). absurd (
    let c = below (omega arith) in
    ⊎_elim (λ (e : level ≡ cut). let z : get_or starts (level - 1) 0 ≡ get_or starts (cut - 1) 0 = ap (λ (n : ℕ). get_or starts (n - 1) 0) e in omega arith)
    (λ (ne : level ≢ cut). let r = s.rising (level - 1) (cut - 1) (omega arith) (omega arith) in omega arith) (cases_eq level cut))) (cases_lt cut level)

pub cut_start : (reasons starts : List ℕ) (level cut : ℕ) → AreStarts reasons starts → cut < level → level ≤ length starts → get_or starts cut 0 ≤ get_or starts (level - 1) 0
cut_start reasons starts level cut s lt le = ⊎_elim (λ (e : cut ≡ level - 1). let z : get_or starts cut 0 ≡ get_or starts (level - 1) 0 = ap (λ (n : ℕ). get_or starts n 0) e in omega arith)
    (λ (ne : cut ≢ level - 1). let r = s.rising cut (level - 1) (omega arith) (omega arith) in omega arith) (cases_eq cut (level - 1))

-- what the learned clause implies after going back
pub learned_reasoned : (vars : ℕ) (db : List (List ℕ)) (lits at : List ℕ) (start limit i : ℕ) (learned hints : List ℕ) (lit second cut n : ℕ) → IsPlaced vars lits at → IsLearned db lits start limit i learned hints → limit ≤ length lits → lit ≡ neg (get_or lits i 0)
    → ((l : ℕ) → Contains learned l → (l ≡ lit) ⊎ (get_or at (l / 2) 0 ≤ second)) → second ≤ cut → cut ≤ length lits → n ≡ length (db ++ learned ∷ [])
    → Reasoned (db ++ learned ∷ []) (take cut lits ++ lit ∷ []) (length (take cut lits)) n
learned_reasoned vars db lits at start limit i learned hints lit second cut n placed is le e most sc cl len =
    let m = length-take-le cut lits cl in
    let size = length_push db learned in
    let here : clause_at (db ++ learned ∷ []) n ≡ learned = get_or_push db learned [] (n - 1) (omega arith) in
    reasoned_new (db ++ learned ∷ []) (take cut lits) lit n (omega arith)
    (subst (λ (xs : List ℕ). Contains xs lit) (sym here) (subst (Contains learned) (sym e) is.inside))
    (subst (λ (xs : List ℕ). All (λ m. (m ≡ lit) ⊎ StandsBelow (take cut lits) (length (take cut lits)) (neg m)) xs) (sym here)
    (λ k d lt.
    let l : ℕ = get_or learned k d in
    let c = Contains-get_or learned k d lt in
    ⊎_elim (λ (s : l ≡ lit). inl s)
    (λ (low : get_or at (l / 2) 0 ≤ second).
    let p = place_of vars lits at limit l placed le (learned_stands db lits start limit i learned hints is le l c) in
    inr (get_or at (l / 2) 0 - 1, omega (arith, p.0), get_or-take cut lits (get_or at (l / 2) 0 - 1) 0 (omega (arith, p.0)) ∙ p.2)) (most l c)))

-- the conflict is false below one past its greatest place
pub wrong_below : (vars : ℕ) (lits at clause : List ℕ) (from : ℕ) → IsPlaced vars lits at → vars < 2 ^ 31 → ((l : ℕ) → Contains clause l → (l ≡ 4294967295) ⊎ (get_or at (l / 2) 0 ≤ from)) → IsWrong lits (length lits) clause → IsWrong lits from clause
wrong_below vars lits at clause from placed few most wrong = λ k d lt.
    let l : ℕ = get_or clause k d in
    let w = wrong k d lt in
    let p = place_of vars lits at (length lits) l placed (omega arith) w in
    ⊎_elim (λ (e : l ≡ 4294967295). absurd (let b = stands_small vars lits at (length lits) l placed (omega arith) w in omega arith))
    (λ (low : get_or at (l / 2) 0 ≤ from). (get_or at (l / 2) 0 - 1, omega (arith, p.0), p.2)) (most l (Contains-get_or clause k d lt))

pub from_le : (vars : ℕ) (lits at clause : List ℕ) (from : ℕ) → IsPlaced vars lits at → (from ≡ 0) ⊎ Any (λ l. (l ≢ 4294967295) × (get_or at (l / 2) 0 ≡ from)) clause → from ≤ length lits
from_le vars lits at clause from placed met = ⊎_elim (λ (z : from ≡ 0). omega arith)
    (λ (a : Any (λ l. (l ≢ 4294967295) × (get_or at (l / 2) 0 ≡ from)) clause). ⊎_elim (λ (z : from ≡ 0). omega arith) (λ (nz : from ≢ 0). let f = placed.found (a.1 / 2) (omega (arith, a.4.1)) in omega (arith, f.0, a.4.1)) (cases_eq from 0)) met

pub top_stands : (vars : ℕ) (lits at clause : List ℕ) (from start : ℕ) → IsPlaced vars lits at → start < from → (from ≡ 0) ⊎ Any (λ l. (l ≢ 4294967295) × (get_or at (l / 2) 0 ≡ from)) clause → IsWrong lits (length lits) clause → Any (λ m. StandsFrom lits start from (neg m)) clause
top_stands vars lits at clause from start placed lt met wrong = ⊎_elim (λ (z : from ≡ 0). absurd (omega arith))
    (λ (a : Any (λ l. (l ≢ 4294967295) × (get_or at (l / 2) 0 ≡ from)) clause).
    let w = subst (λ (m : ℕ). StandsBelow lits (length lits) (neg m)) a.3 (wrong a.0 a.1 a.2) in
    let p = place_of vars lits at (length lits) a.1 placed (omega arith) w in
    (a.0, a.1, a.2, a.3, (get_or at (a.1 / 2) 0 - 1, omega (arith, a.4.1), omega (arith, a.4.1), p.2))) met

-- where every variable has a value, no clause is open
pub all_stand : (lits at : List ℕ) (db : List (List ℕ)) → AreWithin (length at) db → ((v : ℕ) → v < length at → 0 < get_or at v 0) → All (λ c. IsTrueIn lits c ⊎ IsOpenIn at c) db → Standing lits db
all_stand lits at db within none all = λ k d lt. ⊎_elim (λ (h : IsTrueIn lits (get_or db k d)). h)
    (λ (o : IsOpenIn at (get_or db k d)). absurd (
    let w = within k d lt o.0 o.1 o.2 in
    let e : get_or (get_or db k d) o.0 o.1 < 2 * length at = w in
    let n = none (o.1 / 2) (let z = o.3 in omega arith) in omega (arith, o.4))) (all k d lt)

pub standing_front : (lits : List ℕ) (a b : List (List ℕ)) → Standing lits (a ++ b) → Standing lits a
standing_front lits a b all = λ k d lt. subst (λ (c : List ℕ). Any (StandsBelow lits (length lits)) c) (get_or_append_left a b d k lt) (all k d (omega (arith, length-append a b)))

-- a row in which all literals of the trail are true
pub standing_satisfies : (lits : List ℕ) (row : List Bool) (db : List (List ℕ)) → ((l : ℕ) → StandsBelow lits (length lits) l → MakesTrue row l) → Standing lits db → Satisfies row db
standing_satisfies lits row db trues all = λ k d lt. let a = all k d lt in (a.0, a.1, a.2, a.3, trues a.1 a.4)

-- the row of a trail on which every clause stands
pub standing_row : (vars : ℕ) (formula now : List (List ℕ)) (trail : Trail) (row : List Bool) → length trail.at.items ≡ vars → now ≡ formula → Standing trail.lits.items now → IsRowOf trail row → (length row ≡ vars) × (satisfies row (signed_clauses formula) ≡ true)
standing_row vars formula now trail row size e all r = (
  r.size ∙ size,
  satisfies_signed row formula (standing_satisfies trail.lits.items row formula r.trues (subst (Standing trail.lits.items) e all)),
)
