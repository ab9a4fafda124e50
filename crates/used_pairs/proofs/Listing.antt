-- The pairs of the members that have a bit.
use Rattle.std.proofs.Common.{◌≡◌, ◌∙◌, ◌≤◌, ◌<◌, ◌+◌, ◌/◌, ◌*◌, ℕ, ℤ, zero, suc, Bool, true, false, List, [], ◌∷◌, ◌++◌, length, length-append, get_or, sym, ap, subst, refl, arith, ⊎_elim, if◌then◌else◌, zero-add}
use Rattle.std.specs.Prelude.{flat_map, ltb, ◌==◌, ◌&&◌}
use Rattle.std.specs.List.{All, Contains, range_with_len}
use Rattle.std.proofs.lemmas.Bool.{cases_lt, false≢true, and_from, eq-eqb, lt-ltb}
use Rattle.std.proofs.lemmas.List.{get_or_default}
use Rattle.std.proofs.lemmas.List.Elements.{All-cons, All-contains, All-nil, Contains-append_left, Contains-append_right}
use Rattle.circ_model.specs.Meaning.{bit, places_of, signed}
use Rattle.circ_model.proofs.Literals.{half_literal}
use Rattle.class_partition.specs.declared.classes.Needed.{Needed}
use Rattle.class_partition.specs.Classes.{Classes, ArePartition, least_of, needed, phase_of}
use Rattle.sat_log.specs.Derivations.{Line}
use Rattle.log_check.specs.Reached.{AreReached, IsReached}
use Rattle.frame_unroll.specs.Members.{member_pairs}
use Rattle.frame_unroll.specs.Unrolled.{Unrolling, asked_clauses, clauses_of, plain_clauses}
use Rattle.frame_unroll.specs.Pairs.{IsAbout, pairs_of}
use Rattle.frame_unroll.proofs.Members.{IsOfMember, all_pieces, members_are}
use Rattle.frame_unroll.proofs.Pairs.{each_about, pairs_past}
use Rattle.used_pairs.specs.Lists.{all_together, is_together}
use Rattle.used_pairs.specs.Logs.{AreMembers, AreUsed, IsUsed, Rise, pair_with, pairs_with}

-- a pair of a place that has a bit
abbrev IsWith : Classes → List Bool → ℕ → Needed → Type 0
IsWith classes bits n v = (v.member < n) × (bit bits v.member ≡ true) × (v.rep ≡ least_of classes v.member)

all_with : (classes : Classes) (bits : List Bool) (n : ℕ) → All (IsWith classes bits n) (pairs_with classes bits n)
all_with classes bits n = all_pieces (IsWith classes bits n) (pair_with classes bits) 0 n (λ i lt. let z = zero-add i in by (0 + i) (omega arith) (bit bits (0 + i)) refl)
  where
    by : (p : ℕ) → p < n → (b : Bool) → bit bits p ≡ b → All (IsWith classes bits n) (if b then record { rep = least_of classes p; member = p } ∷ [] else [])
    by p lt true e = All-cons (IsWith classes bits n) (record { rep = least_of classes p; member = p }) [] (lt, e, refl) (All-nil (IsWith classes bits n))
    by p lt false e = All-nil (IsWith classes bits n)

-- what one piece has, the whole has
in_piece : {X : Type 0} (f : ℕ → List X) (from n i : ℕ) (x : X) → i < n → Contains (f (from + i)) x → Contains (flat_map f (range_with_len from n)) x
in_piece f from zero i x lt c = absurd (omega arith)
in_piece f from (suc n) zero x lt c = let e : from + 0 ≡ from = omega arith in Contains-append_left (f from) (flat_map f (range_with_len (from + 1) n)) x (subst (λ (m : ℕ). Contains (f m) x) e c)
in_piece f from (suc n) (suc i) x lt c =
    let e : from + suc i ≡ (from + 1) + i = omega arith in
    Contains-append_right (f from) (flat_map f (range_with_len (from + 1) n)) x (in_piece f (from + 1) n i x (omega arith) (subst (λ (m : ℕ). Contains (f m) x) e c))

with_in : (classes : Classes) (bits : List Bool) (n : ℕ) (v : Needed) → IsWith classes bits n v → Contains (pairs_with classes bits n) v
with_in classes bits n v (lt, is, rep) =
    let z : v.member ≡ 0 + v.member = omega arith in
    in_piece (pair_with classes bits) 0 n v.member v lt (subst (λ (p : ℕ). Contains (pair_with classes bits p) v) z (by (bit bits v.member) is))
  where
    by : (b : Bool) → b ≡ true → Contains (if b then record { rep = least_of classes v.member; member = v.member } ∷ [] else []) v
    by true e = (0, omega arith, ap (λ (r : ℕ). record { rep = r; member = v.member }) (sym rep))
    by false e = absurd (false≢true e)

-- members rise, from a place on
abbrev AreFrom : ℕ → List Needed → Type 0
AreFrom from vs = All (λ (v : Needed). from ≤ v.member) vs × Rise vs

rise_from : (classes : Classes) (bits : List Bool) (from n : ℕ) → AreFrom from (flat_map (pair_with classes bits) (range_with_len from n))
rise_from classes bits from zero = (All-nil (λ (v : Needed). from ≤ v.member), tt)
rise_from classes bits from (suc n) = by (bit bits from) (rise_from classes bits (from + 1) n)
  where
    later : (vs : List Needed) → All (λ (v : Needed). from + 1 ≤ v.member) vs → All (λ (v : Needed). from ≤ v.member) vs
    later vs all k d lt = let h = all k d lt in omega arith

    by : (b : Bool) → AreFrom (from + 1) (flat_map (pair_with classes bits) (range_with_len (from + 1) n))
        → AreFrom from ((if b then record { rep = least_of classes from; member = from } ∷ [] else []) ++ flat_map (pair_with classes bits) (range_with_len (from + 1) n))
    by true (all, rise) =
        let rest : List Needed = flat_map (pair_with classes bits) (range_with_len (from + 1) n) in
        (All-cons (λ (v : Needed). from ≤ v.member) (record { rep = least_of classes from; member = from }) rest (omega arith) (later rest all), ((λ k d lt. let h = all k d lt in omega arith), rise))
    by false (all, rise) = (later (flat_map (pair_with classes bits) (range_with_len (from + 1) n)) all, rise)

-- what a clause is about is needed
about_needed : (u : Unrolling) (c : List ℤ) (ps : List (ℕ × ℕ)) (q : ℕ × ℕ) → IsAbout u c ps → Contains ps q → Contains u.needed q
about_needed u c [] q about (k, lt, e) = absurd (omega arith)
about_needed u c (p ∷ ps) q about in' =
    let alone : Contains (p ∷ []) q = subst (λ (xs : List (ℕ × ℕ)). Contains (p ∷ xs) q) about.0 in' in
    subst (Contains u.needed) (only p q alone) about.1
  where
    only : (x y : ℕ × ℕ) → Contains (x ∷ []) y → x ≡ y
    only x y (zero, lt, e) = e
    only x y (suc k, lt, e) = absurd (omega arith)

pairs_needed : (u : Unrolling) (n : ℕ) (q : ℕ × ℕ) → n < length (clauses_of u) → Contains (pairs_of u (suc n)) q → Contains u.needed q
pairs_needed u n q lt in' = about_needed u (get_or (clauses_of u) n []) (pairs_of u (suc n)) q (each_about u n lt) in'

-- its member is a place
pub members_places : (u : Unrolling) (n places size : ℕ) (pairs : List (ℕ × ℕ)) → All (λ p. p.1 / 2 < places) u.needed → n < length (clauses_of u) → size ≡ places → pairs ≡ pairs_of u (n + 1) → All (λ p. p.1 / 2 < size) pairs
members_places u n places size pairs within lt e is k d less =
    let next : n + 1 ≡ suc n = omega arith in
    let q : ℕ × ℕ = get_or pairs k d in
    let here : Contains pairs q = (k, less, get_or_default pairs k q d less) in
    let needs = All-contains (λ (p : ℕ × ℕ). p.1 / 2 < places) u.needed q within (pairs_needed u n q lt (subst (λ (ps : List (ℕ × ℕ)). Contains ps q) (is ∙ ap (pairs_of u) next) here)) in
    omega arith

module _ (classes : Classes) (u : Unrolling) (log : List Line) (marks bits : List Bool) (is : ArePartition (length classes.least) classes) (all : u.needed ≡ member_pairs (length classes.least) classes)
    (reached : AreReached (length (clauses_of u)) log (length (clauses_of u)) marks) (members : AreMembers u marks (length marks) (length classes.least) bits) where
  used_from : (v : Needed) → IsWith classes bits (length classes.least) v → IsUsed classes u log v
  used_from v (lt, set, rep) =
      let (n, within, marked, (q, in', half)) = (members.exact v.member).0 set in
      let size = reached.size in
      let there : n < length (clauses_of u) = omega arith in
      let next : suc n ≡ n + 1 = omega arith in
      let is_needed = pairs_needed u n q there in' in
      let (r, less, other, e) = All-contains (IsOfMember (length classes.least) classes) (member_pairs (length classes.least) classes) q (members_are (length classes.least) classes) (subst (λ (ps : List (ℕ × ℕ)). Contains ps q) all is_needed) in
      let same : r ≡ v.member = sym (half_literal r (signed (phase_of classes (least_of classes r)) (phase_of classes r))) ∙ sym (ap (λ (x : ℕ × ℕ). x.1 / 2) e) ∙ half in
      record {
        is_needed = (lt, subst (λ (p : ℕ). least_of classes p ≡ p → ⊥) same other);
        rep = rep;
        reached = (n + 1, (reached.exact n there).0 marked, subst (λ (h : ℕ). Contains (pairs_of u h) (needed classes v.member)) next (subst (λ (x : ℕ × ℕ). Contains (pairs_of u (suc n)) x) (e ∙ ap (needed classes) same) in'));
      }

  used_set : (v : Needed) (h : ℕ) → IsReached (length (clauses_of u)) log h → Contains (pairs_of u h) (needed classes v.member) → bit bits v.member ≡ true
  used_set v zero r c = absurd (let (k, lt, e) = c in omega arith)
  used_set v (suc n) r c = ⊎_elim
      (λ (within : n < length (clauses_of u)).
      let size = reached.size in
      let next : suc n ≡ n + 1 = omega arith in
      let marked = (reached.exact n within).1 (subst (IsReached (length (clauses_of u)) log) next r) in
      let sign : Bool = signed (phase_of classes (least_of classes v.member)) (phase_of classes v.member) in
      (members.exact v.member).1 (n, omega arith, marked, (needed classes v.member, c, half_literal v.member sign)))
      (λ (past : length (clauses_of u) ≤ n).
      let l = length-append (plain_clauses u) (asked_clauses (places_of u.pair) (u.frames * places_of u.pair) u.asked) in
      let (k, lt, e) = subst (λ (ps : List (ℕ × ℕ)). Contains ps (needed classes v.member)) (pairs_past u n (omega arith)) c in absurd (omega arith))
      (cases_lt n (length (clauses_of u)))

  pub used_are : AreUsed classes u log (pairs_with classes bits (length classes.least))
  used_are = record {
    rise = (rise_from classes bits 0 (length classes.least)).1;
    exact = λ v. (
      (λ c. used_from v (All-contains (IsWith classes bits (length classes.least)) (pairs_with classes bits (length classes.least)) v (all_with classes bits (length classes.least)) c)),
      (λ w. with_in classes bits (length classes.least) v (w.is_needed.0, used_set v w.reached.0 w.reached.1 w.reached.2, w.rep)),
    );
  }

-- they have both places together
pub together_all : (classes : Classes) (vs : List Needed) → All (λ (v : Needed). is_together classes v ≡ true) vs → all_together classes vs ≡ true
together_all classes [] all = refl
together_all classes (v ∷ vs) all =
    and_from (is_together classes v) (all_together classes vs) (all 0 v (omega arith)) (together_all classes vs (λ k d lt. all (suc k) d (omega arith)))

-- and so have needed pairs
pub used_together : (classes : Classes) (u : Unrolling) (log : List Line) (pairs : List Needed) → ArePartition (length classes.least) classes → AreUsed classes u log pairs → all_together classes pairs ≡ true
used_together classes u log pairs is used = together_all classes pairs (λ k d lt. one (get_or pairs k d) ((used.exact (get_or pairs k d)).0 (k, lt, get_or_default pairs k (get_or pairs k d) d lt)))
  where
    one : (v : Needed) → IsUsed classes u log v → is_together classes v ≡ true
    one v w =
        let lt = w.is_needed.0 in
        let n : ℕ = length classes.least in
        let low = is.lower v.member lt in
        let rep = w.rep in
        and_from (ltb v.rep n && ltb v.member n) (least_of classes v.rep == least_of classes v.member)
        (and_from (ltb v.rep n) (ltb v.member n) (lt-ltb v.rep n (omega arith)) (lt-ltb v.member n lt))
        (eq-eqb (least_of classes v.rep) (least_of classes v.member) (ap (least_of classes) rep ∙ is.fixed v.member lt))
