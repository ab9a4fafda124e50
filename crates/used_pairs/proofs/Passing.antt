-- A pair passes by the pairs of which accepted logs reach clauses.
use Rattle.std.proofs.Common.{◌≡◌, ◌∙◌, ◌<◌, ◌+◌, ◌-◌, ℕ, suc, ℤ, Bool, true, false, not, List, [], ◌∷◌, length, get_or, sym, subst, refl, arith, ◌⊎◌, inl, inr, ⊎_elim}
use Rattle.std.specs.List.{Contains}
use Rattle.std.proofs.lemmas.List.{get_or_default}
use Rattle.std.proofs.lemmas.List.Elements.{All-cons, All-contains, All-nil}
use Rattle.circ_model.specs.Meaning.{Pair, Path, IsRun, IsSoundPair, places_of, row_at, signed, value_in}
use Rattle.circ_model.specs.Correspondence.{HoldsIn, IsLiteralPair}
use Rattle.circ_model.proofs.Literals.{half_literal}
use Rattle.class_partition.specs.declared.classes.Needed.{Needed}
use Rattle.class_partition.specs.Classes.{Classes, ArePartition, least_of, needed, phase_of}
use Rattle.cnf_store.specs.Clauses.{clause_true, satisfies}
use Rattle.product_machine.specs.Cells.{Shows}
use Rattle.sat_log.specs.Derivations.{Line, IsAccepted}
use Rattle.sat_log.proofs.Soundness.{clause_in, refuted}
use Rattle.log_check.specs.Reached.{AreReached, IsReached, SatisfiesMarked}
use Rattle.frame_unroll.specs.Frames.{equal_clauses, literal_in, values}
use Rattle.frame_unroll.specs.Members.{member_pairs}
use Rattle.frame_unroll.specs.Pairs.{IsAbout, pairs_of, without_pairs}
use Rattle.frame_unroll.specs.Unrolled.{Unrolling, IsSought, IsUnrolling, asks, clauses_of, formula_of, from_reset}
use Rattle.frame_unroll.proofs.Assigning.{assigned, assignment_of, assignment_shows}
use Rattle.frame_unroll.proofs.Exact.{plain_says}
use Rattle.frame_unroll.proofs.Members.{IsOfMember, members_are, members_within}
use Rattle.frame_unroll.proofs.Pairs.{each_about}
use Rattle.frame_unroll.proofs.Questions.{AreEqual, AreWithin, equals_from}
use Rattle.frame_unroll.proofs.Reading.{literal_shown}
use Rattle.frame_unroll.proofs.Standing.{none_sought}
use Rattle.used_pairs.specs.Lists.{AllHold, PassesBy, StepsBy, literals_of}
use Rattle.used_pairs.specs.Logs.{AreUsed, IsUsed, base_asked, step_asked}

-- two bits are equal, or one is the other's complement
equal_or_not : (x y : Bool) → (x ≡ y) ⊎ (x ≡ not y)
equal_or_not true true = inl refl
equal_or_not true false = inr refl
equal_or_not false true = inr refl
equal_or_not false false = inl refl

-- a clause of a satisfied list
contained_true : (row : List Bool) (clauses : List (List ℤ)) (c : List ℤ) → satisfies row clauses ≡ true → Contains clauses c → clause_true row c ≡ true
contained_true row clauses c sat (k, lt, e) =
    let at : get_or clauses k [] ≡ c = get_or_default clauses k [] c lt ∙ e in
    subst (λ (x : List ℤ). clause_true row x ≡ true) at (clause_in row clauses k sat lt)

-- both literals are of the pair
pub needed_within : (n : ℕ) (classes : Classes) (m : ℕ) → ArePartition n classes → m < n → AreWithin n (needed classes m)
needed_within n classes m is lt =
    let low = is.lower m lt in
    let sign : Bool = signed (phase_of classes (least_of classes m)) (phase_of classes m) in
    (omega (arith, half_literal (least_of classes m) false), omega (arith, half_literal m sign))

-- from reset
pub base_by : (pair : Pair) (k : ℕ) (classes : Classes) (m : ℕ) → IsSoundPair pair → 0 < k → ArePartition (places_of pair) classes → m < places_of pair → ((row : List Bool) → satisfies row (clauses_of (base_asked pair k classes m)) ≡ false)
    → (run : Path) → IsRun pair run → length run.inputs ≡ k → (t : ℕ) → t < k → HoldsIn (row_at pair run t) (needed classes m)
base_by pair k classes m sound some is lt none run from rows t less =
    let a : ℕ = (needed classes m).0 in
    let b : ℕ = (needed classes m).1 in
    let within = needed_within (places_of pair) classes m is lt in
    let fine : IsUnrolling (base_asked pair k classes m) = record { frames = some; needed = All-nil (IsLiteralPair pair); asked = (within.0, within.1, omega arith) } in
    let z : t ≡ 0 + t = omega arith in
    ⊎_elim (λ (e : value_in (row_at pair run t) a ≡ value_in (row_at pair run t) b). e)
    (λ (d : value_in (row_at pair run t) a ≡ not (value_in (row_at pair run t) b)).
    absurd (none_sought (from_reset pair k) (asks a b 0 (k - 1)) sound fine none run (record {
      is_path = from.is_path;
      rows = rows;
      reset = λ _. from;
      classes = λ i before. All-nil (HoldsIn (row_at pair run i));
      asked = (t, omega arith, subst (λ (i : ℕ). value_in (row_at pair run i) a ≡ not (value_in (row_at pair run i) b)) z d);
    })))
    (equal_or_not (value_in (row_at pair run t) a) (value_in (row_at pair run t) b))

-- a clause of a pair that holds in a frame is true where the values are the path's
equal_true : (pair : Pair) (count : ℕ) (row : List Bool) (path : Path) (t : ℕ) (p : ℕ × ℕ) (c : List ℤ) → Shows pair count (values row (places_of pair)) path → t < count → AreWithin (places_of pair) p → HoldsIn (row_at pair path t) p
    → Contains (equal_clauses (literal_in (places_of pair)) t p) c → clause_true row c ≡ true
equal_true pair count row path t p c shows less within holds in' =
    let n : ℕ = places_of pair in
    let same : AreEqual (values row n) t p = literal_shown pair count row path t p.0 shows less within.0 ∙ holds ∙ sym (literal_shown pair count row path t p.1 shows less within.1) in
    contained_true row (equal_clauses (literal_in n) t p) c
    (equals_from n row (literal_in n) (values row n) t (p ∷ []) (plain_says n row) (All-cons (AreWithin n) p [] within (All-nil (AreWithin n))) (All-cons (AreEqual (values row n) t) p [] same (All-nil (AreEqual (values row n) t)))) in'

-- a pair of the list, by its literals
module _ (pair : Pair) (k : ℕ) (classes : Classes) (m : ℕ) (log : List Line) (pairs : List Needed) (is : ArePartition (places_of pair) classes) (used : AreUsed classes (step_asked pair k classes m) log pairs) where
  used_holds : (row : List Bool) (p : ℕ × ℕ) (n : ℕ) → AllHold classes.phase pairs row → IsReached (length (clauses_of (step_asked pair k classes m))) log (n + 1) → Contains (member_pairs (places_of pair) classes) p
      → Contains (pairs_of (step_asked pair k classes m) (n + 1)) p → HoldsIn row p
  used_holds row p n holds reached in' about =
      let (q, lt, other, e) = All-contains (IsOfMember (places_of pair) classes) (member_pairs (places_of pair) classes) p (members_are (places_of pair) classes) in' in
      let v : Needed = record { rep = least_of classes q; member = q } in
      let l = is.least_len in
      let is_used : IsUsed classes (step_asked pair k classes m) log v = record {
        is_needed = (omega arith, other);
        rep = refl;
        reached = (n + 1, reached, subst (Contains (pairs_of (step_asked pair k classes m) (n + 1))) e about);
      } in
      subst (HoldsIn row) (sym e) (All-contains (λ (u : Needed). HoldsIn row (literals_of classes.phase u)) pairs v holds ((used.exact v).1 is_used))

  -- each clause that has a mark is true where the frames' clauses and the question's are, and the pairs hold in the frames before the last
  marked_true : (row : List Bool) (path : Path) (marks : List Bool) → AreReached (length (clauses_of (step_asked pair k classes m))) log (length (clauses_of (step_asked pair k classes m))) marks
      → satisfies row (clauses_of (without_pairs (step_asked pair k classes m))) ≡ true → Shows pair (k + 1) (values row (places_of pair)) path → ((t : ℕ) → t < k → AllHold classes.phase pairs (row_at pair path t))
      → SatisfiesMarked row (clauses_of (step_asked pair k classes m)) marks
  marked_true row path marks reached sat shows holds n lt marked =
      let u : Unrolling = step_asked pair k classes m in
      let next : n + 1 ≡ suc n = omega arith in
      by (get_or (clauses_of u) n []) (pairs_of u (suc n)) (each_about u n lt) (λ p c. subst (λ (h : ℕ). Contains (pairs_of u h) p) (sym next) c)
    where
      by : (c : List ℤ) (ps : List (ℕ × ℕ)) → IsAbout (step_asked pair k classes m) c ps → ((p : ℕ × ℕ) → Contains ps p → Contains (pairs_of (step_asked pair k classes m) (n + 1)) p) → clause_true row c ≡ true
      by c [] about same = contained_true row (clauses_of (without_pairs (step_asked pair k classes m))) c sat about
      by c (p ∷ ps) about same =
          let (t, before, in') = about.2 in
          let less : t < k = omega arith in
          let within = All-contains (AreWithin (places_of pair)) (member_pairs (places_of pair) classes) p (members_within (places_of pair) classes is) about.1 in
          let n_reached = (reached.exact n lt).0 marked in
          equal_true pair (k + 1) row path t p c shows (omega arith) within (used_holds (row_at pair path t) p n (holds t less) n_reached about.1 (same p (0, omega arith, refl))) in'

-- after k frames in which the pairs hold
pub steps_by : (pair : Pair) (k : ℕ) (classes : Classes) (m : ℕ) (log : List Line) (pairs : List Needed) (marks : List Bool) → IsSoundPair pair → ArePartition (places_of pair) classes → m < places_of pair
    → AreUsed classes (step_asked pair k classes m) log pairs → AreReached (length (clauses_of (step_asked pair k classes m))) log (length (clauses_of (step_asked pair k classes m))) marks
    → ((row : List Bool) → SatisfiesMarked row (clauses_of (step_asked pair k classes m)) marks → ⊥) → StepsBy pair k classes.phase pairs (needed classes m)
steps_by pair k classes m log pairs marks sound is lt used reached refuted path is_path rows holds =
    let a : ℕ = (needed classes m).0 in
    let b : ℕ = (needed classes m).1 in
    let u : Unrolling = without_pairs (step_asked pair k classes m) in
    let within = needed_within (places_of pair) classes m is lt in
    let fine : IsUnrolling u = record { frames = omega arith; needed = All-nil (IsLiteralPair pair); asked = (within.0, within.1, omega arith) } in
    let z : k ≡ k + 0 = omega arith in
    ⊎_elim (λ (e : value_in (row_at pair path k) a ≡ value_in (row_at pair path k) b). e)
    (λ (d : value_in (row_at pair path k) a ≡ not (value_in (row_at pair path k) b)).
    let sought : IsSought u path = record {
      is_path = is_path;
      rows = rows;
      reset = λ e. absurd (let f : ⊥ = cc in f);
      classes = λ i before. All-nil (HoldsIn (row_at pair path i));
      asked = (0, omega arith, subst (λ (i : ℕ). value_in (row_at pair path i) a ≡ not (value_in (row_at pair path i) b)) z d);
    } in
    absurd (refuted (assignment_of u path) (marked_true pair k classes m log pairs is used (assignment_of u path) path marks reached (assigned u path sound fine sought) (assignment_shows u path) holds)))
    (equal_or_not (value_in (row_at pair path k) a) (value_in (row_at pair path k) b))

-- what is asked is of literals of the pair
pub asked_literals : (pair : Pair) (classes : Classes) (m : ℕ) (p : ℕ × ℕ) (u : Pair) → u ≡ pair → p ≡ needed classes m → ArePartition (places_of pair) classes → m < places_of pair → IsLiteralPair u p
asked_literals pair classes m p u e f is lt = subst (λ (v : Pair). IsLiteralPair v p) (sym e) (subst (IsLiteralPair pair) (sym f) (needed_within (places_of pair) classes m is lt))

-- both
pub passes_by : (pair : Pair) (k : ℕ) (classes : Classes) (m : ℕ) (base : List Line) (pairs : List Needed) → IsSoundPair pair → 0 < k → ArePartition (places_of pair) classes → m < places_of pair → IsAccepted (formula_of (base_asked pair k classes m)) base
    → StepsBy pair k classes.phase pairs (needed classes m) → PassesBy pair k classes.phase pairs (needed classes m)
passes_by pair k classes m base pairs sound some is lt accepted steps = record { base = base_by pair k classes m sound some is lt (refuted (formula_of (base_asked pair k classes m)) base accepted); step = steps }
