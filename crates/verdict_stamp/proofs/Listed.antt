-- A pair that passes by pairs which classes have together passes under these classes.
use Rattle.std.proofs.Common.{◌≡◌, ◌==◌, ◌&&◌, ◌∙◌, ◌<◌, ℕ, Bool, true, false, ltb, List, [], ◌∷◌, IfSome, Option, Some, length, ap, sym, subst}
use Rattle.std.proofs.lemmas.Bool.{and_parts, ltb-true, eqb-true}
use Rattle.std.proofs.lemmas.List.Elements.{All-nil, All-cons}
use Rattle.circ_model.specs.Meaning.{Pair, bit, signed, row_at, places_of}
use Rattle.circ_model.specs.Correspondence.{HoldsIn}
use Rattle.circ_model.proofs.Literals.{value_of_literal}
use Rattle.class_partition.specs.declared.classes.Needed.{Needed}
use Rattle.class_partition.specs.Classes.{Classes, ArePartition, IsNeeded, HoldIn, Passes, least_of, phase_of, needed, relative}
use Rattle.class_partition.proofs.Signs.{apart_from_together}
use Rattle.class_partition.proofs.Partition.{relative_from_needed}
use Rattle.frame_graph.specs.Inductions.{BasePasses, StepPasses}
use Rattle.used_pairs.specs.Lists.{literals_of, AllHold, StepsBy, PassesBy, is_together, all_together}
use Rattle.verdict_stamp.specs.declared.used.Used.TheVariants.{Known, Pairs, Version}
use Rattle.verdict_stamp.specs.Versions.{Standing, IsPassed, IsVersion, induction_of}

-- a pair that classes have together holds in a row where they do
pair_holds : (classes : Classes) (row : List Bool) (u : Needed) → HoldIn (length classes.least) classes row → is_together classes u ≡ true → HoldsIn row (literals_of classes.phase u)
pair_holds classes row u hold is =
    let r : ℕ = u.rep in
    let m : ℕ = u.member in
    let one = and_parts (ltb r (length classes.least) && ltb m (length classes.least)) (least_of classes r == least_of classes m) is in
    let two = and_parts (ltb r (length classes.least)) (ltb m (length classes.least)) one.0 in
    let same : least_of classes r ≡ least_of classes m = eqb-true _ _ one.1 in
    let low : relative classes row (least_of classes r) ≡ relative classes row r = relative_from_needed classes row r (hold r (ltb-true _ _ two.0)) in
    let high : relative classes row (least_of classes m) ≡ relative classes row m = relative_from_needed classes row m (hold m (ltb-true _ _ two.1)) in
    let e : relative classes row r ≡ relative classes row m = sym low ∙ ap (relative classes row) same ∙ high in
    value_of_literal row r false ∙ apart_from_together (phase_of classes r) (phase_of classes m) (bit row r) (bit row m) e ∙ sym (value_of_literal row m (signed (phase_of classes r) (phase_of classes m)))

pub pairs_hold : (classes : Classes) (row : List Bool) (pairs : List Needed) → HoldIn (length classes.least) classes row → all_together classes pairs ≡ true → AllHold classes.phase pairs row
pairs_hold classes row [] hold is = All-nil (λ u. HoldsIn row (literals_of classes.phase u))
pairs_hold classes row (u ∷ us) hold is =
    let parts = and_parts (is_together classes u) (all_together classes us) is in
    All-cons (λ v. HoldsIn row (literals_of classes.phase v)) u us (pair_holds classes row u hold parts.0) (pairs_hold classes row us hold parts.1)

pub passes_by : (pair : Pair) (k : ℕ) (classes : Classes) (m : ℕ) (pairs : List Needed) → ArePartition (places_of pair) classes → all_together classes pairs ≡ true → PassesBy pair k classes.phase pairs (needed classes m) → Passes pair k classes m
passes_by pair k classes m pairs is together by = record {
  base = by.base;
  step = λ path walks len hold. by.step path walks len (λ t lt. pairs_hold classes (row_at pair path t) pairs (subst (λ (n : ℕ). HoldIn n classes (row_at pair path t)) (sym is.least_len) (hold t lt)) together);
}

-- a version's needed pair that passes so
same_pairs : (a b : List Needed) → Pairs a ≡ Pairs b → a ≡ b
same_pairs a b e = cc

no_known : (j : ℕ) (pairs : List Needed) → Pairs pairs ≡ Known j → ⊥
no_known j pairs e = cc

-- the two halves of it
pub halves_by : (v : Standing) (m : ℕ) (pairs : List Needed) → BasePasses (induction_of v) m → StepsBy v.pair v.k v.classes.phase pairs (needed v.classes m) → PassesBy v.pair v.k v.classes.phase pairs (needed v.classes m)
halves_by v m pairs base step = record { base = λ run is len t lt. base t lt run (record { is_run = is; rows = len }); step = step }

pub steps_pass : (v : Standing) (m : ℕ) (pairs : List Needed) → IsVersion v → all_together v.classes pairs ≡ true → StepsBy v.pair v.k v.classes.phase pairs (needed v.classes m) → StepPasses (induction_of v) m
steps_pass v m pairs is together by = λ path walks. by path walks.is_path walks.rows (λ t lt. pairs_hold v.classes (row_at v.pair path t) pairs (subst (λ (n : ℕ). HoldIn n v.classes (row_at v.pair path t)) (sym is.partition.least_len) (walks.hold t lt)) together)

pub listed_is : (v : Standing) (m : ℕ) (pairs : List Needed) → IsVersion v → IsNeeded (places_of v.pair) v.classes m → all_together v.classes pairs ≡ true → BasePasses (induction_of v) m → StepsBy v.pair v.k v.classes.phase pairs (needed v.classes m)
    → IsPassed (record { version = v; member = m; used = Pairs pairs })
listed_is v m pairs is need together base step =
    let by : PassesBy v.pair v.k v.classes.phase pairs (needed v.classes m) = halves_by v m pairs base step in
    record {
      is_needed = need;
      passes = passes_by v.pair v.k v.classes m pairs is.partition together by;
      known = λ j e. absurd (no_known j pairs e);
      listed = λ qs e. subst (λ (l : List Needed). PassesBy v.pair v.k v.classes.phase l (needed v.classes m)) (same_pairs pairs qs e) by;
    }

-- what was found of latches, in a version's own words
pub by_latches_is : (v : Standing) (pair : Pair) (classes : Classes) (u : Needed) (found : Option (List Needed)) (pairs : List Needed) → IsVersion v → pair ≡ v.pair → classes ≡ v.classes → found ≡ Some pairs
    → IfSome found (λ l. (k : ℕ) → 0 < k → StepsBy pair k classes.phase l (needed classes u.member)) → IfSome found (λ l. all_together classes l ≡ true)
    → StepsBy v.pair v.k v.classes.phase pairs (needed v.classes u.member) × (all_together v.classes pairs ≡ true)
by_latches_is v pair classes u found pairs is ep ec ef steps together =
    let s1 : (k : ℕ) → 0 < k → StepsBy pair k classes.phase pairs (needed classes u.member) = subst (λ (o : Option (List Needed)). IfSome o (λ l. (k : ℕ) → 0 < k → StepsBy pair k classes.phase l (needed classes u.member))) ef steps in
    let s2 : StepsBy v.pair v.k classes.phase pairs (needed classes u.member) = subst (λ (p : Pair). StepsBy p v.k classes.phase pairs (needed classes u.member)) ep (s1 v.k is.some) in
    let t1 : all_together classes pairs ≡ true = subst (λ (o : Option (List Needed)). IfSome o (λ l. all_together classes l ≡ true)) ef together in
    (subst (λ (c : Classes). StepsBy v.pair v.k c.phase pairs (needed c u.member)) ec s2, subst (λ (c : Classes). all_together c pairs ≡ true) ec t1)

-- what was found of logs, in a version's own words
pub by_logs_is : (v : Standing) (pair : Pair) (k : ℕ) (classes : Classes) (m : ℕ) (found : Option (List Needed)) (pairs : List Needed) → IsVersion v → pair ≡ v.pair → k ≡ v.k → classes ≡ v.classes → found ≡ Some pairs
    → IfSome found (λ l. PassesBy pair k classes.phase l (needed classes m)) → IfSome found (λ l. all_together classes l ≡ true) → IsNeeded (places_of v.pair) v.classes m
    → IsPassed (record { version = v; member = m; used = Pairs pairs }) × Passes v.pair v.k v.classes m
by_logs_is v pair k classes m found pairs is ep ek ec ef passes together need =
    let p1 : PassesBy pair k classes.phase pairs (needed classes m) = subst (λ (o : Option (List Needed)). IfSome o (λ l. PassesBy pair k classes.phase l (needed classes m))) ef passes in
    let p2 : PassesBy v.pair k classes.phase pairs (needed classes m) = subst (λ (p : Pair). PassesBy p k classes.phase pairs (needed classes m)) ep p1 in
    let p3 : PassesBy v.pair v.k classes.phase pairs (needed classes m) = subst (λ (n : ℕ). PassesBy v.pair n classes.phase pairs (needed classes m)) ek p2 in
    let p4 : PassesBy v.pair v.k v.classes.phase pairs (needed v.classes m) = subst (λ (c : Classes). PassesBy v.pair v.k c.phase pairs (needed c m)) ec p3 in
    let t1 : all_together classes pairs ≡ true = subst (λ (o : Option (List Needed)). IfSome o (λ l. all_together classes l ≡ true)) ef together in
    let t2 : all_together v.classes pairs ≡ true = subst (λ (c : Classes). all_together c pairs ≡ true) ec t1 in
    let base : BasePasses (induction_of v) m = λ t lt run walks. p4.base run walks.is_run walks.rows t lt in
    let listed = listed_is v m pairs is need t2 base p4.step in
    (listed, listed.passes)

-- a needed pair that passes, by all needed pairs of its version
not_known : (j : ℕ) → Version ≡ Known j → ⊥
not_known j e = cc

not_listed : (pairs : List Needed) → Version ≡ Pairs pairs → ⊥
not_listed pairs e = cc

pub on_version : (v : Standing) (m : ℕ) → IsNeeded (places_of v.pair) v.classes m → Passes v.pair v.k v.classes m → IsPassed (record { version = v; member = m; used = Version })
on_version v m need passes = record { is_needed = need; passes = passes; known = λ j e. absurd (not_known j e); listed = λ pairs e. absurd (not_listed pairs e) }
