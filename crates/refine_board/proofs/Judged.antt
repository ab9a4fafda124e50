-- What a verdict under the board's classes shows.
use Rattle.std.proofs.Common.{◌≡◌, ◌∙◌, ◌<◌, ◌≤◌, ℕ, List, Bool, true, false, not, refl, ap, ap₂, sym, subst, arith}
use Rattle.std.proofs.lemmas.List.{ext_get_or}
use Rattle.circ_model.specs.Meaning.{Pair, bit, literal, places_of, signed}
use Rattle.class_partition.specs.declared.classes.Needed.{Needed}
use Rattle.class_partition.specs.Classes.{Classes, ArePartition, IsNeeded, Passes, least_of, needed, phase_of}
use Rattle.circ_model.specs.Correspondence.{Corresponds}
use Rattle.circ_model.specs.Runs.{phases}
use Rattle.used_pairs.specs.Lists.{PassesBy}
use Rattle.verdict_stamp.specs.declared.used.Used.{Used}
use Rattle.verdict_stamp.specs.declared.used.Used.TheVariants as used
use Rattle.verdict_stamp.specs.Versions.{Standing, Passed, IsPassed, IsKnown}
use Rattle.refine_board.specs.States.{IsNeededPair}
use Rattle.refine_board.specs.Schedules.{RestsOn}
use Rattle.refine_board.specs.Running.{Counts, CountsBy, IsAbout, IsAsked, IsUnder}

pub counted_pair : (pair : Pair) (k : ℕ) (classes : Classes) (w : Passed) (p : Needed) → IsPassed w → IsUnder pair k classes w.version → IsAbout w p → IsNeededPair (places_of pair) classes p × Passes pair k classes p.member
counted_pair pair k classes w p is under about =
    let needed_1 : IsNeeded (places_of pair) w.version.classes w.member = subst (λ (x : Pair). IsNeeded (places_of x) w.version.classes w.member) under.0 is.is_needed in
    let needed_2 : IsNeeded (places_of pair) classes w.member = subst (λ (c : Classes). IsNeeded (places_of pair) c w.member) under.2 needed_1 in
    let needed_3 : IsNeeded (places_of pair) classes p.member = subst (IsNeeded (places_of pair) classes) about.0 needed_2 in
    let passes_1 : Passes pair w.version.k w.version.classes w.member = subst (λ (x : Pair). Passes x w.version.k w.version.classes w.member) under.0 is.passes in
    let passes_2 : Passes pair k w.version.classes w.member = subst (λ (n : ℕ). Passes pair n w.version.classes w.member) under.1 passes_1 in
    let passes_3 : Passes pair k classes w.member = subst (λ (c : Classes). Passes pair k c w.member) under.2 passes_2 in
    let rep_1 : least_of classes w.member ≡ p.rep = subst (λ (c : Classes). least_of c w.member ≡ p.rep) under.2 about.1 in
    let rep_2 : least_of classes p.member ≡ p.rep = subst (λ (m : ℕ). least_of classes m ≡ p.rep) about.0 rep_1 in
    ((needed_3, rep_2), subst (Passes pair k classes) about.0 passes_3)

-- what a verdict that counts shows of its pair
abbrev pub IsJudged : Pair → ℕ → Classes → Needed → Used → Type 0
IsJudged pair k classes p w = IsNeededPair (places_of pair) classes p × RestsOn pair k classes p.member w

counted_by_version : (pair : Pair) (k : ℕ) (classes : Classes) (w : Passed) (p : Needed) → IsPassed w → IsAbout w p → IsUnder pair k classes w.version → IsJudged pair k classes p used.Version
counted_by_version pair k classes w p is about under = counted_pair pair k classes w p is under about

-- a known pair of a version is known of all classes by the same phases with that least place
counted_by_known : (pair : Pair) (k : ℕ) (classes : Classes) (w : Passed) (p : Needed) (j : ℕ) → IsPassed w → IsAbout w p → w.used ≡ used.Known j → w.version.classes.phase ≡ phases w.version.pair → classes.phase ≡ phases pair
    → CountsBy pair k classes w (used.Known j) → IsJudged pair k classes p (used.Known j)
counted_by_known pair k classes w p j is about known found own (pair_is, k_is, need) =
    let phase : w.version.classes.phase ≡ classes.phase = found ∙ ap phases pair_is ∙ sym own in
    let m : ℕ = w.member in
    let is_known = is.known j known in
    let same : needed w.version.classes m ≡ needed classes m = ap₂ (λ (q : ℕ) (bits : List Bool). (literal q false, literal m (signed (bit bits q) (bit bits m)))) (sym need.1) phase in
    let k1 : Corresponds pair j (needed w.version.classes m).0 (needed w.version.classes m).1 = subst (λ (x : Pair). Corresponds x j (needed w.version.classes m).0 (needed w.version.classes m).1) pair_is is_known.2 in
    let k2 : Corresponds pair j (needed classes m).0 (needed classes m).1 = subst (λ (x : ℕ × ℕ). Corresponds pair j x.0 x.1) same k1 in
    let le : j ≤ k = subst (λ (n : ℕ). j ≤ n) k_is is_known.1 in
    ((subst (IsNeeded (places_of pair) classes) about.0 need.0, ap (least_of classes) (sym about.0) ∙ need.1 ∙ about.1), (is_known.0, le, subst (IsKnown pair j classes) about.0 k2))

-- and one that passed by pairs passes by them under these, where they have them together
counted_by_pairs : (pair : Pair) (k : ℕ) (classes : Classes) (w : Passed) (p : Needed) (pairs : List Needed) → IsPassed w → IsAbout w p → w.used ≡ used.Pairs pairs → w.version.classes.phase ≡ phases w.version.pair → classes.phase ≡ phases pair
    → CountsBy pair k classes w (used.Pairs pairs) → IsJudged pair k classes p (used.Pairs pairs)
counted_by_pairs pair k classes w p pairs is about listed found own (pair_is, k_is, need, together) =
    let phase : w.version.classes.phase ≡ classes.phase = found ∙ ap phases pair_is ∙ sym own in
    let m : ℕ = w.member in
    let same : needed w.version.classes m ≡ needed classes m = ap₂ (λ (q : ℕ) (bits : List Bool). (literal q false, literal m (signed (bit bits q) (bit bits m)))) (sym need.1) phase in
    let by_1 : PassesBy pair w.version.k w.version.classes.phase pairs (needed w.version.classes m) = subst (λ (x : Pair). PassesBy x w.version.k w.version.classes.phase pairs (needed w.version.classes m)) pair_is (is.listed pairs listed) in
    let by_2 : PassesBy pair k w.version.classes.phase pairs (needed w.version.classes m) = subst (λ (n : ℕ). PassesBy pair n w.version.classes.phase pairs (needed w.version.classes m)) k_is by_1 in
    let by_3 : PassesBy pair k classes.phase pairs (needed w.version.classes m) = subst (λ (bits : List Bool). PassesBy pair k bits pairs (needed w.version.classes m)) phase by_2 in
    let by_4 : PassesBy pair k classes.phase pairs (needed classes m) = subst (PassesBy pair k classes.phase pairs) same by_3 in
    ((subst (IsNeeded (places_of pair) classes) about.0 need.0, ap (least_of classes) (sym about.0) ∙ need.1 ∙ about.1), (together, subst (λ (q : ℕ). PassesBy pair k classes.phase pairs (needed classes q)) about.0 by_4))

pub judged : (pair : Pair) (k : ℕ) (classes : Classes) (w : Passed) (p : Needed) → IsPassed w → IsAbout w p → w.version.classes.phase ≡ phases w.version.pair → classes.phase ≡ phases pair → Counts pair k classes w → IsJudged pair k classes p w.used
judged pair k classes w p is about found own counts = of w.used refl counts
  where
    of : (u : Used) → w.used ≡ u → CountsBy pair k classes w u → IsJudged pair k classes p u
    of used.Version e counts = counted_by_version pair k classes w p is about counts
    of (used.Pairs pairs) e counts = counted_by_pairs pair k classes w p pairs is about e found own counts
    of (used.Known j) e counts = counted_by_known pair k classes w p j is about e found own counts

pub not_true : (b : Bool) → not b ≡ true → b ≡ false
not_true true e = cc
not_true false e = refl

-- two partitions of as many places with the same least places and phases
pub same_partition : (n : ℕ) (a b : Classes) → ArePartition n a → ArePartition n b → ((q : ℕ) → q < n → least_of a q ≡ least_of b q) → ((q : ℕ) → q < n → phase_of a q ≡ phase_of b q) → a ≡ b
same_partition n a b is_a is_b least phase =
    let l : a.least ≡ b.least = ext_get_or 0 a.least b.least (is_a.least_len ∙ sym is_b.least_len) (λ i lt. least i (omega (arith, lt, is_a.least_len))) in
    let f : a.phase ≡ b.phase = ext_get_or false a.phase b.phase (is_a.phase_len ∙ sym is_b.phase_len) (λ i lt. phase i (omega (arith, lt, is_a.phase_len))) in
    ap₂ (λ (x : List ℕ) (y : List Bool). record { least = x; phase = y }) l f

-- the pair of a place, under a version with the board's classes
pub asked_of : (pair : Pair) (k : ℕ) (classes : Classes) (v : Standing) (p : Needed) → IsUnder pair k classes v → IsNeededPair (places_of pair) classes p → IsAsked v p
asked_of pair k classes v p under need =
    let n1 : IsNeeded (places_of pair) v.classes p.member = subst (λ (c : Classes). IsNeeded (places_of pair) c p.member) (sym under.2) need.0 in
    let n2 : IsNeeded (places_of v.pair) v.classes p.member = subst (λ (x : Pair). IsNeeded (places_of x) v.classes p.member) (sym under.0) n1 in
    (n2, sym need.1 ∙ ap (λ (c : Classes). least_of c p.member) (sym under.2))

-- a verdict on a pair that was asked is about it
pub about_of : (v : Standing) (p : Needed) (w : Passed) → IsAsked v p → w.version ≡ v → w.member ≡ p.member → IsAbout w p
about_of v p w asked version member =
    (member, ap (λ (s : Standing). least_of s.classes w.member) version ∙ ap (least_of v.classes) member ∙ sym asked.1)
